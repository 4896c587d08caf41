-- The plan with slips of the arm, in bytes, and what planning it answers and leaves: request 11.
use Rattle.std.specs.Prelude.{ℕ, suc, ◌+◌, ◌*◌, ◌≤◌, ◌<◌, List, ◌++◌, ◌≡◌, length, get_or, drop}
use Rattle.game.specs.Game.{Arena, Right}
use Rattle.rules.specs.Job.{Job, place, places, entry_number, arena}
use Rattle.rules.specs.Fault.{Fault, only}
use Rattle.rules.specs.Bytes.{fault, refusal, said}
use Rattle.rules.specs.Plan.{entry}
use Rattle.rules.specs.declared.place.Place.{Place}
use Rattle.larger.specs.Larger.{Larger, larger, slipping}

-- the game of a job with up to K slips
abbrev pub larger_arena : Job → ℕ → Arena
larger_arena j K = slipping (arena j) K

-- a plan for each count of slips, slips 0 first: place s, q with k slips left has entry k·S·Q + s·Q + q
abbrev pub larger_number : Job → Larger Place → ℕ
larger_number j x = x.slips * places j + entry_number j.goals x.at

abbrev pub larger_places : Job → ℕ → ℕ
larger_places j K = suc K * places j

abbrev pub larger_room : Job → ℕ → ℕ
larger_room j K = 4 * larger_places j K

-- p is the plan of j for up to K slips: four bytes for each larger place, and each entry says what is right
pub record LargerPlan (j : Job) (K : ℕ) (p : List ℕ) : Type 0 where
  pub long : length p ≡ larger_room j K
  pub bytes : (y : ℕ) → y < length p → get_or p y 0 < 256
  pub right : (k s q : ℕ) → k ≤ K → s < j.states → q < j.goals
      → Right (larger_arena j K) (larger k (place s q)) (entry p (larger_number j (larger k (place s q))))

-- `Trembling b K before f after`: planning the job b for up to K slips into a buffer that holds `before` answers f and leaves `after`.
-- The first that applies: the numbers of the job alone, with the record of 12 and 13; 18 for K above 3; 7 for less than K + 1 plans' room. A refusal
-- keeps every byte, and bytes beyond the plans stay.
pub data Trembling (b : List ℕ) (K : ℕ) (before : List ℕ) : Fault → List ℕ → Type 0 where
  refused : (refusal b ≡ 0 → ⊥) → Trembling b K before (fault b) before
  too_many : refusal b ≡ 0 → 3 < K → Trembling b K before (only 18) before
  no_room : refusal b ≡ 0 → K ≤ 3 → length before < larger_room (said b) K → Trembling b K before (only 7) before
  planned : {p : List ℕ} → refusal b ≡ 0 → K ≤ 3 → larger_room (said b) K ≤ length before → LargerPlan (said b) K p
      → Trembling b K before (only 0) (p ++ drop (larger_room (said b) K) before)
