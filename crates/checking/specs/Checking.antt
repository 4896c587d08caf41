-- What the check of a plan from elsewhere answers, on every input: document 02, "Check a plan from elsewhere".
use Rattle.std.specs.Prelude.{ℕ, ◌≤◌, ◌<◌, List, ◌≡◌, length, Result, Ok, Err}
use Rattle.game.specs.Allowed.{Allowed}
use Rattle.rules.specs.Job.{place, entry_number, arena}
use Rattle.rules.specs.Fault.{Fault, only}
use Rattle.rules.specs.Bytes.{fault, refusal, said}
use Rattle.rules.specs.Plan.{room, planned_entry}
use Rattle.rules.specs.Answers.{refusal_fault}
use Rattle.checking.specs.declared.check.CheckError.{CheckError}

module _ (b p : List ℕ) where
  -- what the plan p says at state s and goal state q of the job b is allowed, on its own account: no other entry of p is asked
  abbrev pub AllowedAt : ℕ → ℕ → Type 0
  AllowedAt s q = Allowed (arena (said b)) (place s q) (planned_entry (said b) p (place s q))

  -- every entry before that of the place s, q is allowed
  abbrev pub AllowedBefore : ℕ → ℕ → Type 0
  AllowedBefore s q =
      (t r : ℕ) → t < (said b).states → r < (said b).goals
      → entry_number (said b).goals (place t r) < entry_number (said b).goals (place s q) → AllowedAt t r

  -- `Checking b p f s q`: the check of the plan p for the job b answers f and the place s, q: that of the lowest entry that is wrong, with 16,
  -- and 0, 0 otherwise. Bytes beyond the plan are not looked at.
  pub data Checking : Fault → ℕ → ℕ → Type 0 where
    refused : (refusal b ≡ 0 → ⊥) → Checking (fault b) 0 0
    no_room : refusal b ≡ 0 → length p < room (said b) → Checking (only 7) 0 0
    wrong : {s q : ℕ} → refusal b ≡ 0 → room (said b) ≤ length p → s < (said b).states → q < (said b).goals → (AllowedAt s q → ⊥)
        → AllowedBefore s q → Checking (only 16) s q
    passed : refusal b ≡ 0 → room (said b) ≤ length p → ((s q : ℕ) → s < (said b).states → q < (said b).goals → AllowedAt s q)
        → Checking (only 0) 0 0

-- The figures of an answer: 0 is right; 16 comes with the place; a refusal returns its number and its record, and every other figure is 0.
pub record CheckedFigures : Type 0 where
  pub fault : Fault
  pub state : ℕ
  pub goal : ℕ

abbrev pub checked_figures : Result (Unit {0}) CheckError → CheckedFigures
checked_figures (Ok x) = record { fault = only 0; state = 0; goal = 0 }
checked_figures (Err (CheckError.Wrong s q)) = record { fault = only 16; state = s; goal = q }
checked_figures (Err (CheckError.Refused r)) = record { fault = refusal_fault r; state = 0; goal = 0 }

-- the figures are those that the check of the plan p for the job b answers
abbrev pub Checks : (b p : List ℕ) → CheckedFigures → Type 0
Checks b p f = Checking b p f.fault f.state f.goal
