-- The counters: word y is of the place whose entry is y / A, and of the action y % A.
use Rattle.std.specs.Prelude.{ℕ, ◌*◌, ◌/◌, ◌%◌, ◌≤◌, ◌<◌, Bool, not, List, ◌≡◌, length, get_or}
use Rattle.rules.specs.Job.{Job, is_from, places, arena}
use Rattle.rules.specs.declared.place.Place.{Place}
use Rattle.game.proofs.Lists.{how_many}
use Rattle.phases.specs.Pass.{place_at}

-- how many words the counters take
abbrev pub counters_size : Job → ℕ
counters_size j = places j * j.actions

-- the count of the listed outcomes, of the place and action of word y, whose places have not been taken
abbrev pub untaken : Job → (Place → Bool) → ℕ → ℕ
untaken j taken y = how_many (λ t. not (taken t)) ((arena j).leads (place_at j.goals (y / j.actions)) (y % j.actions))

-- record i has the state and the action of word y
abbrev pub from_at : Job → ℕ → ℕ → Bool
from_at j y i = is_from (j.move i) (y / j.actions / j.goals) (y % j.actions)

-- each counter is the count c of it
pub record Counts (j : Job) (c : ℕ → ℕ) (counters : List ℕ) : Type 0 where
  pub long : counters_size j ≤ length counters
  pub counts : (y : ℕ) → y < counters_size j → get_or counters y 0 ≡ c y

-- each counter is the count c of it, and what lies beyond the counters is as before
pub record Counted (j : Job) (c : ℕ → ℕ) (before now : List ℕ) : Type 0 where
  pub as_long : length now ≡ length before
  pub counts : (y : ℕ) → y < counters_size j → get_or now y 0 ≡ c y
  pub rest : (y : ℕ) → counters_size j ≤ y → get_or now y 0 ≡ get_or before y 0
