-- What looking for a record answers.
use Rattle.std.specs.Prelude.{ℕ, ◌≤◌, ◌<◌, true, false, ◌≡◌, Option, Some, None}
use Rattle.rules.specs.Job.{Job, is_record, recorded}
use Rattle.rules.specs.Keeps.{Before}
use Rattle.rules.specs.declared.place.Move.{Move}

-- an answer names the record with this state, action and outcome, or says that no record has them
abbrev pub FoundOf : Job → ℕ → ℕ → ℕ → Option ℕ → Type 0
FoundOf j s a t (Some k) = (recorded j s a t ≡ true) × (k < j.records) × (is_record (j.move k) s a t ≡ true)
FoundOf j s a t None = recorded j s a t ≡ false

-- a state, an action and an outcome as a record has them
abbrev pub triple : ℕ → ℕ → ℕ → Move
triple s a t = record { state = s; action = a; outcome = t }

-- Of j's records those below `low` come before m, and those from `high` on do not.
pub record Parted (j : Job) (m : Move) (low high : ℕ) : Type 0 where
  pub inside : high ≤ j.records
  pub under : (k : ℕ) → k < low → Before (j.move k) m
  pub beyond : (k : ℕ) → high ≤ k → k < j.records → Before (j.move k) m → ⊥
