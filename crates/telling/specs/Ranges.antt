-- Records of a job that lie together.
use Rattle.std.specs.Prelude.{ℕ, ◌≤◌, ◌<◌, Bool, true, ◌≡◌}
use Rattle.rules.specs.Job.{Job}
use Rattle.rules.specs.declared.place.Move.{Move}

-- Of j's records those that pass the test are those from `low` on and below `high`.
pub record Together (j : Job) (test : Move → Bool) (low high : ℕ) : Type 0 where
  pub inside : high ≤ j.records
  pub only : (k : ℕ) → low ≤ k → k < high → test (j.move k) ≡ true
  pub all : (k : ℕ) → k < j.records → test (j.move k) ≡ true → (low ≤ k) × (k < high)
