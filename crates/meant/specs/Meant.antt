-- A job whose records are the numbers of a set, and whose labels are given bytes.
use Rattle.std.specs.Prelude.{ℕ, ◌<◌, List, ◌≡◌, get_or}
use Rattle.rules.specs.Job.{recorded}
use Rattle.rules.specs.Bytes.{byte, said}
use Rattle.rules.specs.Keeps.{Keeps}
use Rattle.rules.specs.declared.place.Move.{Move}
use Rattle.lines.specs.Numbers.{has}
use Rattle.lines.specs.Says.{number}

-- a record as a number
abbrev pub move_number : Move → ℕ
move_number m = number m.state m.action m.outcome

-- The job keeps the rules, so that no number refuses it and its records ascend strictly; a record is in it exactly when the set has its
-- number; and its labels are the given bytes.
pub record Meant (b labels moves : List ℕ) : Type 0 where
  pub keeps : Keeps b
  pub recorded_said : (s a u : ℕ) → s < 512 → a < 16 → u < 512 → recorded (said b) s a u ≡ has moves (number s a u)
  pub labels_made : (s : ℕ) → s < (said b).states → byte b 1 s ≡ get_or labels s 0
