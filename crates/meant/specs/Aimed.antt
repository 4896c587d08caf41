-- A job whose Goal body is given bytes, and whose first goal state is a given one.
use Rattle.std.specs.Prelude.{ℕ, ◌≤◌, List, ◌≡◌, length, take}
use Rattle.rules.specs.Bytes.{said}
use Rattle.slips.specs.Playing.{goal_body}

-- the job's Goal body is the first n of these bytes, of which there are so many, and its first goal state is the given one
pub record Aimed (b body : List ℕ) (n first : ℕ) : Type 0 where
  pub room : n ≤ length body
  pub same_body : goal_body b ≡ take n body
  pub same_first : (said b).first_goal ≡ first
