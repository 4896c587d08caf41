-- A job whose Goal body is the one that was written from slips.
use Rattle.std.specs.Prelude.{ℕ, List, ◌≡◌, take, drop}
use Rattle.rules.specs.Bytes.{offset, size, said}
use Rattle.slips.specs.Clauses.{Clause}
use Rattle.slips.specs.Writing.{Body}

-- the bytes of a job's Goal body
abbrev pub goal_body : List ℕ → List ℕ
goal_body b = take (size b 3) (drop (offset b 3) b)

-- the job's Goal body is that of the clauses for the job's own P, and its first goal state is 0
pub record GoalFrom (cs : List Clause) (b : List ℕ) : Type 0 where
  pub body : Body cs (said b).propositions (goal_body b)
  pub first : (said b).first_goal ≡ 0
