-- What the functions of a round rely on.
use Rattle.std.specs.Prelude.{ℕ, ◌*◌, ◌≤◌, ◌<◌, List, length}
use Rattle.rules.specs.Bytes.{said}
use Rattle.job.specs.Layout.{Fit}
use Rattle.job.specs.declared.layout.Layout.{Layout}
use Rattle.labelling.specs.Scan.{Range}

-- the records of state s are those from start up to end, and there is room
pub record Ready (b : List ℕ) (l : Layout) (s start end : ℕ) (plan : List ℕ) : Type 0 where
  pub fit : Fit b l
  pub state : s < l.states
  pub range : Range (said b) s start end
  pub room : 4 * (l.states * l.goals) ≤ length plan
