-- `goal::is_goal` meets its contract: where there is room and the first goal states are the same, by the bytes.
use Rattle.meant.proofs.Aims.{same_bytes}
use Rattle.meant.proofs.goal.is_goal.Goals as goal

pub returns-then-l-first : goal.returns-then-l-first
returns-then-l-first c = same_bytes c.requires c.if-l-first.true.0 c.if-l-first.true.1 c.is_same.ensures
