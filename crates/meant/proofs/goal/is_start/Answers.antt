-- `goal::is_start` meets its contract: the layout has the first state.
use Rattle.meant.proofs.Aims.{same_start}
use Rattle.meant.proofs.goal.is_start.Goals as goal

pub returns : goal.returns
returns c = λ b f. same_start f
