-- `put_state_and_goal` meets its contract: three texts, one after another.
use Rattle.text.proofs.Putting.{puts_then}
use Rattle.text.proofs.Line.put_state_and_goal.Goals as goal

pub returns : goal.returns
returns c = puts_then c.put_number.ensures (puts_then c.put.ensures c.put_number-2.ensures)
