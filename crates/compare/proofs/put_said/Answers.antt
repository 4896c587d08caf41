-- `put_said` meets its contract: the texts of the words, one after another.
use Rattle.text.proofs.Putting.{puts_then}
use Rattle.compare.proofs.put_said.Goals as goal

pub returns : goal.returns
returns c =
    puts_then c.put_said_value.ensures (puts_then c.put.ensures
    (puts_then c.put_action.ensures (puts_then c.put-2.ensures (rw c.from.ensures at c.put_number.ensures))))
