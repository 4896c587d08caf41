-- `put_entry` meets its contract: the texts of the words, one after another.
use Rattle.text.specs.Lines.{decimal}
use Rattle.text.proofs.Putting.{puts_then, puts_pair_then}
use Rattle.text.proofs.Line.put_entry.Goals as goal

pub returns : goal.returns
returns c =
    let a = c.args in
    puts_pair_then (decimal a.state) (decimal a.goal) c.put_state_and_goal.ensures
    (puts_then c.put.ensures (puts_then c.put_value.ensures
    (puts_then c.put-2.ensures (puts_then c.put_action.ensures
    (puts_then c.put-3.ensures (puts_then (rw c.from.ensures at c.put_number.ensures) c.put-4.ensures))))))
