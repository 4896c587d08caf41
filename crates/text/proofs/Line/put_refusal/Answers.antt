-- `put_refusal` meets its contract: the word, the number and the rest, one after another.
use Rattle.text.proofs.Putting.{puts_then}
use Rattle.text.proofs.Line.put_refusal.Goals as goal

pub returns : goal.returns
returns c =
    puts_then c.put_word.ensures (puts_then (rw c.number.ensures at c.put_number.ensures) c.put_record.ensures)
