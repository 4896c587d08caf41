-- `put_wrong` meets its contract: the texts of the words, one after another.
use Rattle.text.proofs.Putting.{puts_then}
use Rattle.compare.proofs.put_wrong.Goals as goal

pub returns : goal.returns
returns c =
    puts_then c.put_word.ensures (puts_then c.put_number.ensures (puts_then c.put.ensures
    (puts_then c.put_number-2.ensures (puts_then c.put_word-2.ensures (puts_then c.put_said.ensures
    (puts_then c.put_word-3.ensures (puts_then c.put_said-2.ensures c.put-2.ensures)))))))
