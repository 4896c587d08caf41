-- `put_pair` meets its contract: the words, one after another.
use Rattle.text.proofs.Putting.{puts_then}
use Rattle.mend.proofs.put_pair.Goals as goal

pub returns : goal.returns
returns c =
    puts_then c.put_word.ensures (puts_then c.put_number.ensures
    (puts_then c.put_word-2.ensures (puts_then c.put_number-2.ensures c.put.ensures)))
