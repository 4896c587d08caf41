-- `put_mended` meets its contract: the list, and how many records went.
use Rattle.text.proofs.Putting.{puts_then}
use Rattle.mend.proofs.put_mended.Goals as goal

pub returns : goal.returns
returns c =
    puts_then c.put_list.ensures (puts_then c.put_word.ensures (puts_then c.put_number.ensures c.put.ensures))
