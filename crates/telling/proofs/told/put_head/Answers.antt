-- `told::put_head` meets its contract.
use Rattle.text.proofs.Putting.{puts_then}
use Rattle.telling.proofs.told.put_head.Goals as goal

pub returns : goal.returns
returns c =
    puts_then c.put_place.ensures (puts_then c.put_word.ensures (puts_then c.put_advice.ensures c.put.ensures))
