-- `told::put_outcome` meets its contract.
use Rattle.text.proofs.Putting.{puts_then}
use Rattle.telling.proofs.told.put_outcome.Goals as goal

pub returns : goal.returns
returns c =
    puts_then c.put_word.ensures (puts_then c.put_name.ensures
    (puts_then c.put_word-2.ensures (puts_then c.put_place.ensures c.put_spoilt.ensures)))
