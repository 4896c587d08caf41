-- `names::put_place` meets its contract.
use Rattle.text.proofs.Putting.{puts_then}
use Rattle.telling.proofs.names.put_place.Goals as goal

pub returns : goal.returns
returns c =
    puts_then c.put_name.ensures (puts_then c.put_word.ensures c.put_name-2.ensures)
