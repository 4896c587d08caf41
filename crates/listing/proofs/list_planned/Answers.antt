-- `list_planned` meets its contract: one text after the other.
use Rattle.text.proofs.Putting.{puts_then}
use Rattle.listing.proofs.list_planned.Goals as goal

pub returns : goal.returns
returns c = puts_then c.list_start.ensures c.list_states.ensures
