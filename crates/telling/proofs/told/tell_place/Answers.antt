-- `told::tell_place` meets its contract: the line of the entry, and after it why the place is not winning.
use Rattle.job.proofs.Asking.{goals_said}
use Rattle.text.proofs.Putting.{puts_then}
use Rattle.telling.proofs.told.tell_place.Goals as goal

pub returns : goal.returns
returns c =
    let put = puts_then c.tell_head.ensures c.tell_why.ensures in
    rw (goals_said c.requires.fit) at put
