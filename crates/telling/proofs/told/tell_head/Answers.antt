-- `told::tell_head` meets its contract.
use Rattle.telling.proofs.told.tell_head.Goals as goal

pub returns : goal.returns
returns c =
    let x = c.put_head.ensures in
    rw c.read_entry-own.ensures at x
