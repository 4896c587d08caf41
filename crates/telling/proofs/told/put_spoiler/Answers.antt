-- `told::put_spoiler` meets its contract.
use Rattle.telling.proofs.told.put_spoiler.Goals as goal

pub returns : goal.returns
returns c =
    let x = c.put_outcome.ensures in
    rw (c.next_goal-g.ensures, c.entry_entered-e.ensures, c.from.ensures, c.from-t.ensures, c.move_at-m.ensures) at x
