-- `names::put_name` meets its contract.
use borrow.Author.Tests.{le-leb, lt-leb, lt-ltb, le-ltb}
use Rattle.text.proofs.Putting.{puts_none}
use Rattle.telling.proofs.names.put_name.Goals as goal
use Rattle.telling.proofs.names.put_name.Goals.{else-s-via-then-s+else-s-table, else-s-via-else-s}

pub returns-else-k-table : goal.returns-else-k-table
returns-else-k-table c = rw (le-leb _ _ c.if-k-table.false) (puts_none _)

pub returns-else-s : goal.returns-else-s
returns-else-s c =
    let f = lt-leb _ _ c.if-k-table.true in
    elim c.else-s.branch [
      | else-s-via-then-s+else-s-table w ↦ rw (f, le-ltb _ _ w.if-s.true, lt-ltb _ _ w.if-s-table.false) (puts_none _)
      | else-s-via-else-s w ↦ rw (f, lt-ltb _ _ w.if-s.false) (puts_none _)
    ]
