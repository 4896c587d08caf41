-- `told::put_moves` meets its contract.
use Rattle.text.proofs.Putting.{puts_then}
use borrow.Author.Tests.{ne_eqb}
use Rattle.telling.proofs.told.put_moves.Goals as goal

pub returns-else-n-eq1 : goal.returns-else-n-eq1
returns-else-n-eq1 c =
    let put = puts_then c.put_number.ensures c.put_word-else-n-eq1.ensures in
    rw (ne_eqb _ 1 c.if-n-eq1.false) (rw c.from.ensures at put)
