-- `answer` meets its contract: the place of the entry x is found by the row and the column.
use native.Mathlib.Nat.{div-le_self, mod-le}
use native.Mathlib.Omega.{arith}
use borrow.Author.Tests.{lt-ltb, le-ltb}
use Rattle.checking.proofs.check.answer.Goals as goal

pub overflow_cast-result : goal.overflow_cast-result
overflow_cast-result c =
    let a = c.args in
    omega (arith, div-le_self a.x a.goals, c.if-x-n.true, c.requires.n_le_set_room)

pub overflow_cast-result-then-x-n : goal.overflow_cast-result-then-x-n
overflow_cast-result-then-x-n c =
    let a = c.args in
    omega (arith, mod-le a.x a.goals, c.if-x-n.true, c.requires.n_le_set_room)

pub returns-then-x-n : goal.returns-then-x-n
returns-then-x-n c = rw (lt-ltb c.args.x c.args.n c.if-x-n.true)

pub returns : goal.returns
returns c = rw (le-ltb c.args.x c.args.n c.if-x-n.false)
