-- `put_said_value` meets its contract: a value has its word, and another number its figure.
use native.Mathlib.Omega.{arith}
use borrow.Author.Tests.{le-ltb}
use Rattle.compare.proofs.put_said_value.Goals as goal

pub returns-in-Err : goal.returns-in-Err
returns-in-Err c = rw (le-ltb c.args.value 3 (omega (arith, c.in-Err.ensures.1))) (rw c.from.ensures at c.put_number.ensures)
