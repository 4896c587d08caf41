-- `class::class_of` meets its contract: a longer entry is not looked at.
use native.Mathlib.Omega.{arith}
use Rattle.totals.proofs.Falling.{falls_longer, falls_whole}
use Rattle.totals.proofs.class.class_of.Goals as goal

pub returns-then-size : goal.returns-then-size
returns-then-size c = rw c.number.ensures (falls_longer _ _ (omega arith))

pub returns-in-Ok : goal.returns-in-Ok
returns-in-Ok c = falls_whole _ (omega arith) c.in-Ok.ensures

pub returns-in-Err : goal.returns-in-Err
returns-in-Err c = rw c.number-in-Err.ensures (falls_whole _ (omega arith) c.in-Err.ensures)
