-- `cabinet_goal` meets its contract: the figures of what writing answers.
use native.Mathlib.Omega.{arith}
use Rattle.slips.proofs.Bodies.{writing_few}
use Rattle.cabinet.proofs.goals.cabinet_goal.Goals as goal

pub overflow_cast-result : goal.overflow_cast-result
overflow_cast-result c =
    let w = rw c.in-Ok.is at c.write_goal.ensures in
    omega (arith, writing_few w)

pub returns-in-Err : goal.returns-in-Err
returns-in-Err c =
    let w = rw c.in-Err.is at c.write_goal.ensures in
    rw (← c.number.ensures) at w

pub returns-in-Ok : goal.returns-in-Ok
returns-in-Ok c = rw c.in-Ok.is at c.write_goal.ensures
