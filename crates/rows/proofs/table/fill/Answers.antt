-- `table::fill` meets its contract: the bytes passed are the body's.
use mathlib.Core.Path.{◌≡◌}
use native.Mathlib.Omega.{arith}
use Rattle.slips.proofs.Bodies.{filled_none, filled_more}
use Rattle.rows.proofs.table.fill.Goals as goal

pub loop-y-init : goal.loop-y-init
loop-y-init c = filled_none _ _

pub bounds-body-y : goal.bounds-body-y
bounds-body-y c = omega (arith, c.loop-y.invariant.as_long, c.requires.size_value.1)

pub loop-y-preserved : goal.loop-y-preserved
loop-y-preserved c = rw c.table_byte.ensures (filled_more _ _ _ _ (omega (arith, c.requires.size_value.1)) c.loop-y.invariant)

pub shape_of-body : goal.shape_of-body
shape_of-body c = c.loop-y.invariant.as_long

pub returns : goal.returns
returns c =
    let e : c.loop-y.y ≡ c.args.size = omega arith in
    rw e at c.loop-y.invariant
