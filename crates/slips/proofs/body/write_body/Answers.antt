-- `write_body` meets its contract. The bytes passed are the body's.
use mathlib.Core.Path.{◌≡◌}
use native.Mathlib.Omega.{arith}
use Rattle.slips.proofs.Bodies.{filled_none, filled_more, byte_left}
use Rattle.slips.proofs.body.write_body.Goals as goal

pub loop-y-init : goal.loop-y-init
loop-y-init c = filled_none _ _

pub body_byte-requires : goal.body_byte-requires
body_byte-requires c =
    byte_left _ _ _ _ _ _ c.requires (omega arith)

pub bounds-out-y : goal.bounds-out-y
bounds-out-y c =
    omega (arith, c.loop-y.invariant.as_long, c.requires.fits)

pub loop-y-preserved : goal.loop-y-preserved
loop-y-preserved c =
    rw c.body_byte.ensures
    (filled_more _ _ _ _ (omega (arith, c.requires.fits)) c.loop-y.invariant)

pub shape_of-out : goal.shape_of-out
shape_of-out c = c.loop-y.invariant.as_long

pub returns : goal.returns
returns c =
    let e : c.loop-y.y ≡ c.args.size = omega arith in
    rw e at c.loop-y.invariant
