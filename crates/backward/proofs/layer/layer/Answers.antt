-- `layer` meets its contract: each turn takes the next place of the queue.
use native.Mathlib.Omega.{arith}
use Rattle.backward.proofs.Layering.{laying_none, laying_place, laying_ready, laying_take, laying_end}
use Rattle.backward.proofs.layer.layer.Goals as goal

pub loop-head-init : goal.loop-head-init
loop-head-init c =
    laying_none c.requires

pub take-tail-requires : goal.take-tail-requires
take-tail-requires c =
    laying_ready c.requires c.loop-head.invariant c.loop-head-test.true

pub loop-head-preserved : goal.loop-head-preserved
loop-head-preserved c =
    let p = c.requires in
    let i = c.loop-head.invariant in
    let h = c.loop-head-test.true in
    laying_take p.ready.fit.keeps h (laying_place p i h) i c.take-tail.ensures

pub returns : goal.returns
returns c =
    laying_end c.requires (omega (arith, c.requires.before)) c.loop-head.invariant
