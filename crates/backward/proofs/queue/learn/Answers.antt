-- `learn` meets its contract: the places of the queue before i are known.
use mathlib.Core.Path.{◌≡◌, ◌∙◌}
use native.Mathlib.Omega.{arith}
use Rattle.backward.proofs.Queuing.{learn_more}
use Rattle.backward.proofs.queue.learn.Goals as goal

pub loop-i-preserved : goal.loop-i-preserved
loop-i-preserved c =
    let p = c.put.ensures in (
      p.as_long ∙ c.loop-i.invariant.0,
      learn_more c.args.queue.now c.loop-i.i c.loop-i.invariant.1 (c.requires.by_index c.loop-i.i c.loop-i-test.true) p,
    )

pub returns : goal.returns
returns c =
    let e : c.loop-i.i ≡ c.args.to = omega (arith, c.requires.from_le_to) in
    (c.loop-i.invariant.0, rw e at c.loop-i.invariant.1)
