-- `all_layers` meets its contract: each turn makes one layer, and the queue grows until one adds nothing.
use native.Mathlib.Omega.{arith}
use borrow.Author.Rules.{rules}
use Rattle.backward.proofs.Pacing.{paced_none, paced_ready, paced_more, paced_end}
use Rattle.backward.proofs.Queuing.{queue_few}
use Rattle.backward.proofs.layers.all_layers.Goals as goal

pub loop-to-init : goal.loop-to-init
loop-to-init c =
    paced_none c.requires (search rules) c.empty-known.ensures

pub learn-requires : goal.learn-requires
learn-requires c =
    let i = c.loop-to.invariant in
    record {
      known_len = i.words;
      from_le_to = i.before;
      to_le_set_room = queue_few i.queue_of;
      by_index = i.queue_of.inside;
      by_index_2 = i.known_is;
    }

pub overflow_add-k : goal.overflow_add-k
overflow_add-k c =
    omega (arith, c.loop-to.invariant.many, queue_few c.loop-to.invariant.queue_of)

pub overflow_cast-k : goal.overflow_cast-k
overflow_cast-k c =
    omega (arith, c.loop-to.invariant.many, queue_few c.loop-to.invariant.queue_of)

pub layer-tail-requires : goal.layer-tail-requires
layer-tail-requires c =
    paced_ready c.requires c.loop-to.invariant c.learn.ensures.1

pub returns-then-tail-to : goal.returns-then-tail-to
returns-then-tail-to c =
    paced_end c.requires c.loop-to.invariant c.layer-tail.ensures c.if-tail-to.true

pub overflow_add-k-in-loop-to : goal.overflow_add-k-in-loop-to
overflow_add-k-in-loop-to c =
    omega (arith, c.loop-to.invariant.many, queue_few c.loop-to.invariant.queue_of)

pub loop-to-smaller : goal.loop-to-smaller
loop-to-smaller c =
    omega (arith, c.layer-tail.ensures.joined.grows, queue_few c.layer-tail.ensures.joined.still, c.if-tail-to.false)

pub loop-to-preserved : goal.loop-to-preserved
loop-to-preserved c =
    let w = c.learn.ensures in
    paced_more c.requires c.loop-to.invariant c.layer-tail.ensures w.0 w.1 c.if-tail-to.false
