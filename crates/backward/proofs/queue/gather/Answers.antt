-- `gather` meets its contract: the places of the set below x are the queue.
use Prim.Native.Nat.{◌<◌}
use native.Mathlib.Omega.{arith}
use Rattle.sets.specs.Sets.{set_room}
use Rattle.backward.proofs.Noting.{has_known}
use Rattle.backward.proofs.Queuing.{first_new, queue_room, gather_none, gather_skip, gather_more, gather_end}
use Rattle.backward.proofs.queue.gather.Goals as goal
use Rattle.backward.proofs.queue.gather.Goals.{then-has, else-has}

pub loop-x-init : goal.loop-x-init
loop-x-init c =
    gather_none c.args.set.now.words c.requires.queue_len

pub offset_bounds-queue-tail : goal.offset_bounds-queue-tail
offset_bounds-queue-tail c =
    let below : c.loop-x.x < set_room =
    omega (arith, c.loop-x-test.true, c.requires.n_le_set_room) in
    let room : c.loop-x.tail < set_room =
    queue_room c.loop-x.invariant (first_new c.args.set.now.words c.loop-x.x) (below) in
    omega (arith, room)

pub bounds-queue-tail : goal.bounds-queue-tail
bounds-queue-tail c =
    let below : c.loop-x.x < set_room =
    omega (arith, c.loop-x-test.true, c.requires.n_le_set_room) in
    let room : c.loop-x.tail < set_room =
    queue_room c.loop-x.invariant (first_new c.args.set.now.words c.loop-x.x) (below) in
    room

pub overflow_add-tail : goal.overflow_add-tail
overflow_add-tail c =
    let below : c.loop-x.x < set_room =
    omega (arith, c.loop-x-test.true, c.requires.n_le_set_room) in
    let room : c.loop-x.tail < set_room =
    queue_room c.loop-x.invariant (first_new c.args.set.now.words c.loop-x.x) (below) in
    omega (arith, room)

pub returns : goal.returns
returns c =
    gather_end c.args.set.now.words c.args.n c.loop-x.x c.requires.by_index (omega arith) c.loop-x.invariant

pub loop-x-preserved : goal.loop-x-preserved
loop-x-preserved c =
    let below : c.loop-x.x < set_room =
    omega (arith, c.loop-x-test.true, c.requires.n_le_set_room) in
    let s = c.args.set.now.words in
    elim c.if-has.branch [
      | then-has w ↦
          rw (w.queue-is, w.tail-is)
          (gather_more s c.loop-x.x (has_known s (below) c.has.ensures w.if-has.true) (below) c.loop-x.invariant)
      | else-has w ↦
          rw (w.queue-is, w.tail-is)
          (gather_skip s c.loop-x.x (has_known s (below) c.has.ensures w.if-has.false) c.loop-x.invariant)
    ]
