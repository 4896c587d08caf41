-- `all_layers` meets its contract: each turn makes one layer, and the queue grows until one adds nothing.
use Prim.Native.Nat.{◌-◌}
use Rattle.rules.specs.Bytes.{said}
use Rattle.sets.specs.Sets.{set_room}
use Rattle.backward.proofs.Pacing.{Paced}
use Rattle.backward.proofs.layers.all_layers.Given as goal

abbrev pub invariant-loop-to : goal.invariant-loop-to
invariant-loop-to l =
    Paced (said l.job) l.phase l.initial.new.words l.initial.plan l.initial.counters l.k l.from l.to l.known.words l.new.words l.plan l.counters l.queue

abbrev pub decreases-loop-to : goal.decreases-loop-to
decreases-loop-to l =
    set_room - l.to
