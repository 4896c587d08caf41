-- `layer` meets its contract: each turn takes the next place of the queue.
use Rattle.rules.specs.Bytes.{said}
use Rattle.sets.specs.Sets.{member}
use Rattle.backward.proofs.Layering.{Laying}
use Rattle.backward.proofs.layer.layer.Given as goal

abbrev pub invariant-loop-head : goal.invariant-loop-head
invariant-loop-head l =
    Laying (said l.job) l.phase l.number (member l.known.words) l.initial.new.words l.initial.plan l.initial.counters l.initial.queue l.to l.head l.new.words l.plan l.counters l.queue l.tail
