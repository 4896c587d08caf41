-- `take` meets its contract: each goal state from which the place is entered is passed.
use Rattle.rules.specs.Answers.{value_number}
use Rattle.rules.specs.Bytes.{said}
use Rattle.sets.specs.Sets.{member}
use Rattle.backward.proofs.Stepping.{Stepping}
use Rattle.backward.proofs.step.take.Given as goal

abbrev pub invariant-loop-q : goal.invariant-loop-q
invariant-loop-q l =
    Stepping (said l.job) l.t l.g l.q (value_number l.value) l.number (member l.known.words) l.initial.new.words l.initial.plan l.initial.counters l.initial.queue l.tail l.new.words l.plan l.counters l.queue l.end
