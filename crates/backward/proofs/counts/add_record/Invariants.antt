-- `add_record` meets its contract: the goal states passed have the record counted.
use Rattle.backward.proofs.Counting.{Added}
use Rattle.backward.proofs.counts.add_record.Given as goal

abbrev pub invariant-loop-q : goal.invariant-loop-q
invariant-loop-q l = Added l.goals l.l.actions l.m l.q l.initial.counters l.counters
