-- `count_all` meets its contract: the counters are the counts of the records passed.
use Rattle.rules.specs.Bytes.{said}
use Rattle.sets.specs.Sets.{count}
use Rattle.backward.specs.Counts.{from_at, Counted}
use Rattle.backward.proofs.counts.count_all.Given as goal

abbrev pub invariant-loop-k : goal.invariant-loop-k
invariant-loop-k l = Counted (said l.job) (λ y. count (from_at (said l.job) y) l.k) l.initial.counters l.counters
