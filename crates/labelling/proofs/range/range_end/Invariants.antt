-- `range_end` meets its contract: the records passed are of states up to s.
use Rattle.rules.specs.Bytes.{said}
use Rattle.labelling.proofs.Ranging.{Passing}
use Rattle.labelling.proofs.range.range_end.Given as goal

abbrev pub invariant-loop-k : goal.invariant-loop-k
invariant-loop-k l = Passing (said l.job) l.s l.start l.k
