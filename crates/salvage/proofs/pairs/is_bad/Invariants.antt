-- `pairs::is_bad` meets its contract: the records passed are of the pair, with outcomes below S.
use Rattle.rules.specs.Bytes.{said}
use Rattle.salvage.proofs.Mending.{Clear}
use Rattle.salvage.proofs.pairs.is_bad.Given as goal

abbrev pub invariant-loop-i : goal.invariant-loop-i
invariant-loop-i l = Clear (said l.job) l.begin l.i
