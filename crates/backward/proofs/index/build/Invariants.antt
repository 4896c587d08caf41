-- `build` meets its contract: the records passed, from the last on, are listed.
use Rattle.rules.specs.Bytes.{said}
use Rattle.backward.specs.Index.{Indexing}
use Rattle.backward.proofs.index.build.Given as goal

abbrev pub invariant-loop-k : goal.invariant-loop-k
invariant-loop-k l = Indexing (said l.job) l.k l.initial.index l.index
