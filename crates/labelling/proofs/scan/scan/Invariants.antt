-- `scan` meets its contract: the tally is that of the records passed.
use Rattle.rules.specs.Job.{place}
use Rattle.rules.specs.Bytes.{said}
use Rattle.phases.specs.Wanted.{in_set}
use Rattle.labelling.proofs.Scanning.{Scanning}
use Rattle.labelling.proofs.scan.scan.Given as goal

abbrev pub invariant-loop-k : goal.invariant-loop-k
invariant-loop-k l =
    Scanning (said l.job) (in_set l.l.goals l.places.words) (place l.s l.q) l.k l.x
