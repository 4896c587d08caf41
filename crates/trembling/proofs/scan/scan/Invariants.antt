-- `scan::scan` meets its contract: both tallies are those of the records passed.
use Rattle.rules.specs.Job.{place}
use Rattle.rules.specs.Bytes.{said}
use Rattle.labelling.proofs.Scanning.{Scanning}
use Rattle.trembling.specs.Scan.{from_base}
use Rattle.trembling.proofs.scan.scan.Given as goal

abbrev pub invariant-loop-k : goal.invariant-loop-k
invariant-loop-k l =
    Scanning (said l.job) (from_base l.l.goals l.places.words l.own) (place l.s l.q) l.k l.x.own
    × Scanning (said l.job) (from_base l.l.goals l.places.words l.less) (place l.s l.q) l.k l.x.less
