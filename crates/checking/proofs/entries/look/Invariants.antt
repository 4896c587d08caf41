-- `look` meets its contract: what is seen is what the records passed show.
use Rattle.rules.specs.Job.{place}
use Rattle.rules.specs.Bytes.{said}
use Rattle.rules.specs.Plan.{planned_entry}
use Rattle.checking.specs.Fits.{outcome_test}
use Rattle.checking.proofs.Judging.{Looking}
use Rattle.checking.proofs.entries.look.Given as goal

abbrev pub invariant-loop-k : goal.invariant-loop-k
invariant-loop-k l =
    Looking (said l.job) (λ t. outcome_test l.r (planned_entry (said l.job) l.own t)) (place l.s l.q) l.a l.k l.x
