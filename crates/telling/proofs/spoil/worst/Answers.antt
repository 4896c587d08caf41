-- `spoil::worst` meets its contract.
use Rattle.rules.specs.Bytes.{said}
use Rattle.telling.proofs.Worst.{worst_lost, worst_else}
use Rattle.telling.proofs.spoil.worst.Goals as goal

pub returns-in-Some : goal.returns-in-Some
returns-in-Some c =
    let x = c.args in
    worst_lost (said x.job.now) x.plan.now x.s x.q x.a _ (rw c.in-Some.is at c.spoiler.ensures)

pub returns-in-None : goal.returns-in-None
returns-in-None c =
    let x = c.args in
    worst_else (said x.job.now) x.plan.now x.s x.q x.a _ (rw c.in-None.is at c.spoiler.ensures) c.spoiler-in-None.ensures
