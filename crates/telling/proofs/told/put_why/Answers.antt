-- `told::put_why` meets its contract: a turn puts what is told of one more action.
use Rattle.rules.specs.Bytes.{said}
use Rattle.text.proofs.Putting.{puts_none}
use Rattle.text.proofs.Repeating.{puts_next}
use Rattle.telling.specs.Lines.{named}
use Rattle.telling.specs.Told.{told_action}
use Rattle.telling.proofs.told.put_why.Goals as goal

pub loop-a-init : goal.loop-a-init
loop-a-init c = puts_none _

pub loop-a-preserved : goal.loop-a-preserved
loop-a-preserved c =
    let x = c.args in
    puts_next (told_action (said x.shown.job.now) x.shown.plan.now x.s x.q (named x.shown.states)
    (named x.shown.actions) (named x.shown.goals)) c.loop-a.a c.loop-a.invariant c.put_action.ensures
