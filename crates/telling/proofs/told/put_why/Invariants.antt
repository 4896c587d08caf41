-- `told::put_why` meets its contract: a turn puts what is told of one more action.
use Rattle.rules.specs.Bytes.{said}
use Rattle.text.specs.Puts.{Puts}
use Rattle.telling.specs.Lines.{named}
use Rattle.telling.specs.Told.{told_actions}
use Rattle.telling.proofs.told.put_why.Given as goal

abbrev pub invariant-loop-a : goal.invariant-loop-a
invariant-loop-a l =
    Puts l.initial.line (told_actions (said l.shown.job.now) l.shown.plan.now l.s l.q (named l.shown.states) (named l.shown.actions) (named l.shown.goals) l.a) l.line
