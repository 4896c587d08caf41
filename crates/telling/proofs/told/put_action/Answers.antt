-- `told::put_action` meets its contract.
use mathlib.Core.Path.{sym, ◌∙◌}
use Rattle.rules.specs.Bytes.{said}
use Rattle.job.proofs.Asking.{records_said}
use Rattle.text.proofs.Putting.{puts_none}
use Rattle.telling.proofs.Worst.{worst_spoils}
use Rattle.telling.proofs.told.put_action.Goals as goal

pub put_spoiler-requires-clause-q_lt_goals : goal.put_spoiler-requires-clause-q_lt_goals
put_spoiler-requires-clause-q_lt_goals c =
    let x = c.args in
    (c.requires.q_lt_goals, rw (records_said c.requires.fit) (worst_spoils (said x.shown.job.now) x.shown.plan.now x.s x.q x.a _ (sym c.in-Some.is ∙ c.worst.ensures)).0)

pub returns-in-Some : goal.returns-in-Some
returns-in-Some c = rw (← c.worst.ensures, c.in-Some.is) c.put_spoiler.ensures

pub returns-in_default : goal.returns-in_default
returns-in_default c = rw (← c.worst.ensures, c.in_default.is) (puts_none _)
