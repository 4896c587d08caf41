-- `list_state` meets its contract: a turn puts the line of one more goal state.
use native.Mathlib.Omega.{arith}
use Rattle.text.proofs.Putting.{puts_none}
use Rattle.text.proofs.Repeating.{puts_next, puts_upto}
use Rattle.listing.specs.Told.{advised_line}
use Rattle.listing.proofs.list_state.Goals as goal

pub loop-goal-init : goal.loop-goal-init
loop-goal-init c = puts_none _

pub loop-goal-preserved : goal.loop-goal-preserved
loop-goal-preserved c =
    let a = c.args in
    puts_next (advised_line a.job.now a.plan.now a.state) c.loop-goal.goal c.loop-goal.invariant c.list_place.ensures

pub returns : goal.returns
returns c =
    let a = c.args in
    puts_upto (advised_line a.job.now a.plan.now a.state) c.loop-goal.goal a.goals (omega arith) (omega arith)
    c.loop-goal.invariant
