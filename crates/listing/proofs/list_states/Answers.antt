-- `list_states` meets its contract: a turn puts the lines of one more state.
use native.Mathlib.Omega.{arith}
use Rattle.game.specs.Below.{upto, each}
use Rattle.text.proofs.Putting.{puts_none}
use Rattle.text.proofs.Repeating.{puts_next, puts_upto}
use Rattle.listing.specs.Told.{advised_line}
use Rattle.listing.proofs.list_states.Goals as goal

pub loop-state-init : goal.loop-state-init
loop-state-init c = puts_none _

pub loop-state-preserved : goal.loop-state-preserved
loop-state-preserved c =
    let a = c.args in
    puts_next (λ s. each (upto a.goals) (advised_line a.job.now a.plan.now s)) c.loop-state.state c.loop-state.invariant
    c.list_state.ensures

pub returns : goal.returns
returns c =
    let a = c.args in
    puts_upto (λ s. each (upto a.goals) (advised_line a.job.now a.plan.now s)) c.loop-state.state a.states (omega arith)
    (omega arith) c.loop-state.invariant
