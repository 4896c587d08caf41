-- `list_state` meets its contract: a turn puts the line of one more goal state.
use Rattle.game.specs.Below.{upto, each}
use Rattle.text.specs.Puts.{Puts}
use Rattle.listing.specs.Told.{advised_line}
use Rattle.listing.proofs.list_state.Given as goal

abbrev pub invariant-loop-goal : goal.invariant-loop-goal
invariant-loop-goal l = Puts l.initial.line (each (upto l.goal) (advised_line l.job l.plan l.state)) l.line
