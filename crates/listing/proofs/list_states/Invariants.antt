-- `list_states` meets its contract: a turn puts the lines of one more state.
use Rattle.text.specs.Puts.{Puts}
use Rattle.listing.specs.Listing.{lines}
use Rattle.listing.specs.Told.{advised_line}
use Rattle.listing.proofs.list_states.Given as goal

abbrev pub invariant-loop-state : goal.invariant-loop-state
invariant-loop-state l = Puts l.initial.line (lines (advised_line l.job l.plan) l.state l.goals) l.line
