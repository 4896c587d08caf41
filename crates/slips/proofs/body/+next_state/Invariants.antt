-- The measure: the clauses left.
use Rattle.slips.proofs.body.+next_state.Given as goal

abbrev pub decreases-next_state : goal.decreases-next_state
decreases-next_state l = l.left
