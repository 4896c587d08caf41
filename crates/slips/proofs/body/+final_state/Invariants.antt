-- The measure: the clauses left.
use Rattle.slips.proofs.body.+final_state.Given as goal

abbrev pub decreases-final_state : goal.decreases-final_state
decreases-final_state l = l.left
