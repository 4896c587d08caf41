-- `final_one` meets its contract.
use mathlib.Core.Logic.{⊎_elim}
use Rattle.slips.specs.Clauses.{final}
use Rattle.slips.proofs.clause.final_one.Goals as goal

pub returns-in-Existence : goal.returns-in-Existence
unfolding final
returns-in-Existence c a b = rw c.in-Existence.is

pub returns-in-Absence : goal.returns-in-Absence
unfolding final
returns-in-Absence c a b = ⊎_elim (λ e. rw e) (λ e. rw e) c.in-Absence.is

pub returns-in-Precedence : goal.returns-in-Precedence
unfolding final
returns-in-Precedence c a b = rw c.in-Precedence.is
