-- `scan::choose_slip` meets its contract.
use mathlib.Core.Path.{◌∙◌}
use Rattle.labelling.proofs.Choosing.{lowest_of}
use Rattle.trembling.proofs.scan.choose_slip.Goals as goal

pub returns-in-Winning : goal.returns-in-Winning
returns-in-Winning c =
    rw c.in-Winning.is
    (lowest_of c.without-in-Winning.result.bits (λ a. c.without-in-Winning.ensures a ∙ rw (c.without.ensures a, c.others-slips.ensures a))
    c.lowest.result c.lowest.ensures)

pub returns-in-Pending : goal.returns-in-Pending
returns-in-Pending c =
    rw c.in-Pending.is
    (lowest_of c.either.result.bits (λ a. c.either.ensures a ∙ rw (c.both-helped.ensures a, c.others-slips-in-Pending.ensures a))
    c.lowest-in-Pending.result c.lowest-in-Pending.ensures)
