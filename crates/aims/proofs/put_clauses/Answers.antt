-- `put_clauses` meets its contract: the clauses of the lines passed are put.
use Rattle.aims.proofs.Aiming.{going_more, going_end, clauses_next, clauses_end}
use Rattle.aims.proofs.put_clauses.Goals as goal

pub loop-line-preserved : goal.loop-line-preserved
loop-line-preserved c =
    (tt, tt, going_more c.loop-line.invariant.2 _ c.put_line.ensures (clauses_next _ c.in-Some.ensures.steps.2))

pub returns : goal.returns
returns c = going_end c.loop-line.invariant.2 (clauses_end _ c.in-None.ensures.steps.1)
