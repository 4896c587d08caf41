-- `row::first_aim` meets its contract: no row passed fits.
use mathlib.Core.Path.{sym, ◌∙◌}
use native.Mathlib.Omega.{arith}
use Rattle.lines.proofs.Tabling.{names_counted}
use Rattle.rows.proofs.Aiming.{first_here, first_later, first_none}
use Rattle.rows.proofs.row.first_aim.Goals as goal

pub returns-in-Some-row_aim-clause-index : goal.returns-in-Some-row_aim-clause-index
returns-in-Some-row_aim-clause-index c =
    let f = c.in-Some-row_aim.ensures in
    sym (c.loop-line.invariant.2 ∙ first_here _ _ _ _ c.in-Some.ensures.steps.2 _ f.index (rw (names_counted c.args.goals) f.within))

pub loop-line-preserved : goal.loop-line-preserved
loop-line-preserved c =
    (tt, tt, c.loop-line.invariant.2 ∙ first_later _ _ _ _ c.in-Some.ensures.steps.2 _ c.in_default.ensures.index (omega (arith, names_counted c.args.goals)))

pub returns-clause-index : goal.returns-clause-index
returns-clause-index c = sym (c.loop-line.invariant.2 ∙ first_none _ _ _ _ c.in-None.ensures.steps.1 ∙ names_counted c.args.goals)
