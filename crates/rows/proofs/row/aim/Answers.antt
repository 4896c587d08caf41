-- `row::aim` meets its contract: the row leads where it does by the words that are left.
use mathlib.Core.Path.{sym, ◌∙◌}
use Rattle.lines.proofs.Tabling.{names_counted}
use Rattle.rows.proofs.Aiming.{aim_none, aim_arrow, aim_unfit, aim_on}
use Rattle.rows.proofs.row.aim.Goals as goal

pub returns-then-is-clause-index : goal.returns-then-is-clause-index
returns-then-is-clause-index c =
    let arrow = sym c.is.ensures ∙ c.if-is.true in
    c.to_goal.ensures.index ∙ sym (c.loop-word.invariant ∙ aim_arrow _ _ _ _ c.in-Some.ensures.steps.2 arrow)

pub returns-then-not-lets-clause-index : goal.returns-then-not-lets-clause-index
returns-then-not-lets-clause-index c =
    let other = sym c.is.ensures ∙ c.if-is.false in
    let unfit = sym c.lets.ensures ∙ c.if-not-lets.true in
    sym (c.loop-word.invariant ∙ aim_unfit _ _ _ _ c.in-Some.ensures.steps.2 other unfit ∙ names_counted c.args.goals)

pub loop-word-preserved : goal.loop-word-preserved
loop-word-preserved c =
    let other = sym c.is.ensures ∙ c.if-is.false in
    let fit = sym c.lets.ensures ∙ c.if-not-lets.false in
    c.loop-word.invariant ∙ aim_on _ _ _ _ c.in-Some.ensures.steps.2 _ c.is-ban.ensures other fit

pub returns-clause-index : goal.returns-clause-index
returns-clause-index c = sym (c.loop-word.invariant ∙ aim_none _ _ _ _ c.in_default.ensures.steps.1 ∙ names_counted c.args.goals)
