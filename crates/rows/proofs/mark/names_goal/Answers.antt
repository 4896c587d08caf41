-- `mark::names_goal` meets its contract: no word passed names the goal state.
use mathlib.Core.Path.{sym, ap, ◌∙◌}
use borrow.Author.Tests.{eqb-true, eqb-false}
use Rattle.lines.specs.Names.{index_of}
use Rattle.lines.specs.Tables.{names_of}
use Rattle.lines.proofs.Tabling.{names_counted}
use Rattle.lines.proofs.Saying.{none_named}
use Rattle.rows.proofs.Aiming.{found_it}
use Rattle.rows.proofs.Marking.{named_here, named_later}
use Rattle.rows.proofs.mark.names_goal.Goals as goal

pub returns-then-eq : goal.returns-then-eq
returns-then-eq c =
    let n = c.args.goals in
    let f = c.find.ensures in
    let same = eqb-true _ _ (sym (found_it c.find.result _ _ f.within c.requires) ∙ sym c.eq.ensures ∙ c.if-eq.true) in
    sym (c.loop-word.invariant.2
    ∙ named_here _ c.in-Some.ensures.steps.2 _ (f.index ∙ ap (index_of (names_of n)) c.bytes.ensures) _ (rw (names_counted n) c.requires) same)

pub loop-word-preserved : goal.loop-word-preserved
loop-word-preserved c =
    let n = c.args.goals in
    let f = c.find.ensures in
    let other = eqb-false _ _ (sym (found_it c.find.result _ _ f.within c.requires) ∙ sym c.eq.ensures ∙ c.if-eq.false) in
    (tt, tt, c.loop-word.invariant.2 ∙ named_later _ c.in-Some.ensures.steps.2 _ (f.index ∙ ap (index_of (names_of n)) c.bytes.ensures) _ other)

pub returns : goal.returns
returns c = sym (c.loop-word.invariant.2 ∙ none_named c.in-None.ensures.steps.1 _ _ _)
