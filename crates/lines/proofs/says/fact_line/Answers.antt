-- `says::fact_line` meets its contract.
use mathlib.Core.Path.{sym, ap, ◌∙◌}
use native.Mathlib.Omega.{arith}
use Rattle.lines.specs.Names.{index_of}
use Rattle.lines.specs.Tables.{names_of}
use Rattle.lines.proofs.Adding.{gains_none}
use Rattle.lines.proofs.Tabling.{names_counted}
use Rattle.lines.proofs.Saying.{gains_same, fact_nothing, fact_other, fact_known}
use Rattle.lines.proofs.says.fact_line.Goals as goal

pub returns-in-Some-find : goal.returns-in-Some-find
returns-in-Some-find c =
    let n = c.args.states in
    let f = c.in-Some-find.ensures in
    gains_same _
    (fact_known c.in-Some.ensures.steps.2 _ _ _ _ (f.index ∙ ap (index_of (names_of n)) c.bytes.ensures) (rw (names_counted n) f.within))
    c.add_after.ensures

pub returns-in_default-find : goal.returns-in_default-find
returns-in_default-find c =
    let n = c.args.states in
    let f = c.in_default-find.ensures in
    gains_none _ _
    (fact_other c.in-Some.ensures.steps.2 _ _ _ _ (names_counted n ∙ f.index ∙ ap (index_of (names_of n)) c.bytes.ensures) (omega arith))

pub returns-in_default : goal.returns-in_default
returns-in_default c = gains_none _ _ (fact_nothing c.in_default.ensures.steps.1 _ _ _)
