-- `List::of` meets its contract: the lines that are left are still to be put.
use mathlib.Core.Path.{sym, ◌∙◌}
use Rattle.lines.proofs.Tabling.{listed_more, listed_all}
use Rattle.lines.proofs.names.List.of.Goals as goal

pub loop-line-preserved : goal.loop-line-preserved
loop-line-preserved g c =
    let i = c.loop-line.invariant in
    let s = c.in-Some.ensures.steps in
    let p = c.put_line.ensures in
    (tt, tt, p.0 ∙ i.2, s.1 ∙ i.3, listed_more _ _ _ p.1 s.2 ∙ i.4)

pub returns : goal.returns
returns g c =
    let i = c.loop-line.invariant in
    (i.2, sym (listed_all _ _ _ c.in-None.ensures.steps.1) ∙ i.4)
