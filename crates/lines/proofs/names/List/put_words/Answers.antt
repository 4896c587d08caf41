-- `List::put_words` meets its contract: the words that are left are still to be put.
use mathlib.Core.Path.{sym, ◌∙◌}
use Rattle.lines.proofs.Tabling.{pushed, pushed_all}
use Rattle.lines.proofs.names.List.put_words.Goals as goal

pub loop-w-preserved : goal.loop-w-preserved
loop-w-preserved g c =
    let i = c.loop-w.invariant in
    let s = c.in-Some.ensures.steps in
    let p = c.put.ensures in
    (tt, tt, p.0 ∙ i.2, s.1 ∙ i.3, pushed _ _ p.1 s.2 ∙ i.4)

pub returns : goal.returns
returns g c =
    let i = c.loop-w.invariant in
    (i.2, sym (pushed_all _ _ c.in-None.ensures.steps.1) ∙ i.4)
