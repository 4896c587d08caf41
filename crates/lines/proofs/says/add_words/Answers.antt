-- `says::add_words` meets its contract: the set has gained what the words passed add.
use mathlib.Core.Path.{sym, ap, ◌∙◌}
use native.Mathlib.Omega.{arith}
use Rattle.lines.specs.Names.{index_of}
use Rattle.lines.specs.Tables.{names_of}
use Rattle.lines.proofs.Tabling.{names_counted}
use Rattle.lines.proofs.Saying.{gaining_more, gaining_skip, gaining_end, none_named, one_named, other_named}
use Rattle.lines.proofs.says.add_words.Goals as goal

pub loop-w-preserved-in-Some-find : goal.loop-w-preserved-in-Some-find
loop-w-preserved-in-Some-find g c =
    let n = c.args.names in
    let s = c.in-Some.ensures.steps in
    let f = c.in-Some-find.ensures in (
      tt,
      tt,
      gaining_more c.loop-w.invariant.2 _ c.insert.ensures
          (one_named s.2 (names_of n) _ _ (f.index ∙ ap (index_of (names_of n)) c.bytes.ensures) (rw (names_counted n) f.within)),
    )

pub loop-w-preserved : goal.loop-w-preserved
loop-w-preserved g c =
    let n = c.args.names in
    let s = c.in-Some.ensures.steps in
    let f = c.in_default.ensures in (
      tt,
      tt,
      gaining_skip c.loop-w.invariant.2 _
          (other_named s.2 (names_of n) _ _ (names_counted n ∙ f.index ∙ ap (index_of (names_of n)) c.bytes.ensures) (omega arith)),
    )

pub returns : goal.returns
returns g c = gaining_end c.loop-w.invariant.2 (none_named c.in-None.ensures.steps.1 _ _)
