-- `word::next_line` meets its contract: there is no line feed from the position on to i.
use mathlib.Core.Path.{◌≡◌, refl, ap, ◌∙◌}
use lib.ListN.{length, drop}
use Rattle.lines.specs.Words.{lines_after}
use native.Mathlib.Omega.{arith}
use Rattle.lines.proofs.Wording.{lines_step, lines_feed, lines_past, line_next}
use Rattle.lines.proofs.word.next_line.Goals as goal

pub returns-then-text-i-eq-LINE_FEED : goal.returns-then-text-i-eq-LINE_FEED
returns-then-text-i-eq-LINE_FEED c =
    let at = c.loop-i in
    line_next _ _ at.i at.auto.i (omega arith) at.invariant (lines_feed _ at.i c.loop-i-test.true c.if-text-i-eq-LINE_FEED.true)

pub loop-i-preserved : goal.loop-i-preserved
loop-i-preserved c = c.loop-i.invariant ∙ lines_step _ c.loop-i.i c.loop-i-test.true c.if-text-i-eq-LINE_FEED.false

pub returns : goal.returns
returns c =
    let end : c.loop-i.i ≡ length c.args.text.now = omega (arith, c.loop-i-test.false, c.loop-i.auto.i-end c.requires) in
    line_next _ _ _ c.requires (omega arith) (c.loop-i.invariant ∙ ap (λ i. lines_after (drop i c.args.text.now)) end) (lines_past _ _ refl)
