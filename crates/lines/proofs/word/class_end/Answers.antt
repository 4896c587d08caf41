-- `word::class_end` meets its contract: from the position on to i all are of the class.
use mathlib.Core.Path.{sym, ap, ◌∙◌}
use native.Mathlib.Omega.{arith}
use Rattle.lines.specs.Words.{class_number}
use Rattle.lines.proofs.Wording.{run_step, run_stop, run_past, other_class}
use denote.Enum.Bare.{differs_false}
use Rattle.lines.specs.contracts.word.Class.{the_type}
use Rattle.std.proofs.Common.{rules}
use Rattle.lines.proofs.word.class_end.Goals as goal

pub returns-then-ne : goal.returns-then-ne
returns-then-ne c =
    let z = run_stop (class_number c.args.class) c.args.text.now c.loop-i.i c.loop-i-test.true
    (λ e. other_class _ _ (sym c.ne.ensures ∙ c.if-ne.true) (c.from.ensures ∙ e)) in
    (omega (arith, z, c.loop-i.invariant), omega arith)

pub loop-i-preserved : goal.loop-i-preserved
loop-i-preserved c =
    let z = run_step (class_number c.args.class) _ c.loop-i.i c.loop-i-test.true
    (sym c.from.ensures ∙ ap class_number (differs_false the_type (search rules) _ _ (sym c.ne.ensures ∙ c.if-ne.false))) in
    c.loop-i.invariant ∙ z

pub returns : goal.returns
returns c =
    let z = run_past (class_number c.args.class) c.args.text.now c.loop-i.i c.loop-i-test.false in
    (omega (arith, z, c.loop-i.invariant, c.loop-i.auto.i-end c.requires), omega arith)
