-- `word::word_at` meets its contract: by the class of the byte that stands there.
use mathlib.Core.Path.{sym}
use native.Mathlib.Omega.{arith}
use Rattle.lines.proofs.Wording.{none_past, none_here, mark_here, letters_here, no_word_class}
use Rattle.lines.proofs.word.word_at.Goals as goal

pub returns-then-text-start : goal.returns-then-text-start
returns-then-text-start c = none_past _ _ c.if-text-start.true c.requires.start_in_bounds

pub returns-in-Letter : goal.returns-in-Letter
returns-in-Letter c = letters_here _ _ _ c.if-text-start.false (sym c.in-Letter.ensures) c.class_end-end.ensures.0 c.class_end-end.ensures.1

pub returns-in-Mark : goal.returns-in-Mark
returns-in-Mark c = mark_here _ _ c.if-text-start.false (sym c.in-Mark.ensures)

pub returns-in-Blank : goal.returns-in-Blank
returns-in-Blank c =
    let n = no_word_class _ c.in-Blank.is in
    none_here _ _ c.if-text-start.false c.requires.text_value (λ e. omega (arith, n, c.from.ensures, e)) (λ e. omega (arith, n, c.from.ensures, e))
