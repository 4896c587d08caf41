-- `says::add_after` meets its contract.
use mathlib.Core.Path.{sym, ap, ◌∙◌}
use Rattle.lines.proofs.Adding.{gains_none}
use Rattle.lines.proofs.Saying.{gains_same, after_nothing, after_other, after_key_word}
use Rattle.lines.proofs.says.add_after.Goals as goal

pub returns-then-is : goal.returns-then-is
returns-then-is g c = gains_same _ (after_key_word c.in-Some.ensures.steps.2 _ _ _ (sym c.is.ensures ∙ c.if-is.true)) c.add_words.ensures

pub returns-else-is : goal.returns-else-is
returns-else-is g c = gains_none _ _ (after_other c.in-Some.ensures.steps.2 _ _ _ (sym c.is.ensures ∙ c.if-is.false))

pub returns-in_default : goal.returns-in_default
returns-in_default g c = gains_none _ _ (after_nothing c.in_default.ensures.steps.1 _ _ _)
