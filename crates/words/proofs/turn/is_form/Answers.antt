-- `turn::is_form` meets its contract.
use mathlib.Core.Path.{sym, ap, ◌∙◌}
use borrow.Author.Tests.{not-true}
use Rattle.job.specs.Forms.{named_form}
use Rattle.words.proofs.turn.is_form.Goals as goal

pub returns-in-Old : goal.returns-in-Old
returns-in-Old c = λ e. c.in-Old.is ∙ ap named_form (sym (not-true _ e) ∙ c.is_tall-tall.ensures)

pub returns-in-Tall : goal.returns-in-Tall
returns-in-Tall c = λ e. c.in-Tall.is ∙ ap named_form (sym e ∙ c.is_tall-tall.ensures)
