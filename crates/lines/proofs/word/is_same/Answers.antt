-- `word::is_same` meets its contract.
use mathlib.Core.Path.{◌∙◌}
use Rattle.lines.proofs.Wording.{same_pointwise}
use Rattle.lines.proofs.word.is_same.Goals as goal

pub returns : goal.returns
returns c = let e = c.eq.ensures in e ∙ same_pointwise _ _
