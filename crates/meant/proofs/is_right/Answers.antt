-- `is_right` meets its contract: by three tests, one after the other.
use mathlib.Core.Bool.{false≢true}
use mathlib.Core.Path.{sym, ◌∙◌}
use Rattle.meant.proofs.Meaning.{meant}
use Rattle.meant.proofs.is_right.Goals as goal
use Rattle.meant.proofs.is_right.Goals.{then-all_said, else-all_said}

pub returns-then-all_recorded : goal.returns-then-all_recorded
returns-then-all_recorded c =
    elim c.if-all_said.branch [
      | then-all_said w ↦
          λ e. meant c.requires _ (c.all_said.ensures w.if-all_said.true) (w.all_recorded.ensures (sym w.value-is ∙ c.if-all_recorded.true)) _
          (c.labels_same.ensures e)
      | else-all_said w ↦ λ e. absurd (false≢true (sym w.if-all_said.false ∙ sym w.value-is ∙ c.if-all_recorded.true))
    ]
