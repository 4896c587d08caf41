-- `put_record` meets its contract: a space, the record and the line feed where a record is named, and the line feed alone elsewhere.
use mathlib.Core.Path.{sym, ◌∙◌}
use Rattle.text.proofs.Putting.{puts_then}
use Rattle.text.proofs.Line.put_record.Goals as goal
use Rattle.text.proofs.Line.put_record.Goals.{then-names_record, else-names_record}

pub returns : goal.returns
returns c = elim c.if-names_record.branch [
  | then-names_record w ↦
      rw (sym c.names_record.ensures ∙ w.if-names_record.true)
      (puts_then w.put.ensures (puts_then (rw (w.record.ensures) at w.put_number.ensures) (rw w.self-is at c.put-2.ensures)))
  | else-names_record w ↦
      rw (sym c.names_record.ensures ∙ w.if-names_record.false) (rw w.self-is at c.put-2.ensures)
]
