-- `Report::tell_word` meets its contract: where there is room, the texts of the line's parts, one after another.
use Rattle.text.proofs.Putting.{puts_then}
use Rattle.faults.proofs.fault.Report.tell_word.Goals as goal

pub returns-clause-told : goal.returns-clause-told
returns-clause-told c =
    λ e. puts_then c.put_number.ensures.number
    (puts_then c.put_word.ensures (puts_then c.put_quoted.ensures.word (puts_then c.put_word-2.ensures c.put.ensures)))
