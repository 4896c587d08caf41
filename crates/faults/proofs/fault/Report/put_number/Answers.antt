-- `Report::put_number` meets its contract: the texts of its three parts, one after another.
use Rattle.text.proofs.Putting.{puts_then}
use Rattle.faults.proofs.fault.Report.put_number.Goals as goal

pub returns-clause-number : goal.returns-clause-number
returns-clause-number c = puts_then c.put_word.ensures (puts_then c.put_number.ensures c.put_word-2.ensures)
