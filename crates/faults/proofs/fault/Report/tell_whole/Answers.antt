-- `Report::tell_whole` meets its contract: where there is room, what the text lacks, and a line feed.
use Rattle.text.proofs.Putting.{puts_then}
use Rattle.faults.proofs.fault.Report.tell_whole.Goals as goal

pub returns-clause-told : goal.returns-clause-told
returns-clause-told c = λ e. puts_then c.put_word.ensures c.put.ensures
