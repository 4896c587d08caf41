-- `Report::put_quoted` meets its contract: the quote, the letters as they are shown, the points of a long word, and the quote.
use Rattle.text.proofs.Putting.{puts_then}
use Rattle.faults.proofs.Quoting.{shown_first}
use Rattle.faults.proofs.fault.Report.put_quoted.Goals as goal

pub returns-clause-word : goal.returns-clause-word
returns-clause-word c =
    puts_then c.put.ensures
    (puts_then (shown_first _ c.min.ensures c.put_shown.ensures.letters) (puts_then c.put_points.ensures.points c.put-2.ensures))
