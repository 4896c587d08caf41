-- `put_report` meets its contract: the lines, one after another.
use Rattle.text.proofs.Putting.{puts_then}
use Rattle.report.proofs.put_report.Goals as goal

pub returns : goal.returns
returns c =
    puts_then c.put_counts.ensures
    (puts_then c.put_figure.ensures (puts_then c.put_figure-2.ensures c.put_largest.ensures))
