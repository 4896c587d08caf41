-- `put_figure` meets its contract: the number and the line feed.
use Rattle.text.proofs.Putting.{puts_then}
use Rattle.report.proofs.put_figure.Goals as goal

pub returns : goal.returns
returns c = puts_then c.put_number.ensures c.put.ensures
