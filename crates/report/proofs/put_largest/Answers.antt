-- `put_largest` meets its contract, by whether some job wins.
use Rattle.text.proofs.Putting.{puts_then}
use Rattle.report.proofs.put_largest.Goals as goal

pub returns-in-Some : goal.returns-in-Some
returns-in-Some c =
    rw c.in-Some.is
    (puts_then (rw c.from.ensures at c.put_number.ensures) (puts_then c.put.ensures c.put_figure.ensures))
