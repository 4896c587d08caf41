-- `put_figures` meets its contract: the words, one after another.
use Rattle.text.proofs.Putting.{puts_then}
use Rattle.judge.proofs.Telling.{refused_line}
use Rattle.judge.proofs.put_figures.Goals as goal

pub returns-in-Err : goal.returns-in-Err
returns-in-Err c =
    rw (c.in-Err.is, refused_line c.in-Err.why)
    (puts_then c.put_word-in-Err.ensures (puts_then (rw c.number.ensures at c.put_number.ensures) c.put.ensures))
