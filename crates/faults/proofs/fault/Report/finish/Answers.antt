-- `Report::finish` meets its contract: nothing more where no fault was counted, and else the texts of the line's parts, one after another.
use borrow.Author.Tests.{ne_eqb}
use Rattle.text.proofs.Putting.{puts_then, puts_none}
use Rattle.faults.proofs.fault.Report.finish.Goals as goal

pub returns-then-self-eq0-clause-more : goal.returns-then-self-eq0-clause-more
returns-then-self-eq0-clause-more c = rw c.if-self-eq0.true (puts_none _)

pub returns-clause-more : goal.returns-clause-more
returns-clause-more c =
    rw (ne_eqb _ _ c.if-self-eq0.false) (puts_then c.put_word.ensures (puts_then c.put_number.ensures c.put_word-2.ensures))
