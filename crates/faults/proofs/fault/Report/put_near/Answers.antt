-- `Report::put_near` meets its contract: the name's text, or nothing where no name is near.
use Rattle.text.proofs.Putting.{puts_then, puts_none}
use Rattle.faults.proofs.fault.Report.put_near.Goals as goal

pub returns-in-Some-clause-near : goal.returns-in-Some-clause-near
returns-in-Some-clause-near c =
    record { rest = _; put = puts_then c.put_word.ensures (puts_then c.put_quoted.ensures.word c.put.ensures) }

pub returns-in_default-clause-near : goal.returns-in_default-clause-near
returns-in_default-clause-near c = record { rest = _; put = puts_none _ }
