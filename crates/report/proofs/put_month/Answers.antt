-- `put_month` meets its contract.
use Rattle.report.proofs.put_month.Goals as goal

pub returns-in-Some : goal.returns-in-Some
returns-in-Some c = rw c.in-Some.is c.put_report.ensures

pub returns-in-None : goal.returns-in-None
returns-in-None c = rw c.in-None.is c.put_word.ensures
