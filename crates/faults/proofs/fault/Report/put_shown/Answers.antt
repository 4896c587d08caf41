-- `Report::put_shown` meets its contract: each turn puts one letter more as it is shown.
use Rattle.faults.proofs.Quoting.{shown_more}
use Rattle.faults.proofs.fault.Report.put_shown.Goals as goal

pub loop-byte-preserved : goal.loop-byte-preserved
loop-byte-preserved c = (c.loop-byte.invariant.0, shown_more _ _ c.loop-byte-test.true c.loop-byte.invariant.1 c.shown.ensures c.put.ensures)
