-- `put_counts` meets its contract: a turn puts one count more.
use Rattle.std.proofs.Common.{arith, get_or}
use Rattle.text.proofs.Putting.{puts_none}
use Rattle.text.proofs.Repeating.{puts_next, puts_upto}
use Rattle.report.specs.Report.{figure_line}
use Rattle.report.proofs.put_counts.Goals as goal

pub loop-count-init : goal.loop-count-init
loop-count-init c = puts_none _

pub loop-count-preserved : goal.loop-count-preserved
loop-count-preserved c =
    puts_next (λ k. figure_line (get_or c.args.counts k 0)) c.loop-count.count-index c.loop-count.invariant c.put_figure.ensures

pub returns : goal.returns
returns c =
    puts_upto (λ k. figure_line (get_or c.args.counts k 0)) c.loop-count.count-index 11 (omega arith) (omega arith) c.loop-count.invariant
