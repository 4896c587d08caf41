-- `put_counts` meets its contract: a turn puts one count more.
use Rattle.text.specs.Puts.{Puts}
use Rattle.report.specs.Report.{count_lines}
use Rattle.report.proofs.put_counts.Given as goal

abbrev pub invariant-loop-count : goal.invariant-loop-count
invariant-loop-count l = Puts l.initial.line (count_lines l.fn.counts l.count-index) l.line
