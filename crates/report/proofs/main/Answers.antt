-- `main` meets its contract: what is printed is what is to be printed of the contents and the bytes that came.
use mathlib.Core.Path.{sym}
use lib.Seq.{length-take-le}
use Rattle.report.proofs.Reading.{month_told}
use borrow.Author.Rules.{rules}
use Rattle.report.proofs.main.Goals as goal

pub slice_bounds-take_month-end-2 : goal.slice_bounds-take_month-end-2
slice_bounds-take_month-end-2 c = sym (length-take-le _ _ (search rules))

pub slice_bounds-print-end : goal.slice_bounds-print-end
slice_bounds-print-end c = sym (length-take-le _ _ (search rules))

pub print-requires : goal.print-requires
print-requires c = month_told c.take_month-month.ensures c.tell-n.ensures.out_after
