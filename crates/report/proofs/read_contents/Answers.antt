-- `read_contents` meets its contract: no more is asked for than there is room.
use mathlib.Core.Path.{sym}
use lib.Seq.{length-take-le}
use borrow.Author.Rules.{rules}
use Rattle.report.proofs.read_contents.Goals as goal

pub slice_bounds-entries_counted-end-2 : goal.slice_bounds-entries_counted-end-2
slice_bounds-entries_counted-end-2 g c = sym (length-take-le _ _ (search rules))
