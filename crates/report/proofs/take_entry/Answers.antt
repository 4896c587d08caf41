-- `take_entry` meets its contract: what is in the buffer is the entry, as far as it is kept.
use Prim.Native.Nat.{◌+◌}
use mathlib.Core.Path.{sym, ◌∙◌}
use native.Mathlib.Omega.{arith}
use lib.Seq.{length-take-le}
use Rattle.report.specs.Read.{cut}
use Rattle.report.proofs.Reading.{came_whole}
use borrow.Author.Rules.{rules}
use Rattle.report.proofs.take_entry.Goals as goal

pub returns-then-first-n : goal.returns-then-first-n
returns-then-first-n g c =
    let n = c.portion-n.ensures in
    cut {k = c.read_between-first.result} (omega arith)

pub returns-then-past-more : goal.returns-then-past-more
returns-then-past-more g c =
    let n = c.portion-n in
    cut {k = n.result + c.read_past-past.result} (omega (arith, n.ensures))

pub slice_bounds-class_of-end-2 : goal.slice_bounds-class_of-end-2
slice_bounds-class_of-end-2 g c = sym (length-take-le _ _ (search rules))

pub class_of-requires : goal.class_of-requires
class_of-requires g c =
    length-take-le _ _ (search rules) ∙ c.portion-n.ensures

pub returns : goal.returns
returns g c =
    came_whole c.portion-n.ensures c.class_of.ensures
