-- `List::of` meets its contract: the lines that are left are still to be put.
use Rattle.std.proofs.Common.{◌≡◌}
use Rattle.lines.specs.Tables.{names_in}
use Rattle.lines.specs.Names.{listed, names}
use Rattle.lines.specs.Steps.{lines_left}
use Rattle.lines.proofs.names.List.of.Given as goal

abbrev pub invariant-loop-line : goal.invariant-loop-line
invariant-loop-line g l =
    (goal.iterator-loop-line g).can_next l.line-iterator
    × (goal.iterator-loop-line g).is_finite l.line-iterator
    × (l.list.text.now ≡ l.text)
    × (l.line-iterator.text.now ≡ l.text)
    × (listed g.row.N l.key (names_in l.list) (lines_left l.line-iterator) ≡ names g.row.N l.key l.text)
