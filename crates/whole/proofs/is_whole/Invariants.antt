-- `is_whole` meets its contract: the lines passed are whole.
use Rattle.std.proofs.Common.{◌≡◌}
use Rattle.lines.specs.Words.{lines}
use Rattle.lines.specs.Steps.{lines_left}
use Rattle.lines.specs.Tables.{names_of}
use Rattle.whole.specs.Whole.{whole}
use Rattle.whole.proofs.is_whole.Given as goal

abbrev pub invariant-loop-line : goal.invariant-loop-line
invariant-loop-line l =
    goal.iterator-loop-line.can_next l.line-iterator
    × goal.iterator-loop-line.is_finite l.line-iterator
    × (whole (names_of l.states) (names_of l.actions) (names_of l.facts) (lines l.text)
    ≡ whole (names_of l.states) (names_of l.actions) (names_of l.facts) (lines_left l.line-iterator))
