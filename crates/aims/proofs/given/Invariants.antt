-- `given` meets its contract: no line passed has a word after the key.
use Rattle.std.proofs.Common.{◌≡◌}
use Rattle.lines.specs.Words.{lines}
use Rattle.lines.specs.Steps.{lines_left}
use Rattle.lines.specs.Tables.{names_of}
use Rattle.aims.specs.Aims.{given}
use Rattle.aims.proofs.given.Given as goal

abbrev pub invariant-loop-line : goal.invariant-loop-line
invariant-loop-line l =
    goal.iterator-loop-line.can_next l.line-iterator
    × goal.iterator-loop-line.is_finite l.line-iterator
    × (given l.key (names_of l.names) (lines l.text) ≡ given l.key (names_of l.names) (lines_left l.line-iterator))
