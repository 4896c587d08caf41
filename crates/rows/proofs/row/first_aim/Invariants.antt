-- `row::first_aim` meets its contract: no row passed fits.
use Rattle.std.proofs.Common.{◌≡◌}
use Rattle.lines.specs.Words.{lines}
use Rattle.lines.specs.Steps.{lines_left}
use Rattle.lines.specs.Tables.{names_of}
use Rattle.rows.specs.Rows.{first_aim}
use Rattle.rows.proofs.row.first_aim.Given as goal

abbrev pub invariant-loop-line : goal.invariant-loop-line
invariant-loop-line l =
    goal.iterator-loop-line.can_next l.line-iterator
    × goal.iterator-loop-line.is_finite l.line-iterator
    × (first_aim (names_of l.facts) (names_of l.goals) l.q l.l (lines l.text)
    ≡ first_aim (names_of l.facts) (names_of l.goals) l.q l.l (lines_left l.line-iterator))
