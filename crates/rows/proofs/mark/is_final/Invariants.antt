-- `mark::is_final` meets its contract: no line passed calls the goal state final.
use Rattle.std.proofs.Common.{◌≡◌}
use Rattle.lines.specs.Words.{lines}
use Rattle.lines.specs.Steps.{lines_left}
use Rattle.lines.specs.Tables.{names_of}
use Rattle.rows.specs.Rows.{final_said}
use Rattle.rows.proofs.mark.is_final.Given as goal

abbrev pub invariant-loop-line : goal.invariant-loop-line
invariant-loop-line l =
    goal.iterator-loop-line.can_next l.line-iterator
    × goal.iterator-loop-line.is_finite l.line-iterator
    × (final_said (names_of l.goals) (lines l.text) l.q ≡ final_said (names_of l.goals) (lines_left l.line-iterator) l.q)
