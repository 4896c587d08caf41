-- `put_clauses` meets its contract: the clauses of the lines passed are put.
use Rattle.lines.specs.Words.{lines}
use Rattle.lines.specs.Steps.{lines_left}
use Rattle.lines.specs.Tables.{names_of}
use Rattle.aims.specs.Aims.{clauses_said}
use Rattle.aims.proofs.Aiming.{Going}
use Rattle.aims.proofs.put_clauses.Given as goal

abbrev pub invariant-loop-line : goal.invariant-loop-line
invariant-loop-line l =
    goal.iterator-loop-line.can_next l.line-iterator
    × goal.iterator-loop-line.is_finite l.line-iterator
    × Going l.initial.slip l.slip (clauses_said (names_of l.facts) (lines l.text)) (clauses_said (names_of l.facts) (lines_left l.line-iterator))
