-- `says::facts` meets its contract: the set has gained what the lines passed say.
use Rattle.lines.specs.Words.{lines}
use Rattle.lines.specs.Tables.{names_of}
use Rattle.lines.specs.Steps.{lines_left}
use Rattle.lines.specs.Says.{some_of, says_fact}
use Rattle.lines.proofs.Saying.{Gaining}
use Rattle.lines.proofs.says.facts.Given as goal

abbrev pub invariant-loop-line : goal.invariant-loop-line
invariant-loop-line l =
    goal.iterator-loop-line.can_next l.line-iterator
    × goal.iterator-loop-line.is_finite l.line-iterator
    × Gaining l.initial.set.bytes l.set.bytes (λ j. some_of (says_fact (names_of l.states) (names_of l.facts) l.shift j) (lines l.text))
    (λ j. some_of (says_fact (names_of l.states) (names_of l.facts) l.shift j) (lines_left l.line-iterator))
