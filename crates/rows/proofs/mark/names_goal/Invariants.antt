-- `mark::names_goal` meets its contract: no word passed names the goal state.
use Rattle.std.proofs.Common.{◌≡◌}
use Rattle.lines.specs.Steps.{words_left}
use Rattle.lines.specs.Tables.{names_of}
use Rattle.lines.specs.Says.{names_some}
use Rattle.rows.proofs.mark.names_goal.Given as goal

abbrev pub invariant-loop-word : goal.invariant-loop-word
invariant-loop-word l =
    goal.iterator-loop-word.can_next l.word-iterator
    × goal.iterator-loop-word.is_finite l.word-iterator
    × (names_some (names_of l.goals) 0 l.q (words_left l.fn.line) ≡ names_some (names_of l.goals) 0 l.q (words_left l.word-iterator))
