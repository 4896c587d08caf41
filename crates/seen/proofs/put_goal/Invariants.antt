-- `put_goal` meets its contract: the line goes on in each turn.
use Rattle.seen.specs.Kept.{Grown}
use Rattle.seen.proofs.put_goal.Given as goal

abbrev pub invariant-loop-words : goal.invariant-loop-words
invariant-loop-words l = goal.iterator-loop-words.can_next l.words-iterator × goal.iterator-loop-words.is_finite l.words-iterator × Grown l.initial.line l.line
