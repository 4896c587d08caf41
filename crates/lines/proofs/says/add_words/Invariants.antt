-- `says::add_words` meets its contract: the set has gained what the words passed add.
use Rattle.std.proofs.Common.{◌≡◌}
use Rattle.lines.specs.Tables.{names_of}
use Rattle.lines.specs.Steps.{words_left}
use Rattle.lines.specs.Says.{names_some}
use Rattle.lines.proofs.Saying.{Gaining}
use Rattle.lines.proofs.says.add_words.Given as goal

abbrev pub invariant-loop-w : goal.invariant-loop-w
invariant-loop-w g l =
    (goal.iterator-loop-w g).can_next l.w-iterator
    × (goal.iterator-loop-w g).is_finite l.w-iterator
    × Gaining l.initial.set.bytes l.set.bytes (λ j. names_some (names_of l.names) l.base j (words_left l.fn.line))
    (λ j. names_some (names_of l.names) l.base j (words_left l.w-iterator))
