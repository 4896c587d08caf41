-- `is_listing` meets its contract: the words that are left are listed as all are from the beginning on.
use mathlib.Core.Bool.{true}
use Rattle.std.proofs.Common.{◌≡◌}
use Rattle.lines.specs.Steps.{words_left}
use Rattle.lines.specs.Tables.{names_of}
use Rattle.whole.specs.Whole.{listing}
use Rattle.whole.proofs.is_listing.Given as goal

abbrev pub invariant-loop-word : goal.invariant-loop-word
invariant-loop-word l =
    goal.iterator-loop-word.can_next l.word-iterator
    × goal.iterator-loop-word.is_finite l.word-iterator
    × (listing (names_of l.names) l.also l.mark true (words_left l.fn.line)
    ≡ listing (names_of l.names) l.also l.mark l.due (words_left l.word-iterator))
