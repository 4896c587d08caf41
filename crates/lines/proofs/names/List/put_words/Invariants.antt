-- `List::put_words` meets its contract: the words that are left are still to be put.
use Rattle.std.proofs.Common.{◌≡◌}
use Rattle.lines.specs.Tables.{names_in}
use Rattle.lines.specs.Names.{pushes}
use Rattle.lines.specs.Steps.{words_left}
use Rattle.lines.proofs.names.List.put_words.Given as goal

abbrev pub invariant-loop-w : goal.invariant-loop-w
invariant-loop-w g l =
    (goal.iterator-loop-w g).can_next l.w-iterator
    × (goal.iterator-loop-w g).is_finite l.w-iterator
    × (l.self.text.now ≡ l.initial.self.text.now)
    × (l.w-iterator.text.now ≡ l.initial.self.text.now)
    × (pushes g.row.N (names_in l.self) (words_left l.w-iterator) ≡ pushes g.row.N (names_in l.initial.self) (words_left l.fn.line))
