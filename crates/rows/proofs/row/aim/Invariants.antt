-- `row::aim` meets its contract: the row leads where it does by the words that are left.
use mathlib.Core.Bool.{false}
use Rattle.std.proofs.Common.{◌≡◌, length}
use Rattle.lines.specs.Steps.{words_left}
use Rattle.lines.specs.Tables.{names_of}
use Rattle.rows.specs.Rows.{aim}
use Rattle.rows.proofs.row.aim.Given as goal

abbrev pub invariant-loop-word : goal.invariant-loop-word
invariant-loop-word l =
    aim (names_of l.facts) (names_of l.goals) l.l false (words_left l.fn.rest) ≡ aim (names_of l.facts) (names_of l.goals) l.l l.ban (words_left l.rest)

abbrev pub decreases-loop-word : goal.decreases-loop-word
decreases-loop-word l = length (words_left l.rest)
