-- `word::next_line` meets its contract: there is no line feed from the position on to i.
use mathlib.Core.Path.{◌≡◌}
use lib.ListN.{drop}
use Rattle.lines.specs.Words.{lines_after}
use Rattle.lines.proofs.word.next_line.Given as goal

abbrev pub invariant-loop-i : goal.invariant-loop-i
invariant-loop-i l = lines_after (drop l.at l.text) ≡ lines_after (drop l.i l.text)
