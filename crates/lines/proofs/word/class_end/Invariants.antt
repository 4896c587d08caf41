-- `word::class_end` meets its contract: from the position on to i all are of the class.
use Prim.Native.Nat.{◌+◌}
use mathlib.Core.Path.{◌≡◌}
use lib.ListN.{drop}
use Rattle.lines.specs.Words.{run, class_number}
use Rattle.lines.proofs.word.class_end.Given as goal

abbrev pub invariant-loop-i : goal.invariant-loop-i
invariant-loop-i l =
    l.at + run (class_number l.class) (drop l.at l.text) ≡ l.i + run (class_number l.class) (drop l.i l.text)
