-- `labels_same` meets its contract: each label passed is the one that was made.
use Prim.Native.Nat.{ℕ, ◌+◌, ◌<◌}
use mathlib.Core.Path.{◌≡◌}
use lib.ListN.{get_or}
use Rattle.meant.proofs.labels_same.Given as goal

abbrev pub invariant-loop-s : goal.invariant-loop-s
invariant-loop-s l = (i : ℕ) → i < l.s → get_or l.job (l.at + i) 0 ≡ get_or l.labels.bytes i 0
