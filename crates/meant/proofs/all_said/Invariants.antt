-- `all_said` meets its contract: each record passed was said.
use Prim.Native.Nat.{ℕ, ◌<◌}
use mathlib.Core.Bool.{true}
use mathlib.Core.Path.{◌≡◌}
use Rattle.rules.specs.Bytes.{said}
use Rattle.lines.specs.Numbers.{has}
use Rattle.meant.specs.Meant.{move_number}
use Rattle.meant.proofs.all_said.Given as goal

abbrev pub invariant-loop-k : goal.invariant-loop-k
invariant-loop-k l = (i : ℕ) → i < l.k → has l.moves.bytes (move_number ((said l.job).move i)) ≡ true
