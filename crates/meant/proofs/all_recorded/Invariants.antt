-- `all_recorded` meets its contract: each number of a byte passed that the set has is recorded; a byte that is 0 has none.
use Prim.Native.Nat.{ℕ, ◌*◌, ◌/◌, ◌%◌, ◌<◌}
use mathlib.Core.Bool.{true}
use mathlib.Core.Path.{◌≡◌}
use Rattle.rules.specs.Job.{recorded}
use Rattle.rules.specs.Bytes.{said}
use Rattle.lines.specs.Numbers.{has}
use Rattle.meant.proofs.all_recorded.Given as goal

abbrev pub invariant-loop-k : goal.invariant-loop-k
invariant-loop-k l =
    (j : ℕ) → j < 8 * l.k → has l.moves.bytes j ≡ true → recorded (said l.job) (j / 8192) (j / 512 % 16) (j % 512) ≡ true
