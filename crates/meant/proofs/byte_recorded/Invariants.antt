-- `byte_recorded` meets its contract: each number passed that the set has is recorded.
use Prim.Native.Nat.{ℕ, ◌*◌, ◌/◌, ◌%◌, ◌≤◌, ◌<◌}
use mathlib.Core.Bool.{true}
use mathlib.Core.Path.{◌≡◌}
use Rattle.rules.specs.Job.{recorded}
use Rattle.rules.specs.Bytes.{said}
use Rattle.lines.specs.Numbers.{has}
use Rattle.meant.proofs.byte_recorded.Given as goal

abbrev pub invariant-loop-i : goal.invariant-loop-i
invariant-loop-i l =
    (j : ℕ) → j < l.i → 8 * l.k ≤ j → has l.moves.bytes j ≡ true → recorded (said l.job) (j / 8192) (j / 512 % 16) (j % 512) ≡ true
