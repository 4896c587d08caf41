-- `label::lies_below` meets its contract: no proposition from p up to i is true.
use mathlib.Core.Bool.{false}
use mathlib.Core.Path.{◌≡◌}
use Prim.Native.Nat.{ℕ, ◌≤◌, ◌<◌}
use Rattle.sets.specs.Sets.{bit}
use Rattle.sets.proofs.label.lies_below.Given as goal

abbrev pub invariant-loop-i : goal.invariant-loop-i
invariant-loop-i l = (k : ℕ) → k < l.i → l.p ≤ k → bit l.label k ≡ false
