-- `count_before` meets its contract: of the records in doubt each look settles the upper or the lower part.
use Prim.Native.Nat.{◌-◌, ◌≤◌}
use Rattle.rules.specs.Bytes.{said}
use Rattle.job.specs.Found.{triple, Parted}
use Rattle.job.proofs.ask.count_before.Given as goal

abbrev pub invariant-loop-low : goal.invariant-loop-low
invariant-loop-low l = (l.low ≤ l.high) × Parted (said l.job) (triple l.s l.a l.t) l.low l.high

abbrev pub decreases-loop-low : goal.decreases-loop-low
decreases-loop-low l = l.high - l.low
