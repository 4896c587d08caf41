-- `near::nearest` meets its contract.
use Rattle.std.proofs.Common.{◌<◌, IfSome}
use Rattle.lines.specs.Tables.{count_of}
use Rattle.faults.proofs.near.nearest.Given as goal

abbrev pub invariant-loop-k : goal.invariant-loop-k
invariant-loop-k l = IfSome l.best (λ k. k < count_of l.names)
