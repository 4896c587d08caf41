-- `reach::reach` meets its contract.
use lib.ListN.{length}
use Rattle.drawing.specs.Queue.{Grown}
use Prim.Native.Nat.{◌-◌}
use Rattle.drawing.proofs.reach.reach.Given as goal

abbrev pub invariant-loop-k : goal.invariant-loop-k
invariant-loop-k l = Grown 0 l.n l.initial.queue l.queue

abbrev pub decreases-loop-k : goal.decreases-loop-k
decreases-loop-k l = length l.initial.queue - l.k
