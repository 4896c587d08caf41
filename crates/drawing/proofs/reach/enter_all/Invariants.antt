-- `reach::enter_all` meets its contract.
use Rattle.drawing.specs.Queue.{Grown}
use Rattle.drawing.proofs.reach.enter_all.Given as goal

abbrev pub invariant-loop-k : goal.invariant-loop-k
invariant-loop-k l = Grown l.n l.m l.initial.queue l.queue
