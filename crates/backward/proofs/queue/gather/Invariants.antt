-- `gather` meets its contract: the places of the set below x are the queue.
use Rattle.backward.specs.Queue.{Queue}
use Rattle.backward.proofs.Queuing.{first_of}
use Rattle.backward.proofs.queue.gather.Given as goal

abbrev pub invariant-loop-x : goal.invariant-loop-x
invariant-loop-x l =
    Queue (first_of l.set.words l.x) l.queue l.tail
