-- `next` meets its contract: the set stays, and the bits of a byte are gone through once.
use Prim.Native.Nat.{◌-◌, ◌≤◌}
use Rattle.laid.proofs.moves.SaidIterator.next.Given as goal

abbrev pub invariant-loop-self : goal.invariant-loop-self
invariant-loop-self l = l.initial.self.at ≤ l.self.at

abbrev pub decreases-loop-self : goal.decreases-loop-self
decreases-loop-self l = 4194304 - l.self.at
