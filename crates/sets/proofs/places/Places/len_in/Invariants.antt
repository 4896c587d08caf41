-- `Places::len_in` meets its contract: the size is the count below the words passed.
use Prim.Native.Nat.{◌*◌}
use mathlib.Core.Path.{◌≡◌}
use Rattle.sets.specs.Sets.{member, count}
use Rattle.sets.proofs.places.Places.len_in.Given as goal

abbrev pub invariant-loop-w : goal.invariant-loop-w
invariant-loop-w g l = l.size ≡ count (member l.self.words) (64 * l.w)
