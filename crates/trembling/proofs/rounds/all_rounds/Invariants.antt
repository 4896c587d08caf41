-- `all_rounds` meets its contract: each turn of the loop makes one round, and the size of the set tells whether it added a larger place. Below, s
-- is the start, a the loop's head, p past the round.
use Prim.Native.Nat.{◌*◌, ◌<◌, ◌-◌}
use mathlib.Core.Path.{◌≡◌}
use lib.ListN.{length}
use Rattle.rules.specs.Bytes.{said}
use Rattle.sets.specs.Sets.{member, count}
use Rattle.trembling.proofs.Settling.{GoingLarger}
use Rattle.trembling.proofs.rounds.all_rounds.Given as goal

abbrev pub invariant-loop-few : goal.invariant-loop-few
invariant-loop-few l =
    (l.k < l.few) × (length l.plan ≡ length l.initial.plan) × (l.few ≡ count (member l.got.words) (64 * l.used))
    × GoingLarger (said l.job) l.slips l.phase l.initial.got.words l.initial.plan l.k l.got.words l.plan

abbrev pub decreases-loop-few : goal.decreases-loop-few
decreases-loop-few l = l.n - l.few
