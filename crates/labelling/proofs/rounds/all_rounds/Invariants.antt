-- `all_rounds` meets its contract: each turn of the loop makes one round, and the size of the set tells whether it added a place. Fewer places are
-- then not yet in the set, so that the loop ends.
use Prim.Native.Nat.{◌*◌, ◌≤◌, ◌-◌}
use mathlib.Core.Path.{◌≡◌}
use lib.ListN.{length}
use Rattle.rules.specs.Bytes.{said}
use Rattle.sets.specs.Sets.{member, count}
use Rattle.phases.specs.Rounds.{NonePast}
use Rattle.phases.proofs.Settling.{Going}
use Rattle.labelling.proofs.rounds.all_rounds.Given as goal

abbrev pub invariant-loop-few : goal.invariant-loop-few
invariant-loop-few l =
    (l.k ≤ l.few) × (length l.plan ≡ length l.initial.plan) × (l.few ≡ count (member l.got.words) (64 * l.used)) × NonePast (said l.job) l.got.words
    × Going (said l.job) l.phase l.initial.got.words l.initial.plan l.k l.got.words l.plan

-- how many places are not yet in the set
abbrev pub decreases-loop-few : goal.decreases-loop-few
decreases-loop-few l = l.n - l.few
