-- `walk_from` meets its contract: going along the index, the counter of each record falls, and where it is then 0 its action is found.
use Prim.Native.Nat.{◌≤◌, ◌<◌, ◌-◌}
use mathlib.Core.Path.{◌≡◌}
use Rattle.rules.specs.Answers.{value_number}
use Rattle.rules.specs.Bytes.{said}
use Rattle.sets.specs.Sets.{member}
use Rattle.backward.specs.Step.{Walked}
use Rattle.backward.proofs.step.walk_from.Given as goal

abbrev pub invariant-loop-k : goal.invariant-loop-k
invariant-loop-k l =
    (l.k ≤ (said l.job).records) × (l.k < (said l.job).records → ((said l.job).move l.k).outcome ≡ l.t)
    × Walked (said l.job) l.t l.q l.k (value_number l.value) l.number (member l.known.words) l.initial.new.words l.initial.plan l.initial.counters l.initial.queue l.tail l.new.words l.plan l.counters l.queue l.end

abbrev pub decreases-loop-k : goal.decreases-loop-k
decreases-loop-k l =
    l.n - l.k
