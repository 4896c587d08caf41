-- A layer: the places of the queue that are not taken yet are taken, and others join.
use Rattle.std.specs.Prelude.{ℕ, ◌*◌, ◌≤◌, ◌<◌, Bool, true, false, List, ◌≡◌}
use Rattle.rules.specs.Bytes.{said}
use Rattle.sets.specs.Sets.{member}
use Rattle.game.specs.Below.{some_below}
use Rattle.rules.specs.Job.{Job, places, arena}
use Rattle.job.specs.declared.layout.Layout.{Layout}
use Rattle.phases.specs.declared.phase.Phase.{Phase}
use Rattle.phases.specs.Wanted.{wanted}
use Rattle.phases.specs.Pass.{place_at}
use Rattle.phases.specs.Round.{Passed}
use Rattle.backward.specs.Counts.{Counts, Counted}
use Rattle.backward.specs.Queue.{queued, numbered, Joined}
use Rattle.backward.specs.Step.{unsure, WalkReady}

-- the actions that a phase looks for, by a test of the places that are taken
abbrev pub looked : Phase → Job → (ℕ → Bool) → ℕ → ℕ → Bool
looked v j taken x a = wanted v (arena j) (numbered j.goals taken) (place_at j.goals x) a

-- the places of the set are places, and no other place has an action that the phase looks for from those taken
pub record Between (j : Job) (v : Phase) (taken new : ℕ → Bool) : Type 0 where
  pub inside : (x : ℕ) → new x ≡ true → x < places j
  pub none_else : (x : ℕ) → x < places j → new x ≡ false → some_below j.actions (looked v j taken x) ≡ false

-- what a layer relies on: the places before `from` are taken, and those before `to` are known and are all that have joined
pub record LayerReady (b : List ℕ) (l : Layout) (index : List ℕ) (v : Phase) (from to : ℕ) (known new plan counters queue : List ℕ) : Type 0
  where
    pub ready : WalkReady b l index to new plan counters queue
    pub before : from ≤ to
    pub known_is : (x : ℕ) → member known x ≡ queued queue to x
    pub between : Between (said b) v (queued queue from) (member new)
    pub counted : Counts (said b) (unsure v (said b) (numbered (said b).goals (queued queue from))) counters

-- what it leaves: the places before `to` taken, the set and the plan of one round more, and the counters of the places taken
pub record Layered (b : List ℕ) (l : Layout) (v : Phase) (n to : ℕ) (new plan counters queue new' plan' counters' queue' : List ℕ)
    (tail' : ℕ) : Type 0 where
  pub joined : Joined queue to new' queue' tail'
  pub passed : Passed b l v n new 0 (l.states * l.goals) new plan new' plan'
  pub counted : Counted (said b) (unsure v (said b) (numbered (said b).goals (queued queue' to))) counters counters'
