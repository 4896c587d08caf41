-- The step: one place is taken, and the places that may lead to it join.
use Rattle.std.specs.Prelude.{ℕ, ◌+◌, ◌*◌, ◌-◌, ◌/◌, ◌%◌, ◌≤◌, ◌<◌, Bool, ◌&&◌, List, ◌≡◌, eqb, length, get_or}
use Rattle.rules.specs.Bytes.{said}
use Rattle.rules.specs.Job.{Job, is_record, places}
use Rattle.rules.specs.declared.place.Place.{Place}
use Rattle.sets.specs.Sets.{set_words, member, count}
use Rattle.job.specs.Layout.{Fit}
use Rattle.job.specs.declared.layout.Layout.{Layout}
use Rattle.phases.specs.declared.phase.Phase.{Phase}
use Rattle.phases.specs.Wanted.{phase_value}
use Rattle.backward.specs.Index.{Lists}
use Rattle.backward.specs.Counts.{untaken, Counts, Counted}
use Rattle.backward.specs.Queue.{queued, numbered, Queue, Joined}
use Rattle.backward.specs.Notes.{Noted, from_goal, from_all}

-- ---- one counter

-- the counter at word i falls by one, unless it is 0; `spent` tells whether it is 0 then
pub record Fell (i : ℕ) (before : List ℕ) (spent : Bool) (after : List ℕ) : Type 0 where
  pub as_long : length after ≡ length before
  pub here : get_or after i 0 ≡ get_or before i 0 - 1
  pub others : (y : ℕ) → (y ≡ i → ⊥) → get_or after y 0 ≡ get_or before y 0
  pub told : spent ≡ eqb (get_or before i 0 - 1) 0

-- ---- the records that lead to a state, at one goal state

-- record i has the state and the action of word y and leads to state t, and word y is of goal state q
abbrev pub hit : Job → ℕ → ℕ → ℕ → ℕ → Bool
hit j t q y i = eqb (y / j.actions % j.goals) q && is_record (j.move i) (y / j.actions / j.goals) (y % j.actions) t

-- each counter of goal state q has fallen by the count of its records below k that lead to state t, or to 0
pub record Lowered (j : Job) (t q k : ℕ) (before now : List ℕ) : Type 0 where
  pub as_long : length now ≡ length before
  pub words : (y : ℕ) → get_or now y 0 ≡ get_or before y 0 - count (hit j t q y) k

-- what the walk relies on
pub record WalkReady (b : List ℕ) (l : Layout) (index : List ℕ) (tail : ℕ) (new plan counters queue : List ℕ) : Type 0 where
  pub fit : Fit b l
  pub lists : Lists (said b) index
  pub counters_room : l.states * l.goals * l.actions ≤ length counters
  pub plan_room : 4 * (l.states * l.goals) ≤ length plan
  pub words : length new ≡ set_words
  pub queue_of : Queue (member new) queue tail

-- the records below k that lead to state t are walked once, at goal state q: the counters have fallen, and each action whose counter is
-- then 0 is found for its place; v and n are the value and the number of the places that join, and `known` those known before
pub record Walked (j : Job) (t q k v n : ℕ) (known : ℕ → Bool) (new plan counters queue : List ℕ) (tail : ℕ)
    (new' plan' counters' queue' : List ℕ) (tail' : ℕ) : Type 0 where
  pub lowered : Lowered j t q k counters counters'
  pub noted : Noted (places j) j.actions v n known (from_goal j counters' t q k) new plan new' plan'
  pub joined : Joined queue tail new' queue' tail'

-- ---- the step

-- the counters of a phase: where pending places are looked for, one outcome is enough and every counter is 0
abbrev pub unsure : Phase → Job → (Place → Bool) → ℕ → ℕ
unsure Phase.Winning j taken y = untaken j taken y
unsure Phase.Pending j taken y = 0

-- before the step: the place at `head` of the queue is to be taken, those before it are taken, and the counters are the phase's: where winning
-- places are looked for, each is the count of that place and action's listed outcomes whose places have not been taken
pub record Taking (b : List ℕ) (l : Layout) (index : List ℕ) (v : Phase) (head tail : ℕ) (new plan counters queue : List ℕ) : Type 0 where
  pub ready : WalkReady b l index tail new plan counters queue
  pub due : head < tail
  pub a_place : get_or queue head 0 < places (said b)
  pub counted : Counts (said b) (unsure v (said b) (numbered (said b).goals (queued queue head))) counters

-- after it: the place is taken too, the counters then are the phase's again, with the place among those taken, what lies beyond the counters is
-- as before, and each action that may lead to the place and whose counter is 0 is found
pub record Taken (j : Job) (v : Phase) (n head : ℕ) (known : ℕ → Bool) (new plan counters queue : List ℕ) (tail : ℕ)
    (new' plan' counters' queue' : List ℕ) (tail' : ℕ) : Type 0 where
  pub counted : Counted j (unsure v j (numbered j.goals (queued queue' (head + 1)))) counters counters'
  pub noted : Noted (places j) j.actions (phase_value v) n known
      (from_all j counters' (get_or queue head 0 / j.goals) (get_or queue head 0 % j.goals) j.goals) new plan new' plan'
  pub joined : Joined queue tail new' queue' tail'
