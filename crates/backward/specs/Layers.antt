-- Layers of a phase until one adds nothing, and both phases.
use Rattle.std.specs.Prelude.{ℕ, ◌+◌, ◌*◌, ◌≤◌, ◌<◌, true, false, List, ◌≡◌, length}
use Rattle.rules.specs.Bytes.{said}
use Rattle.sets.specs.Sets.{member}
use Rattle.rules.specs.Job.{places}
use Rattle.job.specs.Layout.{Fit}
use Rattle.job.specs.declared.layout.Layout.{Layout}
use Rattle.phases.specs.declared.phase.Phase.{Phase}
use Rattle.phases.specs.Wanted.{in_set}
use Rattle.phases.specs.Rounds.{Settles, Labelled}
use Rattle.backward.specs.Words.{Filled}
use Rattle.backward.specs.Index.{Indexed}
use Rattle.backward.specs.Counts.{counters_size, Counts, Counted}
use Rattle.backward.specs.Queue.{Queue}
use Rattle.backward.specs.Step.{unsure, WalkReady}

-- what the layers of a phase rely on: the places of the set are in the queue, and none of them is taken yet
pub record LayersReady (b : List ℕ) (l : Layout) (index : List ℕ) (v : Phase) (tail : ℕ) (new plan counters queue : List ℕ) : Type 0 where
  pub ready : WalkReady b l index tail new plan counters queue
  pub inside : (x : ℕ) → member new x ≡ true → x < places (said b)
  pub counted : Counts (said b) (unsure v (said b) (λ p. false)) counters

-- what they leave: rounds of the phase have settled, all of their places are in the queue, and the counters are those with all of them taken
pub record LayersDone (b : List ℕ) (v : Phase) (new plan counters new' plan' counters' queue' : List ℕ) (tail' : ℕ) : Type 0 where
  pub as_many : length new' ≡ length new
  pub as_long : length plan' ≡ length plan
  pub settles : Settles (said b) v new plan new' plan'
  pub queue_of : Queue (member new') queue' tail'
  pub counted : Counted (said b) (unsure v (said b) (in_set (said b).goals new')) counters counters'

-- what labelling every place relies on: room for the plan, the index and the counters
pub record Ready (b : List ℕ) (l : Layout) (plan index counters : List ℕ) : Type 0 where
  pub fit : Fit b l
  pub plan_room : 4 * (l.states * l.goals) ≤ length plan
  pub index_room : l.states + l.records ≤ length index
  pub counters_room : l.states * l.goals * l.actions ≤ length counters

-- what it leaves: every entry right, every record listed, and the counters 0
pub record Planned (b : List ℕ) (plan index counters plan' index' counters' : List ℕ) : Type 0 where
  pub labelled : Labelled (said b) plan plan'
  pub indexed : Indexed (said b) index index'
  pub cleared : Filled (counters_size (said b)) 0 counters counters'
