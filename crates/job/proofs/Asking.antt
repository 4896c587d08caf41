-- Laws of a job that was read, in the figures of its layout: what a crate above relies on, so that it opens no definition of the bytes.
use Prim.Native.Nat.{ℕ, ◌+◌, ◌*◌, ◌≤◌, ◌<◌}
use mathlib.Core.Bool.{true}
use mathlib.Core.List.{List}
use mathlib.Core.Path.{◌≡◌}
use native.Mathlib.Nat.{mul-le-mul}
use native.Mathlib.Omega.{arith}
use lib.Arith.{digits_lt}
use Rattle.game.specs.Game.{Inside, Lawful}
use Rattle.rules.specs.Job.{is_record, entered, start, places, arena}
use Rattle.rules.specs.Bytes.{is_tall, said}
use Rattle.rules.proofs.Kept as kept
use Rattle.rules.proofs.Arenas as arenas
use Rattle.job.specs.Forms.{named_form}
use Rattle.job.specs.Layout.{Fit}
use Rattle.job.specs.declared.layout.Layout.{Layout}
use Rattle.sets.specs.Sets.{set_room}

module _ {b : List ℕ} {l : Layout} (f : Fit b l) where
  -- ---- what the layout says is what the bytes say

  pub states_said : l.states ≡ (said b).states
  states_said = rw f.is_layout

  pub actions_said : l.actions ≡ (said b).actions
  actions_said = rw f.is_layout

  pub propositions_said : l.propositions ≡ (said b).propositions
  propositions_said = rw f.is_layout

  pub goals_said : l.goals ≡ (said b).goals
  goals_said = rw f.is_layout

  pub first_said : l.first ≡ (said b).first
  first_said = rw f.is_layout

  pub first_goal_said : l.first_goal ≡ (said b).first_goal
  first_goal_said = rw f.is_layout

  pub form_said : l.form ≡ named_form (is_tall b)
  form_said = rw f.is_layout

  pub records_said : l.records ≡ (said b).records
  records_said = rw f.is_layout

  pub places_said : l.states * l.goals ≡ places (said b)
  places_said = rw f.is_layout

  pub start_said : entered (said b) l.first_goal l.first ≡ start (said b)
  start_said = rw f.is_layout

  -- ---- bounds

  pub some_states : 1 ≤ l.states
  some_states = rw states_said f.keeps.some_states

  pub few_states : l.states ≤ 512
  few_states = rw states_said (kept.states_few f.keeps)

  pub some_actions : 1 ≤ l.actions
  some_actions = rw actions_said f.keeps.some_actions

  pub few_actions : l.actions ≤ 16
  few_actions = rw actions_said f.keeps.few_actions

  pub few_propositions : l.propositions ≤ 6
  few_propositions = rw propositions_said f.keeps.few_propositions

  pub some_goals : 1 ≤ l.goals
  some_goals = rw goals_said f.keeps.some_goals

  pub few_goals : l.goals ≤ 32
  few_goals = rw goals_said f.keeps.few_goals

  pub few_records : l.records ≤ 8192
  few_records = rw records_said (kept.records_few f.keeps)

  pub few_places : l.states * l.goals ≤ set_room
  few_places = omega (arith, mul-le-mul few_states few_goals)

  pub first_state : l.first < l.states
  first_state = rw (first_said, states_said) f.keeps.first_state

  pub first_goal_state : l.first_goal < l.goals
  first_goal_state = rw (first_goal_said, goals_said) f.keeps.first_goal_state

  -- ---- the place that is entered with state t from goal state q, and the number of its entry

  pub entered_inside : {q t : ℕ} → q < l.goals → t < l.states → Inside (arena (said b)) (entered (said b) q t)
  entered_inside h g = arenas.entered_inside f.keeps (rw goals_said at h) (rw states_said at g)

  pub entered_below : {q t : ℕ} → q < l.goals → t < l.states → (entered (said b) q t).goal < l.goals
  entered_below {q} {t} h g = rw goals_said ((arenas.inside_iff (said b) (entered (said b) q t)).0 (entered_inside h g)).1

  pub entry_below : {q t : ℕ} → q < l.goals → t < l.states → t * l.goals + (entered (said b) q t).goal < l.states * l.goals
  entry_below h g = digits_lt g (entered_below h g)

  pub entry_few : {q t : ℕ} → q < l.goals → t < l.states → t * l.goals + (entered (said b) q t).goal < set_room
  entry_few h g = omega (arith, entry_below h g, few_places)

  -- ---- the records

  pub state_below : (k : ℕ) → k < l.records → ((said b).move k).state < l.states
  state_below k h = rw states_said (f.keeps.state_below k (rw records_said at h))

  pub action_below : (k : ℕ) → k < l.records → ((said b).move k).action < l.actions
  action_below k h = rw actions_said (f.keeps.action_below k (rw records_said at h))

  pub action_few : (k : ℕ) → k < l.records → ((said b).move k).action < 16
  action_few k h = omega (arith, action_below k h, few_actions)

  pub outcome_below : (k : ℕ) → k < l.records → ((said b).move k).outcome < l.states
  outcome_below k h = rw states_said (f.keeps.outcome_below k (rw records_said at h))

  -- the outcome of a record that was found is a state
  pub found_below : (s a t : ℕ) {k : ℕ} → k < (said b).records → is_record ((said b).move k) s a t ≡ true → t < l.states
  found_below s a t {k} h e =
      rw (states_said, ← ((arenas.is_record_iff ((said b).move k) s a t).0 e).1) (f.keeps.outcome_below k h)

  pub sorted : (i m : ℕ) → i ≤ m → m < l.records → ((said b).move i).state ≤ ((said b).move m).state
  sorted i m h g = kept.sorted f.keeps i m h (rw records_said at g)

  -- ---- the arena

  pub lawful : Lawful (arena (said b))
  lawful = arenas.arena_lawful b f.keeps
