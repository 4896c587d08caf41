-- What it is for the bytes of a job to keep the rules: document 01, "A job in bytes", a field for each rule.
-- `kept` of proofs/Kept.antt shows that these are the bytes that no number refuses.
use Rattle.std.specs.Prelude.{ℕ, ◌+◌, ◌*◌, ◌≤◌, ◌<◌, Bool, true, false, List, ◌⊎◌, ◌≡◌, length}
use Rattle.rules.specs.Bytes.{offset, size, end, form, width, mark, said}
use Rattle.rules.specs.declared.place.Move.{Move}

-- m comes before n as a triple, compared field by field
abbrev pub Before : Move → Move → Type 0
Before m n =
    (m.state < n.state)
    ⊎ ((m.state ≡ n.state) × ((m.action < n.action) ⊎ ((m.action ≡ n.action) × (m.outcome < n.outcome))))

-- outcome t is below the count of states, or it is forgiven
abbrev pub OutcomeFits : Bool → ℕ → ℕ → Type 0
OutcomeFits true t states = Unit {0}
OutcomeFits false t states = t < states

-- the rules, where a too large outcome may be forgiven (document 02, request 14)
pub record KeepsBut (forgive : Bool) (b : List ℕ) : Type 0 where
  -- the contents are 16 bytes; bodies follow in order with no gap, the first at 16, and the last ends where the job ends
  pub contents_long : 16 ≤ length b
  pub counts_at : offset b 0 ≡ 16
  pub labels_at : offset b 1 ≡ end b 0
  pub moves_at : offset b 2 ≡ end b 1
  pub goal_at : offset b 3 ≡ end b 2
  pub ends : length b ≡ end b 3
  -- Counts: 6 bytes, and up to 128 states; or 8 bytes, and up to 512 states
  pub counts_long : (size b 0 ≡ 6) ⊎ (size b 0 ≡ 8)
  pub some_states : 1 ≤ (said b).states
  pub few_states : (said b).states ≤ (form b).most_states
  pub some_actions : 1 ≤ (said b).actions
  pub few_actions : (said b).actions ≤ 16
  pub few_propositions : (said b).propositions ≤ 6
  pub some_goals : 1 ≤ (said b).goals
  pub few_goals : (said b).goals ≤ 32
  pub first_state : (said b).first < (said b).states
  pub first_goal_state : (said b).first_goal < (said b).goals
  -- Labels: one byte a state, without its mark below 2^P
  pub labels_long : size b 1 ≡ (said b).states
  pub label_below : (s : ℕ) → s < (said b).states → (said b).label s < width b
  -- Moves: 0 to 4,096 records of three bytes, or 0 to 8,192 of five; each field in its range, strictly ascending
  pub moves_long : size b 2 ≡ (form b).record_size * (said b).records
  pub few_records : (said b).records ≤ (form b).most_records
  pub state_below : (k : ℕ) → k < (said b).records → ((said b).move k).state < (said b).states
  pub action_below : (k : ℕ) → k < (said b).records → ((said b).move k).action < (said b).actions
  pub outcome_below : (k : ℕ) → k < (said b).records → OutcomeFits forgive ((said b).move k).outcome (said b).states
  pub ascending : (k m : ℕ) → k < m → m < (said b).records → Before ((said b).move k) ((said b).move m)
  -- Goal: for each goal state and label a next goal state, then a mark for each goal state
  pub goal_long : size b 3 ≡ (said b).goals * width b + (said b).goals
  pub next_below : (q l : ℕ) → q < (said b).goals → l < width b → (said b).next q l < (said b).goals
  pub mark_range : (q : ℕ) → q < (said b).goals → mark b q ≤ 1

-- the rules of a job, with nothing forgiven
abbrev pub Keeps : List ℕ → Type 0
Keeps b = KeepsBut false b
