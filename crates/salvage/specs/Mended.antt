-- Salvaging a job that names outcomes which do not exist: which records stay, which pairs of a state and an action are removed, the job that
-- is left, and the jobs that keep all else. Document 02, request 14. Nothing here speaks of bytes.
use Rattle.std.specs.Prelude.{ℕ, ◌+◌, ◌*◌, ◌^◌, ◌<◌, Bool, true, false, not, ◌&&◌, List, ◌⊎◌, ◌≡◌, ltb, eqb, length, get_or}
use Rattle.sets.specs.Sets.{count}
use Rattle.game.specs.Below.{some_below, last_below}
use Rattle.rules.specs.Form.{word}
use Rattle.rules.specs.Job.{Job, is_from, recorded}

module _ (j : Job) where
  -- state s and action a have a record whose outcome is not below S
  abbrev pub bad_pair : ℕ → ℕ → Bool
  bad_pair s a = some_below j.records (λ k. is_from (j.move k) s a && not (ltb (j.move k).outcome j.states))

  -- the state and action of record k have one; record k stays where they have none
  abbrev pub spoilt : ℕ → Bool
  spoilt k = bad_pair (j.move k).state (j.move k).action

  abbrev pub stays : ℕ → Bool
  stays k = not (spoilt k)

  -- no record before record k has its state and action
  abbrev pub first_of_pair : ℕ → Bool
  first_of_pair k = not (some_below k (λ i. is_from (j.move i) (j.move k).state (j.move k).action))

  -- record k is the one that lists its pair: the pair is removed, and this is its first record
  abbrev pub lists : ℕ → Bool
  lists k = spoilt k && first_of_pair k

  -- the record that stays with x before it that stay
  abbrev pub kept_number : ℕ → ℕ
  kept_number x = last_below j.records (λ k. stays k && eqb (count stays k) x)

  -- the job that is left: the records that stay, in order, and all else as it was
  abbrev pub mended : Job
  mended =
      record {
        states = j.states;
        actions = j.actions;
        propositions = j.propositions;
        goals = j.goals;
        first = j.first;
        first_goal = j.first_goal;
        label = j.label;
        busy = j.busy;
        records = count stays j.records;
        move = λ x. j.move (kept_number x);
        next = j.next;
        final = j.final;
      }

  -- A list of pairs in bytes names every bad pair and no other, in order, each once: three bytes for each, the state in two, low byte first,
  -- and the action.
  pub record PairsOf (p : List ℕ) : Type 0 where
    pub many : ℕ
    pub three_each : length p ≡ 3 * many
    pub is_bad : (x : ℕ) → x < many → bad_pair (word p (3 * x)) (get_or p (3 * x + 2) 0) ≡ true
    pub all_bad : (s a : ℕ) → bad_pair s a ≡ true → (x : ℕ) × (x < many) × (word p (3 * x) ≡ s) × (get_or p (3 * x + 2) 0 ≡ a)
    pub in_order : (x y : ℕ) → x < y → y < many → (word p (3 * x) < word p (3 * y))
        ⊎ ((word p (3 * x) ≡ word p (3 * y)) × (get_or p (3 * x + 2) 0 < get_or p (3 * y + 2) 0))

-- The job j keeps all else of i, and gives the pairs that are bad in i any outcomes or none.
pub record KeepsRest (i j : Job) : Type 0 where
  pub states : j.states ≡ i.states
  pub actions : j.actions ≡ i.actions
  pub propositions : j.propositions ≡ i.propositions
  pub goals : j.goals ≡ i.goals
  pub first : j.first ≡ i.first
  pub first_goal : j.first_goal ≡ i.first_goal
  pub label : (s : ℕ) → s < i.states → j.label s ≡ i.label s
  pub busy : (s : ℕ) → s < i.states → j.busy s ≡ i.busy s
  pub next : (q l : ℕ) → q < i.goals → l < 2 ^ i.propositions → j.next q l ≡ i.next q l
  pub final : (q : ℕ) → q < i.goals → j.final q ≡ i.final q
  pub outcomes : (s a t : ℕ) → bad_pair i s a ≡ false → recorded j s a t ≡ recorded i s a t
