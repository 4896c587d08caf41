-- A job, its places, and the game that is played on them: document 01, "Places, plays and values".
use Rattle.std.specs.Prelude.{ℕ, zero, suc, ◌+◌, ◌*◌, Bool, cond, not, ◌&&◌, List, [], ◌∷◌, ◌++◌, map, eqb}
use Rattle.game.specs.Below.{upto, each, some_below, last_below}
use Rattle.game.specs.Game.{Arena}
use Rattle.rules.specs.declared.place.Place.{Place}
use Rattle.rules.specs.declared.place.Move.{Move}

pub record Job : Type 0 where
  pub states : ℕ
  pub actions : ℕ
  pub propositions : ℕ
  pub goals : ℕ
  pub first : ℕ
  pub first_goal : ℕ
  pub label : ℕ → ℕ
  pub busy : ℕ → Bool
  pub records : ℕ
  pub move : ℕ → Move
  pub next : ℕ → ℕ → ℕ
  pub final : ℕ → Bool

abbrev pub place : ℕ → ℕ → Place
place s q = record { state = s; goal = q }

-- place s, q has entry s·Q + q
abbrev pub entry_number : ℕ → Place → ℕ
entry_number goals p = p.state * goals + p.goal

-- a record with this state and action; with this outcome too
abbrev pub is_from : Move → ℕ → ℕ → Bool
is_from m s a = eqb m.state s && eqb m.action a

abbrev pub is_record : Move → ℕ → ℕ → ℕ → Bool
is_record m s a t = is_from m s a && eqb m.outcome t

module _ (j : Job) where
  -- the place that is entered with state t from goal state q: the automaton reads the label of the state that is entered
  abbrev pub entered : ℕ → ℕ → Place
  entered q t = place t (j.next q (j.label t))

  -- the first state, with the goal state reached from the first goal state by the first state's label
  abbrev pub start : Place
  start = entered j.first_goal j.first

  -- the outcomes of state s and action a among the first n records, in record order
  abbrev pub listed : ℕ → ℕ → ℕ → List ℕ
  listed s a zero = []
  listed s a (suc k) = listed s a k ++ cond (is_from (j.move k) s a) ((j.move k).outcome ∷ []) []

  -- some record has this state, action and outcome
  abbrev pub recorded : ℕ → ℕ → ℕ → Bool
  recorded s a t = some_below j.records (λ k. is_record (j.move k) s a t)

  -- the number of that record, counted from 0, where there is one; where records ascend there is no second
  abbrev pub record_number : ℕ → ℕ → ℕ → ℕ
  record_number s a t = last_below j.records (λ k. is_record (j.move k) s a t)

  abbrev pub places : ℕ
  places = j.states * j.goals

  -- a place is accepted exactly when its goal state is final and its state is not busy
  abbrev pub is_accepted : Place → Bool
  is_accepted p = j.final p.goal && not (j.busy p.state)

  abbrev pub arena : Arena
  arena =
      record {
        Place = Place;
        all = each (upto j.states) (λ s. map (place s) (upto j.goals));
        actions = j.actions;
        leads = λ p a. map (entered p.goal) (listed p.state a j.records);
        accepted = is_accepted;
      }
