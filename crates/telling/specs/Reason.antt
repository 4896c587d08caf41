-- Why an action is not sure at a place, by the places' own values.
use Rattle.std.specs.Prelude.{ℕ, ◌<◌, true, ◌≡◌}
use Rattle.game.specs.Game.{Listed, Pending, Losing}
use Rattle.rules.specs.Job.{Job, place, entered, is_from, arena}
use Rattle.rules.specs.declared.place.Place.{Place}

-- What the place that record k enters from goal state q is worth: it is losing, or it is pending and no outcome of action a is losing.
pub data Worth (j : Job) (s q a k : ℕ) : ℕ → Type 0 where
  loses : Losing (arena j) (entered j q (j.move k).outcome) → Worth j s q a k 0
  hopes : Pending (arena j) (entered j q (j.move k).outcome)
      → ((t : Place) → Listed (arena j) (place s q) a t → Losing (arena j) t → ⊥)
      → Worth j s q a k 1

-- Record k, told with the value v, is why action a is not sure at state s and goal state q: it is an outcome of it, and this is its worth.
pub record Reason (j : Job) (s q a k v : ℕ) : Type 0 where
  pub one : k < j.records
  pub outcome : is_from (j.move k) s a ≡ true
  pub so : Worth j s q a k v
