-- The queue: the places that have joined a set, each once, in the order in which they joined.
use Rattle.std.specs.Prelude.{ℕ, ◌≤◌, ◌<◌, Bool, false, List, ◌≡◌, eqb, length, get_or}
use Rattle.sets.specs.Sets.{set_room, member, count}
use Rattle.game.specs.Below.{some_below}
use Rattle.rules.specs.Job.{entry_number}
use Rattle.rules.specs.declared.place.Place.{Place}

-- whether the place whose entry is x is among the first n of the queue
abbrev pub queued : List ℕ → ℕ → ℕ → Bool
queued queue n x = some_below n (λ i. eqb (get_or queue i 0) x)

-- the same test of places, from a test of the numbers of their entries
abbrev pub numbered : ℕ → (ℕ → Bool) → Place → Bool
numbered goals f p = f (entry_number goals p)

-- the first `tail` words of the queue are the places of f, each once
pub record Queue (f : ℕ → Bool) (queue : List ℕ) (tail : ℕ) : Type 0 where
  pub long : length queue ≡ set_room
  pub many : tail ≡ count f set_room
  pub inside : (i : ℕ) → i < tail → get_or queue i 0 < set_room
  pub once : (i : ℕ) → i < tail → queued queue i (get_or queue i 0) ≡ false
  pub members : (x : ℕ) → f x ≡ queued queue tail x

-- places have joined a set and the end of its queue
pub record Joined (queue : List ℕ) (tail : ℕ) (new' queue' : List ℕ) (tail' : ℕ) : Type 0 where
  pub grows : tail ≤ tail'
  pub kept : (i : ℕ) → i < tail → get_or queue' i 0 ≡ get_or queue i 0
  pub still : Queue (member new') queue' tail'
