-- Actions that are found for places, and what a set and a plan then say of these places.
use Rattle.std.specs.Prelude.{ℕ, ◌+◌, ◌*◌, ◌/◌, ◌%◌, Bool, cond, not, ◌&&◌, ◌||◌, List, ◌≡◌, eqb, ltb, length, get_or}
use Rattle.sets.specs.Sets.{member}
use Rattle.game.specs.Game.{says}
use Rattle.game.specs.Below.{some_below}
use Rattle.rules.specs.Job.{Job, is_record, entered, recorded}
use Rattle.rules.specs.Plan.{entry_byte}
use Rattle.game.proofs.Search.{lowest}

-- places and actions are counted, v and n are the value and the number of the places that join, and `known` tells those known before
module _ (places actions v n : ℕ) (known : ℕ → Bool) where
  -- Actions have been found for places, `found x a` telling which. The set has the known places and those with an action found. The entry
  -- of each that was not known names the lowest action found, and every other byte of the plan is as at first.
  pub record Found (plan₀ : List ℕ) (found : ℕ → ℕ → Bool) (ws plan : List ℕ) : Type 0 where
    pub members : (x : ℕ) → member ws x ≡ (ltb x places && some_below actions (found x) || known x)
    pub bytes : (y : ℕ) → get_or plan y 0
        ≡ cond (ltb (y / 4) places && (not (known (y / 4)) && some_below actions (found (y / 4))))
        (entry_byte (says v (lowest (found (y / 4)) actions) n) (y % 4)) (get_or plan₀ y 0)

  -- whatever had been found, more is found after
  pub record Noted (more : ℕ → ℕ → Bool) (ws plan ws' plan' : List ℕ) : Type 0 where
    pub as_many : length ws' ≡ length ws
    pub as_long : length plan' ≡ length plan
    pub finds : (plan₀ : List ℕ) (found : ℕ → ℕ → Bool) → Found plan₀ found ws plan → Found plan₀ (λ x a. more x a || found x a) ws' plan'

-- one action at one place
abbrev pub only : ℕ → ℕ → ℕ → ℕ → Bool
only x a y b = eqb y x && eqb b a

-- the actions at places of goal state q that have a record below k to state t, and whose counters are 0
abbrev pub from_goal : Job → List ℕ → ℕ → ℕ → ℕ → ℕ → ℕ → Bool
from_goal j counters t q k x a =
    eqb (x % j.goals) q && (some_below k (λ i. is_record (j.move i) (x / j.goals) a t) && eqb (get_or counters (x * j.actions + a) 0) 0)

-- the same at places of each goal state below q from which the place of state t and goal state g is entered
abbrev pub from_all : Job → List ℕ → ℕ → ℕ → ℕ → ℕ → ℕ → Bool
from_all j counters t g q x a =
    (ltb (x % j.goals) q && eqb (entered j (x % j.goals) t).goal g)
    && (recorded j (x / j.goals) a t && eqb (get_or counters (x * j.actions + a) 0) 0)
