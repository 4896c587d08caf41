-- Rounds of a phase one after the other, over any arena; and what a set of words and a plan in bytes hold of the places.
use Rattle.std.specs.Prelude.{ℕ, zero, suc, ◌/◌, ◌%◌, ◌≤◌, ◌<◌, Bool, true, false, cond, ◌&&◌, ◌||◌, List, ◌≡◌, ltb, length, get_or}
use Rattle.sets.specs.Sets.{set_words, member}
use Rattle.game.specs.Game.{Arena, Inside, Right, says}
use Rattle.game.specs.Below.{some_below}
use Rattle.rules.specs.Job.{Job, place, places, entry_number, arena}
use Rattle.rules.specs.Plan.{entry, entry_byte, room}
use Rattle.rules.specs.declared.place.Place.{Place}
use Rattle.game.specs.declared.entry.Entry.{Entry}
use Rattle.game.proofs.Search.{lowest}
use Rattle.phases.specs.declared.phase.Phase.{Phase}
use Rattle.phases.specs.Wanted.{wanted, phase_value}
use Rattle.phases.specs.Pass.{place_at}

module _ (v : Phase) (G : Arena) where
  -- the places of f and those that n rounds add
  unfoldable pub reached : (G.Place → Bool) → ℕ → G.Place → Bool
  reached f zero p = f p
  reached f (suc n) p = reached f n p || some_below G.actions (wanted v G (reached f n) p)

  -- the entries of e, and of the places that n rounds add
  unfoldable pub written : (G.Place → Bool) → (G.Place → Entry) → ℕ → G.Place → Entry
  written f e zero p = e p
  written f e (suc n) p =
      cond (reached f n p) (written f e n p)
      (cond (some_below G.actions (wanted v G (reached f n) p))
      (says (phase_value v) (lowest (wanted v G (reached f n) p) G.actions) (suc n))
      (written f e n p))

-- the words hold f, and the plan e, of the places of j; beyond them the plan is as `before`
pub record Holds (j : Job) (f : Place → Bool) (e : Place → Entry) (before ws plan : List ℕ) : Type 0 where
  pub words : length ws ≡ set_words
  pub as_long : length plan ≡ length before
  pub members : (x : ℕ) → member ws x ≡ (ltb x (places j) && f (place_at j.goals x))
  pub bytes : (y : ℕ) → get_or plan y 0
      ≡ cond (ltb (y / 4) (places j)) (entry_byte (e (place_at j.goals (y / 4))) (y % 4)) (get_or before y 0)

-- What the rounds of a phase leave, from f and e on: one more would add nothing.
pub record Settled (j : Job) (v : Phase) (f : Place → Bool) (e : Place → Entry) (before ws plan : List ℕ) : Type 0 where
  pub rounds : ℕ
  pub holds : Holds j (reached v (arena j) f rounds) (written v (arena j) f e rounds) before ws plan
  pub last : (p : Place) → Inside (arena j) p → reached v (arena j) f (suc rounds) p ≡ true → reached v (arena j) f rounds p ≡ true

-- a set has no place from S·Q on
abbrev pub NonePast : Job → List ℕ → Type 0
NonePast j ws = (x : ℕ) → places j ≤ x → member ws x ≡ false

-- Whatever the words and the plan held before the rounds of a phase, those leave it settled. They always hold something: `holds_itself` of
-- proofs/Holding.antt.
abbrev pub Settles : Job → Phase → (ws plan ws' plan' : List ℕ) → Type 0
Settles j v ws plan ws' plan' =
    (f : Place → Bool) (e : Place → Entry) (before : List ℕ) → Holds j f e before ws plan → Settled j v f e before ws' plan'

-- What labelling leaves: each entry is right and the rest as before.
pub record Labelled (j : Job) (before plan : List ℕ) : Type 0 where
  pub as_long : length plan ≡ length before
  pub right : (s q : ℕ) → s < j.states → q < j.goals
      → Right (arena j) (place s q) (entry plan (entry_number j.goals (place s q)))
  pub rest : (y : ℕ) → room j ≤ y → get_or plan y 0 ≡ get_or before y 0
