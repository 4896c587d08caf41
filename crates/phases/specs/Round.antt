-- One round of a phase, and round 0.
use Rattle.std.specs.Prelude.{ℕ, ◌+◌, ◌*◌, Bool, true, false, cond, not, ◌&&◌, List, ◌≡◌, length}
use Rattle.sets.specs.Sets.{set_words, member}
use Rattle.game.specs.Game.{says}
use Rattle.game.specs.Below.{some_below}
use Rattle.rules.specs.Job.{arena}
use Rattle.rules.specs.Bytes.{said}
use Rattle.game.specs.declared.entry.Entry.{Entry}
use Rattle.game.proofs.Search.{lowest}
use Rattle.job.specs.declared.layout.Layout.{Layout}
use Rattle.phases.specs.declared.phase.Phase.{Phase}
use Rattle.phases.specs.Wanted.{in_set, wanted, phase_value}
use Rattle.phases.specs.Pass.{place_at, Pass}

module _ (b : List ℕ) (l : Layout) (v : Phase) (n : ℕ) (old : List ℕ) where
  -- the actions that the round looks for at the place whose entry is x
  abbrev pub wanted_at : ℕ → ℕ → Bool
  wanted_at x = wanted v (arena (said b)) (in_set l.goals old) (place_at l.goals x)

  -- that place has such an action; it has one and is new; what its entry then says
  abbrev pub gains : ℕ → Bool
  gains x = some_below (said b).actions (wanted_at x)

  abbrev pub adds : ℕ → Bool
  adds x = not (member old x) && gains x

  abbrev pub new_entry : ℕ → Entry
  new_entry x = says (phase_value v) (lowest (wanted_at x) (said b).actions) n

  -- the round numbered n, over the places from lo up to hi, from the old set
  abbrev pub Passed : (lo hi : ℕ) (ws plan ws' plan' : List ℕ) → Type 0
  Passed = Pass adds adds new_entry

-- what the entry of a place says after round 0, accepted or not
abbrev pub begun_entry : Bool → Entry
begun_entry accepted = cond accepted (says 2 255 0) (says 0 255 0)

-- round 0 at one place, the one whose entry is i
abbrev pub BegunAt : Bool → ℕ → (ws plan ws' plan' : List ℕ) → Type 0
BegunAt accepted i = Pass (λ x. accepted) (λ x. true) (λ x. begun_entry accepted) i (i + 1)

module _ (b : List ℕ) (l : Layout) where
  -- the place whose entry is x is accepted; what its entry then says
  abbrev pub met_at : ℕ → Bool
  met_at x = (arena (said b)).accepted (place_at l.goals x)

  abbrev pub first_entry : ℕ → Entry
  first_entry x = begun_entry (met_at x)

  -- round 0, over the places from lo up to hi
  abbrev pub Begun : (lo hi : ℕ) (ws plan ws' plan' : List ℕ) → Type 0
  Begun = Pass met_at (λ x. true) first_entry

  -- round 0 over every place: the set is the places added, and the entries are written
  abbrev pub BegunAll : (plan ws' plan' : List ℕ) → Type 0
  BegunAll plan ws' plan' =
      (ws : List ℕ) × (length ws ≡ set_words) × ((x : ℕ) → member ws x ≡ false) × Begun 0 (l.states * l.goals) ws plan ws' plan'
