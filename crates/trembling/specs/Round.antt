-- One round of a phase over the larger places, and round 0.
use Rattle.std.specs.Prelude.{ℕ, ◌+◌, ◌*◌, ◌/◌, ◌%◌, ◌≤◌, ◌<◌, Bool, true, false, not, ◌&&◌, List, ◌≡◌, length}
use Rattle.sets.specs.Sets.{member}
use Rattle.game.specs.Game.{says}
use Rattle.game.specs.Below.{some_below}
use Rattle.rules.specs.Job.{entry_number, arena}
use Rattle.rules.specs.Bytes.{said}
use Rattle.rules.specs.declared.place.Place.{Place}
use Rattle.game.specs.declared.entry.Entry.{Entry}
use Rattle.game.proofs.Search.{lowest}
use Rattle.job.specs.Layout.{Fit}
use Rattle.job.specs.declared.layout.Layout.{Layout}
use Rattle.phases.specs.declared.phase.Phase.{Phase}
use Rattle.phases.specs.Wanted.{wanted, phase_value}
use Rattle.labelling.specs.Scan.{Range}
use Rattle.phases.specs.Pass.{place_at, Pass}
use Rattle.phases.specs.Round.{begun_entry}
use Rattle.larger.specs.Larger.{Larger, larger}
use Rattle.larger.specs.Plans.{larger_arena}
use Rattle.trembling.specs.Sets.{larger_words}

-- the larger place whose entry is x, and the larger places of a set, with so many goal states and today's places
abbrev pub larger_at : (goals many : ℕ) → ℕ → Larger Place
larger_at goals many x = larger (x / many) (place_at goals (x % many))

abbrev pub in_larger : (goals many : ℕ) → List ℕ → Larger Place → Bool
in_larger goals many ws y = member ws (y.slips * many + entry_number goals y.at)

-- what a round's functions rely on, with k slips left at state s, whose records are those from start up to end: there is room
pub record Ready (b : List ℕ) (l : Layout) (k s start end : ℕ) (plan : List ℕ) : Type 0 where
  pub fit : Fit b l
  pub few : k ≤ 3
  pub state : s < l.states
  pub range : Range (said b) s start end
  pub room : 4 * (k * (l.states * l.goals) + l.states * l.goals) ≤ length plan

-- the actions that a round looks for at a larger place (what naming one leads to is the same whatever the most slips)
abbrev pub wanted_larger : List ℕ → Layout → Phase → List ℕ → Larger Place → ℕ → Bool
wanted_larger b l v old = wanted v (larger_arena (said b) 3) (in_larger l.goals (l.states * l.goals) old)

module _ (b : List ℕ) (l : Layout) (v : Phase) (n : ℕ) (old : List ℕ) where
  abbrev pub wanted_at : ℕ → ℕ → Bool
  wanted_at x = wanted_larger b l v old (larger_at l.goals (l.states * l.goals) x)

  -- that larger place has such an action and is new; what its entry then says
  abbrev pub adds : ℕ → Bool
  adds x = not (member old x) && some_below (said b).actions (wanted_at x)

  abbrev pub new_entry : ℕ → Entry
  new_entry x = says (phase_value v) (lowest (wanted_at x) (said b).actions) n

  -- the round numbered n, over the larger places from lo up to hi, from the old set
  abbrev pub Passed : (lo hi : ℕ) (ws plan ws' plan' : List ℕ) → Type 0
  Passed = Pass adds adds new_entry

module _ (b : List ℕ) (l : Layout) where
  abbrev pub met_at : ℕ → Bool
  met_at x = (arena (said b)).accepted (place_at l.goals (x % (l.states * l.goals)))

  abbrev pub first_entry : ℕ → Entry
  first_entry x = begun_entry (met_at x)

  -- round 0, over the larger places from lo up to hi
  abbrev pub Begun : (lo hi : ℕ) (ws plan ws' plan' : List ℕ) → Type 0
  Begun = Pass met_at (λ x. true) first_entry

  -- round 0 over n larger places: the set is the larger places added, and the entries are written
  abbrev pub BegunAll : (n : ℕ) (plan ws' plan' : List ℕ) → Type 0
  BegunAll n plan ws' plan' =
      (ws : List ℕ) × (length ws ≡ larger_words) × ((x : ℕ) → member ws x ≡ false) × Begun 0 n ws plan ws' plan'
