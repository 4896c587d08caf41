-- The test of one entry by the entries of the right plan, which the check runs, and what its functions promise one another.
use Rattle.std.specs.Prelude.{ℕ, suc, ◌*◌, ◌/◌, ◌%◌, ◌≤◌, ◌<◌, length, Bool, true, false, cond, not, ◌&&◌, ◌||◌, List, ◌≡◌, ltb, eqb}
use Rattle.game.specs.Game.{Arena}
use Rattle.game.specs.declared.entry.Entry.{Entry}
use Rattle.game.proofs.Lists.{some, sure}
use Rattle.rules.specs.Job.{arena}
use Rattle.rules.specs.Fault.{only}
use Rattle.rules.specs.Bytes.{said}
use Rattle.rules.specs.Plan.{entry, planned_entry}
use Rattle.rules.specs.declared.place.Place.{Place}
use Rattle.job.specs.Layout.{Fit}
use Rattle.job.specs.declared.layout.Layout.{Layout}
use Rattle.labelling.specs.Scan.{Range}
use Rattle.phases.specs.Pass.{place_at}
use Rattle.checking.specs.Checking.{CheckedFigures}
use Rattle.checking.specs.declared.entries.Seen.{Seen}

-- Whether an outcome with the right entry e does, where the right entry of the place is r: winning with a smaller number at a winning place;
-- at a pending one winning, where its number is 1, or pending with a number one smaller.
abbrev pub outcome_test : Entry → Entry → Bool
outcome_test r e =
    cond (eqb r.value 2) (eqb e.value 2 && ltb e.number r.number)
    (eqb r.number 1 && eqb e.value 2 || eqb e.value 1 && eqb (suc e.number) r.number)

module _ (G : Arena) (e : G.Place → Entry) where
  -- whether action a does at p, of which the right entry is r: none where that names none, else one that meets the condition
  abbrev pub does : G.Place → Entry → ℕ → Bool
  does p r a =
      cond (eqb r.action 255) (eqb a 255)
      (cond (eqb r.value 2) (sure (λ t. outcome_test r (e t)) (G.leads p a)) (some (λ t. outcome_test r (e t)) (G.leads p a)))

  -- whether x may stand at p: the value and the number are the right ones, and the action does
  abbrev pub fits : G.Place → Entry → Bool
  fits p x = eqb x.value (e p).value && (eqb x.number (e p).number && does p (e p) x.action)

-- whether the entry x of the plan p may stand there, where `own` is the right plan of the job b
abbrev pub fits_at : (b own p : List ℕ) → ℕ → Bool
fits_at b own p x = fits (arena (said b)) (planned_entry (said b) own) (place_at (said b).goals x) (entry p x)

-- x is the first from lo up to hi that fails the test, or hi where none does
pub record Until (f : ℕ → Bool) (lo hi x : ℕ) : Type 0 where
  pub from : lo ≤ x
  pub to : x ≤ hi
  pub pass : (y : ℕ) → lo ≤ y → y < x → f y ≡ true
  pub fail : x < hi → f x ≡ false

-- what the records show of action a at p: whether an outcome does, and whether one does not
pub record Looked (b own : List ℕ) (r : Entry) (p : Place) (a : ℕ) (x : Seen) : Type 0 where
  pub held : x.held ≡ some (λ t. outcome_test r (planned_entry (said b) own t)) ((arena (said b)).leads p a)
  pub spoilt : x.spoilt ≡ some (λ t. not (outcome_test r (planned_entry (said b) own t))) ((arena (said b)).leads p a)

-- what the functions of the check rely on: the records of state s are those from start up to end, and both plans are all there
pub record Ready (b : List ℕ) (l : Layout) (p own : List ℕ) (s start end : ℕ) : Type 0 where
  pub fit : Fit b l
  pub state : s < l.states
  pub range : Range (said b) s start end
  pub whole : 4 * (l.states * l.goals) ≤ length p
  pub own_whole : 4 * (l.states * l.goals) ≤ length own

-- the answer, from the number x of the first wrong entry, or n where there is none
abbrev pub from_first : (x n goals : ℕ) → CheckedFigures
from_first x n goals =
    cond (ltb x n) (record { fault = only 16; state = x / goals; goal = x % goals }) (record { fault = only 0; state = 0; goal = 0 })
