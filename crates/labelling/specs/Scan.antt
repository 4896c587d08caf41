-- What looking through the records of one state shows of a place, with a set of places given.
use Rattle.std.specs.Prelude.{ℕ, ◌+◌, ◌≤◌, ◌<◌, Bool, true, false, not, ◌&&◌, ◌||◌, ◌≡◌, eqb, ltb, Option, Some, None}
use Rattle.sets.specs.Sets.{bit}
use Rattle.rules.specs.Job.{Job, arena}
use Rattle.rules.specs.declared.place.Place.{Place}
use Rattle.game.proofs.Lists.{some}
use Rattle.phases.specs.declared.phase.Phase.{Phase}
use Rattle.labelling.specs.declared.scan.Tally.{Tally}

-- the records of states below s are those before k
pub record From (j : Job) (s k : ℕ) : Type 0 where
  pub few : k ≤ j.records
  pub below : (i : ℕ) → i < k → (j.move i).state < s
  pub above : (i : ℕ) → k ≤ i → i < j.records → s ≤ (j.move i).state

-- the records of state s are those from start up to end
pub record Range (j : Job) (s start end : ℕ) : Type 0 where
  pub begins : From j s start
  pub ends : From j (s + 1) end
  pub in_order : start ≤ end

-- x with one record more: its action a is open, and held or spoilt
pub record Tallied (x : Tally) (a : ℕ) (inside : Bool) (r : Tally) : Type 0 where
  pub opens : (k : ℕ) → bit r.opens.bits k ≡ (ltb a 16 && eqb k a || bit x.opens.bits k)
  pub held : (k : ℕ) → bit r.held.bits k ≡ (inside && (ltb a 16 && eqb k a) || bit x.held.bits k)
  pub spoilt : (k : ℕ) → bit r.spoilt.bits k ≡ (not inside && (ltb a 16 && eqb k a) || bit x.spoilt.bits k)

-- the tally of p: open where an action has an outcome, held where it has one of which f is true, spoilt where it has one of which it is not
pub record Scanned (j : Job) (f : Place → Bool) (p : Place) (r : Tally) : Type 0 where
  pub opens : (a : ℕ) → bit r.opens.bits a ≡ some (λ t. true) ((arena j).leads p a)
  pub held : (a : ℕ) → bit r.held.bits a ≡ some f ((arena j).leads p a)
  pub spoilt : (a : ℕ) → bit r.spoilt.bits a ≡ some (λ t. not (f t)) ((arena j).leads p a)

-- an answer names the lowest action below 16 that passes a test, or says that none passes
abbrev pub LowestPassing : (ℕ → Bool) → Option ℕ → Type 0
LowestPassing f (Some a) = (a < 16) × (f a ≡ true) × ((k : ℕ) → k < a → f k ≡ false)
LowestPassing f None = (k : ℕ) → f k ≡ false

-- the actions that a phase looks for in a tally
abbrev pub tallied_for : Phase → Tally → ℕ → Bool
tallied_for Phase.Winning x a = bit x.opens.bits a && not (bit x.spoilt.bits a)
tallied_for Phase.Pending x a = bit x.held.bits a
