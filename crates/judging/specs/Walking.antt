-- What judging the formula that stands at a byte answers, at a moment of the trace.
use Rattle.std.specs.Prelude.{ℕ, ◌+◌, ◌≤◌, ◌<◌, Bool, true, cond, not, ◌&&◌, ltb, List, ◌≡◌, length, drop}
use Rattle.rules.specs.Formula.{Formula}
use Rattle.rules.specs.Sat.{walk, sat}
use Rattle.judging.specs.Formulas.{nodes, Stands}
use Rattle.judging.specs.declared.walk.Part.{Part}

-- a formula stands there, and the moment is one of the trace's, which has at most 64
pub record Ready (b : List ℕ) (at : ℕ) (t : List ℕ) (i : ℕ) : Type 0 where
  pub formula : Formula
  pub stands : Stands b at formula
  pub moment : i < length t
  pub few : length t ≤ 64

-- two formulas stand there in a row
pub record TwoReady (b : List ℕ) (at : ℕ) (t : List ℕ) (i : ℕ) : Type 0 where
  pub first : Formula
  pub second : Formula
  pub stands : Stands b at first
  pub stands_second : Stands b (at + nodes first) second
  pub moment : i < length t
  pub few : length t ≤ 64

-- the answer tells whether the formula that stands there holds, and where it ends
pub record JudgedAt (b : List ℕ) (at : ℕ) (t : List ℕ) (i : ℕ) (r : Part) : Type 0 where
  pub value : (f : Formula) → Stands b at f → r.holds ≡ sat f (drop i t)
  pub ends : (f : Formula) → Stands b at f → r.end ≡ at + nodes f

-- two formulas in a row: both hold; the second at some moment from i on, and the first at all before it
pub record BothAt (b : List ℕ) (at : ℕ) (t : List ℕ) (i : ℕ) (r : Part) : Type 0 where
  pub value : (f g : Formula) → Stands b at f → Stands b (at + nodes f) g → r.holds ≡ (sat f (drop i t) && sat g (drop i t))
  pub ends : (f g : Formula) → Stands b at f → Stands b (at + nodes f) g → r.end ≡ at + nodes f + nodes g

pub record UntilAt (b : List ℕ) (at : ℕ) (t : List ℕ) (i : ℕ) (r : Part) : Type 0 where
  pub value : (f g : Formula) → Stands b at f → Stands b (at + nodes f) g → r.holds ≡ walk (sat f) (sat g) (drop i t)
  pub ends : (f g : Formula) → Stands b at f → Stands b (at + nodes f) g → r.end ≡ at + nodes f + nodes g

-- the formula at the moment after i, and as is said where there is none
pub record NextAt (b : List ℕ) (at : ℕ) (last : Bool) (t : List ℕ) (i : ℕ) (r : Part) : Type 0 where
  pub value : (f : Formula) → Stands b at f → r.holds ≡ cond (ltb (i + 1) (length t)) (sat f (drop (i + 1) t)) last
  pub ends : (f : Formula) → Stands b at f → r.end ≡ at + nodes f

-- as wanted: true, or false
abbrev pub as_wanted : Bool → Bool → Bool
as_wanted wanted x = cond wanted x (not x)

-- from moment i on the formula is as wanted at some moment
pub record EverAt (b : List ℕ) (at : ℕ) (wanted : Bool) (t : List ℕ) (i : ℕ) (r : Part) : Type 0 where
  pub value : (f : Formula) → Stands b at f → r.holds ≡ walk (λ s. true) (λ s. as_wanted wanted (sat f s)) (drop i t)
  pub ends : (f : Formula) → Stands b at f → r.end ≡ at + nodes f

-- the same formula, denied
abbrev pub denied : Part → Part
denied p = record { holds = not p.holds; end = p.end }
