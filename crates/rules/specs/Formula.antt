-- Goals over finite, nonempty traces: document 004, "LTLf Basics".
-- A trace is a list of labels; a label is the set of the propositions true at that moment, bit i for proposition i.
use Rattle.std.specs.Prelude.{ℕ, suc, ◌≤◌, ◌<◌, true, List, [], ◌≡◌, length, get_or}
use Rattle.sets.specs.Sets.{bit}

pub data Formula : Type 0 where
  atom : ℕ → Formula
  not : Formula → Formula
  and : Formula → Formula → Formula
  next : Formula → Formula
  until : Formula → Formula → Formula
  weak_next : Formula → Formula
  eventually : Formula → Formula
  always : Formula → Formula

-- a finite, nonempty trace
abbrev pub Nonempty : List ℕ → Type 0
Nonempty t = t ≡ [] → ⊥

-- The two temporal operators at moment i of a trace of n labels, whose last moment is n - 1. A and B say at which moments the parts hold.
-- Next: i is not the last moment, and the part holds at the one after it.
abbrev pub Next : ℕ → (ℕ → Type 0) → ℕ → Type 0
Next n A i = (suc i < n) × A (suc i)

-- Until: the second part holds at some moment from i on, and the first at all moments from i on before that one.
abbrev pub Until : ℕ → (ℕ → Type 0) → (ℕ → Type 0) → ℕ → Type 0
Until n A B i = (j : ℕ) × (i ≤ j) × (j < n) × B j × ((k : ℕ) → i ≤ k → k < j → A k)

abbrev pub Denied : (ℕ → Type 0) → ℕ → Type 0
Denied A i = A i → ⊥

abbrev pub True : ℕ → Type 0
True i = Unit {0}

-- `Holds t f i`: the formula f holds at moment i of the trace t. The last three are document 004's abbreviations:
-- weak next is not next not; eventually is true until; always is not eventually not.
unfoldable pub Holds : List ℕ → Formula → ℕ → Type 0
Holds t (Formula.atom p) i = bit (get_or t i 0) p ≡ true
Holds t (Formula.not f) i = Denied (Holds t f) i
Holds t (Formula.and f g) i = Holds t f i × Holds t g i
Holds t (Formula.next f) i = Next (length t) (Holds t f) i
Holds t (Formula.until f g) i = Until (length t) (Holds t f) (Holds t g) i
Holds t (Formula.weak_next f) i = Denied (Next (length t) (Denied (Holds t f))) i
Holds t (Formula.eventually f) i = Until (length t) True (Holds t f) i
Holds t (Formula.always f) i = Denied (Until (length t) True (Denied (Holds t f))) i

-- a trace satisfies a formula that holds at its first moment
abbrev pub Satisfies : List ℕ → Formula → Type 0
Satisfies t f = Holds t f 0

-- the standard Boolean abbreviations
abbrev pub or : Formula → Formula → Formula
or f g = Formula.not (Formula.and (Formula.not f) (Formula.not g))

abbrev pub implies : Formula → Formula → Formula
implies f g = Formula.not (Formula.and f (Formula.not g))
