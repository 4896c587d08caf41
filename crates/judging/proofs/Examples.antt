-- Document 004's operators at the edges of a trace, and each answer of the judge, by computation. Proposition 0 is a (label 1), 1 is b (label 2).
use Prim.Native.Nat.{ℕ, zero, suc, ◌<◌}
use mathlib.Core.Bool.{true, false}
use mathlib.Core.List.{[], ◌∷◌}
use mathlib.Core.Path.{◌≡◌, refl, sym, ap}
use native.Mathlib.Omega.{arith}
use lib.ListN.{length, get_or}
use Rattle.rules.specs.Formula.{Formula, Nonempty}
use Rattle.rules.specs.Sat.{walk, sat}
use Rattle.rules.proofs.Decided.{satisfies_iff}
use Rattle.game.proofs.Search.{clash}
use Rattle.judging.specs.Formulas.{depth, written, Atoms, Formed}
use Rattle.judging.specs.Judging.{TraceFits, Judging, trace_bad, formula_bad, too_deep, label_bad, yes, no}
use Rattle.judging.proofs.Forms.{depth_below}
use Rattle.judging.proofs.Bytes.{length_written}

abbrev a : Formula
a = Formula.atom 0

abbrev b : Formula
b = Formula.atom 1

-- at the last moment next is false, weak next true; before it both ask the next moment
pub next_last : sat (Formula.next a) (1 ∷ []) ≡ false
unfolding sat
next_last = refl

pub weak_next_last : sat (Formula.weak_next a) (0 ∷ []) ≡ true
unfolding sat
weak_next_last = refl

pub next_later : sat (Formula.next a) (0 ∷ 1 ∷ []) ≡ true
unfolding sat
next_later = refl

pub weak_next_later : sat (Formula.weak_next a) (1 ∷ 0 ∷ []) ≡ false
unfolding sat
weak_next_later = refl

-- until: the first part need not hold where the second does, but at all moments before; the second must hold at some moment
pub until_at_once : sat (Formula.until a b) (2 ∷ []) ≡ true
unfolding sat walk
until_at_once = refl

pub until_broken : sat (Formula.until a b) (1 ∷ 0 ∷ 2 ∷ []) ≡ false
unfolding sat walk
until_broken = refl

pub until_never : sat (Formula.until a b) (1 ∷ 1 ∷ []) ≡ false
unfolding sat walk
until_never = refl

pub until_kept : sat (Formula.until a b) (1 ∷ 1 ∷ 2 ∷ []) ≡ true
unfolding sat walk
until_kept = refl

-- eventually and always look at the last moment too
pub eventually_last : sat (Formula.eventually a) (0 ∷ 0 ∷ 1 ∷ []) ≡ true
unfolding sat walk
eventually_last = refl

pub always_last : sat (Formula.always a) (1 ∷ 1 ∷ 0 ∷ []) ≡ false
unfolding sat walk
always_last = refl

-- depth: three on one path, and width is free
pub three_deep : depth (Formula.until (Formula.always (Formula.eventually a)) (Formula.and (Formula.eventually a) (Formula.always b))) ≡ 3
unfolding depth
three_deep = refl

-- the operator stands before its parts
pub in_bytes : written (Formula.until (Formula.not a) (Formula.and b (Formula.weak_next a))) ≡ (19 ∷ 16 ∷ 0 ∷ 17 ∷ 1 ∷ 20 ∷ 0 ∷ [])
unfolding written
in_bytes = refl

-- ---- each answer is given

fits_one : (l : ℕ) → TraceFits (l ∷ [])
fits_one l = record { some = omega arith; few = omega arith }

low_one : (l : ℕ) → l < 64 → (i : ℕ) → i < 1 → get_or (l ∷ []) i 0 < 64
low_one l h zero k = h
low_one l h (suc i) k = absurd (omega arith)

some_one : (l : ℕ) → Nonempty (l ∷ [])
some_one l e = let z : length (l ∷ []) ≡ 0 = ap length e in omega arith

atom_formed : Formed (0 ∷ []) a
unfolding written Atoms
atom_formed = record { bytes = refl; few = omega arith; atoms = omega arith }

abbrev four : Formula
four = Formula.eventually (Formula.always (Formula.eventually (Formula.always a)))

four_formed : Formed (21 ∷ 22 ∷ 21 ∷ 22 ∷ 0 ∷ []) four
unfolding written Atoms
four_formed = record { bytes = refl; few = omega arith; atoms = omega arith }

nothing_formed : (f : Formula) → Formed [] f → ⊥
nothing_formed f x = let z : length (written f) ≡ 0 = sym (ap length x.bytes) in omega (arith, length_written f, depth_below f)

pub judging_given : Judging (0 ∷ []) [] 19 0
    × Judging [] (0 ∷ []) 20 0
    × Judging (21 ∷ 22 ∷ 21 ∷ 22 ∷ 0 ∷ []) (64 ∷ []) 21 0
    × Judging (0 ∷ []) (64 ∷ []) 22 0
    × Judging (0 ∷ []) (1 ∷ []) 0 1
    × Judging (0 ∷ []) (2 ∷ []) 0 0
unfolding sat depth
judging_given = (
  trace_bad (λ u. omega (arith, u.some)),
  formula_bad (fits_one 0) nothing_formed,
  too_deep (fits_one 64) four_formed (omega arith),
  label_bad (fits_one 64) atom_formed (omega arith) (λ l. let h = l 0 (omega arith) in omega arith),
  yes (fits_one 1) atom_formed (omega arith) (low_one 1 (omega arith)) ((satisfies_iff (1 ∷ []) a (some_one 1)).0 refl),
  no (fits_one 2) atom_formed (omega arith) (low_one 2 (omega arith)) (λ s. clash ((satisfies_iff (2 ∷ []) a (some_one 2)).1 s) refl),
)
