-- One clause: its automaton ends in a final state exactly when its formula holds at the first moment.
use Prim.Native.Nat.{ℕ}
use mathlib.Core.Bool.{Bool, true, false, ◌&&◌}
use mathlib.Core.List.{List, [], ◌∷◌}
use mathlib.Core.Path.{◌≡◌, refl, ◌∙◌, ap}
use lib.Dec.{ltb, eqb}
use Rattle.sets.specs.Sets.{bit}
use Rattle.rules.specs.Formula.{Formula}
use Rattle.rules.specs.Sat.{walk, sat}
use Rattle.slips.specs.Clauses.{Clause, existence, absence, response, precedence, formula, step, final}
use Rattle.rules.specs.Trace.{reads}

-- a state that leads to itself is never left
pub reads_stays : (next : ℕ → ℕ → ℕ) (q : ℕ) → ((l : ℕ) → next q l ≡ q) → (t : List ℕ) → reads next q t ≡ q
reads_stays next q h [] = refl
reads_stays next q h (l ∷ ls) = ap (λ (x : ℕ). reads next x ls) (h l) ∙ reads_stays next q h ls

existence_is : (a : ℕ) (t : List ℕ) → eqb (reads (step (existence a)) 0 t) 1 ≡ sat (formula (existence a)) t
unfolding step sat walk
existence_is a [] = refl
existence_is a (l ∷ ls) = go (bit l a) refl (existence_is a ls)
  where
    go : (x : Bool) → bit l a ≡ x → eqb (reads (step (existence a)) 0 ls) 1 ≡ sat (formula (existence a)) ls
        → eqb (reads (step (existence a)) 0 (l ∷ ls)) 1 ≡ sat (formula (existence a)) (l ∷ ls)
    go true e r = rw (e, reads_stays (step (existence a)) 1 (λ k. refl) ls)
    go false e r = rw e r

absence_is : (a : ℕ) (t : List ℕ) → eqb (reads (step (absence a)) 0 t) 0 ≡ sat (formula (absence a)) t
unfolding step sat walk
absence_is a [] = refl
absence_is a (l ∷ ls) = go (bit l a) refl (absence_is a ls)
  where
    go : (x : Bool) → bit l a ≡ x → eqb (reads (step (absence a)) 0 ls) 0 ≡ sat (formula (absence a)) ls
        → eqb (reads (step (absence a)) 0 (l ∷ ls)) 0 ≡ sat (formula (absence a)) (l ∷ ls)
    go true e r = rw (e, reads_stays (step (absence a)) 1 (λ k. refl) ls)
    go false e r = rw e r

-- From state 0 nothing is owed; from state 1 b is owed.
module _ (a b : ℕ) where
  response_is : (t : List ℕ)
      → (eqb (reads (step (response a b)) 0 t) 0 ≡ sat (formula (response a b)) t)
      × (eqb (reads (step (response a b)) 1 t) 0 ≡ (sat (Formula.eventually (Formula.atom b)) t && sat (formula (response a b)) t))
  unfolding step sat walk
  response_is [] = (refl, refl)
  response_is (l ∷ ls) = go (bit l a) (bit l b) (sat (Formula.eventually (Formula.atom b)) ls) refl refl refl (response_is ls)
    where
      go : (x y z : Bool) → bit l a ≡ x → bit l b ≡ y → sat (Formula.eventually (Formula.atom b)) ls ≡ z
          → (eqb (reads (step (response a b)) 0 ls) 0 ≡ sat (formula (response a b)) ls)
          × (eqb (reads (step (response a b)) 1 ls) 0 ≡ (sat (Formula.eventually (Formula.atom b)) ls && sat (formula (response a b)) ls))
          → (eqb (reads (step (response a b)) 0 (l ∷ ls)) 0 ≡ sat (formula (response a b)) (l ∷ ls))
          × (eqb (reads (step (response a b)) 1 (l ∷ ls)) 0
          ≡ (sat (Formula.eventually (Formula.atom b)) (l ∷ ls) && sat (formula (response a b)) (l ∷ ls)))
      go true true z e f g r = rw (e, f) (r.0, r.0)
      go false true z e f g r = rw (e, f) (r.0, r.0)
      go true false true e f g r = rw (e, f, g) (rw g at r.1, rw g at r.1)
      go true false false e f g r = rw (e, f, g) (rw g at r.1, rw g at r.1)
      go false false true e f g r = rw (e, f, g) (r.0, rw g at r.1)
      go false false false e f g r = rw (e, f, g) (r.0, rw g at r.1)

precedence_is : (a b : ℕ) (t : List ℕ) → ltb (reads (step (precedence a b)) 0 t) 2 ≡ sat (formula (precedence a b)) t
unfolding step sat walk
precedence_is a b [] = refl
precedence_is a b (l ∷ ls) = go (bit l a) (bit l b) refl refl (precedence_is a b ls)
  where
    go : (x y : Bool) → bit l a ≡ x → bit l b ≡ y → ltb (reads (step (precedence a b)) 0 ls) 2 ≡ sat (formula (precedence a b)) ls
        → ltb (reads (step (precedence a b)) 0 (l ∷ ls)) 2 ≡ sat (formula (precedence a b)) (l ∷ ls)
    go true y e f r = rw (e, reads_stays (step (precedence a b)) 1 (λ k. refl) ls)
    go false true e f r = rw (e, f, reads_stays (step (precedence a b)) 2 (λ k. refl) ls)
    go false false e f r = rw (e, f) r

pub clause_is : (c : Clause) (t : List ℕ) → final c (reads (step c) 0 t) ≡ sat (formula c) t
unfolding final
clause_is (existence a) t = existence_is a t
clause_is (absence a) t = absence_is a t
clause_is (response a b) t = (response_is a b t).0
clause_is (precedence a b) t = precedence_is a b t
