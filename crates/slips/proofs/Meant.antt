-- What each kind of clause says of a nonempty trace, in plain words.
use Prim.Native.Nat.{ℕ, ◌≤◌, ◌<◌}
use mathlib.Core.Bool.{true, false}
use mathlib.Core.List.{List, [], ◌∷◌}
use mathlib.Core.Logic.{◌⊎◌, inl, inr, ⊎_elim, ◌↔◌}
use mathlib.Core.Path.{◌≡◌, refl}
use native.Mathlib.Omega.{arith}
use lib.ListN.{length, get_or}
use Rattle.sets.specs.Sets.{bit}
use Rattle.game.proofs.Search.{clash, if_not_true}
use Rattle.rules.specs.Formula.{Formula, implies, Nonempty, Holds, Satisfies}
use Rattle.rules.proofs.Decided.{decided, eventually_iff, always_iff}
use Rattle.slips.specs.Clauses.{existence, absence, response, precedence, formula}

some_moment : (t : List ℕ) → Nonempty t → 0 < length t
some_moment [] n = absurd (n refl)
some_moment (l ∷ ls) n = omega arith

-- proposition p is true at moment i of the trace; it is not
abbrev pub At : List ℕ → ℕ → ℕ → Type 0
At t p i = bit (get_or t i 0) p ≡ true

abbrev pub NotAt : List ℕ → ℕ → ℕ → Type 0
NotAt t p i = bit (get_or t i 0) p ≡ false

module _ (t : List ℕ) (n : Nonempty t) where
  -- a is true at some moment
  pub existence_means : (a : ℕ) → Satisfies t (formula (existence a)) ↔ ((j : ℕ) × (j < length t) × At t a j)
  unfolding Holds
  existence_means a =
      let e = eventually_iff t (Formula.atom a) 0 (some_moment t n) in
      (λ h. let (j, _, l, x) = e.0 h in (j, l, x), λ (j, l, x). e.1 (j, omega arith, l, x))

  never : (b : ℕ) → Holds t (Formula.always (Formula.not (Formula.atom b))) 0 ↔ ((j : ℕ) → j < length t → NotAt t b j)
  unfolding Holds
  never b =
      let e = always_iff t (Formula.not (Formula.atom b)) 0 (some_moment t n) in
      (λ h j l. if_not_true (bit (get_or t j 0) b) (e.0 h j (omega arith) l), λ h. e.1 (λ j _ l x. clash x (h j l)))

  -- a is true at none
  pub absence_means : (a : ℕ) → Satisfies t (formula (absence a)) ↔ ((j : ℕ) → j < length t → NotAt t a j)
  absence_means a = never a

  -- wherever a is true, b is true then or later
  pub response_means : (a b : ℕ) → Satisfies t (formula (response a b))
      ↔ ((i : ℕ) → i < length t → At t a i → (j : ℕ) × (i ≤ j) × (j < length t) × At t b j)
  unfolding Holds
  response_means a b = (into, back)
    where
      later : Formula
      later = Formula.eventually (Formula.atom b)

      into : Satisfies t (formula (response a b)) → (i : ℕ) → i < length t → At t a i → (j : ℕ) × (i ≤ j) × (j < length t) × At t b j
      into h i l x =
          let d = (always_iff t (implies (Formula.atom a) later) 0 (some_moment t n)).0 h i (omega arith) l in
          (eventually_iff t (Formula.atom b) i l).0 (⊎_elim (λ y. y) (λ y. absurd (d (x, y))) (decided t later i l))

      back : ((i : ℕ) → i < length t → At t a i → (j : ℕ) × (i ≤ j) × (j < length t) × At t b j) → Satisfies t (formula (response a b))
      back h =
          (always_iff t (implies (Formula.atom a) later) 0 (some_moment t n)).1
          (λ i _ l (x, y). y ((eventually_iff t (Formula.atom b) i l).1 (h i l x)))

  -- a is true at some moment and b at none before it, or b is never true
  pub precedence_means : (a b : ℕ) → Satisfies t (formula (precedence a b))
      ↔ (((j : ℕ) × (j < length t) × At t a j × ((k : ℕ) → k < j → NotAt t b k)) ⊎ ((j : ℕ) → j < length t → NotAt t b j))
  unfolding Holds
  precedence_means a b = (into, back)
    where
      first : Formula
      first = Formula.until (Formula.not (Formula.atom b)) (Formula.atom a)

      none : Formula
      none = Formula.always (Formula.not (Formula.atom b))

      meant : Holds t first 0 ↔ ((j : ℕ) × (j < length t) × At t a j × ((k : ℕ) → k < j → NotAt t b k))
      meant = (
        λ (j, _, l, x, f). (j, l, x, λ k p. if_not_true (bit (get_or t k 0) b) (f k (omega arith) p)),
        λ (j, l, x, f). (j, omega arith, l, x, λ k _ p y. clash y (f k p)),
      )

      into : Satisfies t (formula (precedence a b))
          → ((j : ℕ) × (j < length t) × At t a j × ((k : ℕ) → k < j → NotAt t b k)) ⊎ ((j : ℕ) → j < length t → NotAt t b j)
      into h =
          ⊎_elim (λ x. inl (meant.0 x)) (λ x. ⊎_elim (λ y. inr ((never b).0 y)) (λ y. absurd (h (x, y))) (decided t none 0 (some_moment t n)))
          (decided t first 0 (some_moment t n))

      back : ((j : ℕ) × (j < length t) × At t a j × ((k : ℕ) → k < j → NotAt t b k)) ⊎ ((j : ℕ) → j < length t → NotAt t b j)
          → Satisfies t (formula (precedence a b))
      back (inl x) (y, z) = y (meant.1 x)
      back (inr x) (y, z) = z ((never b).1 x)
