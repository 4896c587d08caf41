-- Whether a formula holds is decided by `sat`; and what the abbreviations of document 004 say in plain words.
use Prim.Native.Nat.{ℕ, zero, suc, ◌+◌, ◌-◌, ◌≤◌, ◌<◌}
use mathlib.Core.Bool.{Bool, true, false, not, ◌&&◌, ◌||◌, false≢true}
use mathlib.Core.List.{List, [], ◌∷◌}
use mathlib.Core.Logic.Iff
use mathlib.Core.Logic.{◌⊎◌, inl, inr, ⊎_elim, ◌↔◌}
use mathlib.Core.Path.{◌≡◌, refl, sym, ◌∙◌, ap}
use native.Mathlib.Nat.{eq-or-lt_of_le}
use native.Mathlib.Omega.{arith}
use borrow.Author.Tests.{lt-ltb, ltb-true}
use lib.Dec.{ltb}
use lib.ListN.{length, drop, length-drop, drop_of_length-le}
use lib.Seq.{drop-cons, drop-drop, get_or-drop}
use Rattle.game.proofs.Search.{either, clash}
use Rattle.game.proofs.Tests.{and_iff, or_iff}
use Rattle.rules.specs.Formula.{Formula, Next, Until, Denied, True, Nonempty, Holds, Satisfies}
use Rattle.rules.specs.Sat.{after, walk, sat}

pub not_iff : {x : Bool} {A : Type 0} → (x ≡ true) ↔ A → (not x ≡ true) ↔ (A → ⊥)
not_iff {x = true} p = (λ e. absurd (false≢true e), λ n. absurd (n (p.0 refl)))
not_iff {x = false} p = (λ e a. false≢true (p.1 a), λ n. refl)

-- ---- one step of a walk

pub walk_step : (a b : List ℕ → Bool) (t : List ℕ) (i : ℕ) → i < length t
    → walk a b (drop i t) ≡ (b (drop i t) || (a (drop i t) && walk a b (drop (suc i) t)))
unfolding walk
walk_step a b t i h = rw (drop-cons t i 0 h)

pub walk_end : (a b : List ℕ → Bool) (t : List ℕ) (i : ℕ) → length t ≤ i → walk a b (drop i t) ≡ false
unfolding walk
walk_end a b t i h = rw (drop_of_length-le t h)

pub until_step : {A B : ℕ → Type 0} {n i : ℕ} → i < n → (B i ⊎ (A i × Until n A B (suc i))) ↔ Until n A B i
until_step {A} {B} {n} {i} h = (into, back)
  where
    at : (k : ℕ) → A i → (i ≡ k) ⊎ (i < k) → (i < k → A k) → A k
    at k x (inl e) f = rw e at x
    at k x (inr l) f = f l

    into : B i ⊎ (A i × Until n A B (suc i)) → Until n A B i
    into (inl y) = (i, omega arith, h, y, λ k p q. absurd (omega arith))
    into (inr (x, (j, p, l, y, f))) = (j, omega arith, l, y, λ k u v. at k x (eq-or-lt_of_le u) (λ w. f k w v))

    part : (j : ℕ) → j < n → B j → ((k : ℕ) → i ≤ k → k < j → A k) → (i ≡ j) ⊎ (i < j) → B i ⊎ (A i × Until n A B (suc i))
    part j l y f (inl e) = inl (rw (← e) at y)
    part j l y f (inr w) = inr (f i (omega arith) w, (j, w, l, y, λ k u v. f k (omega arith) v))

    back : Until n A B i → B i ⊎ (A i × Until n A B (suc i))
    back (j, p, l, y, f) = part j l y f (eq-or-lt_of_le p)

-- ---- the test of an operator, from tests of its parts

-- a, run on what is left of the trace, decides A at each moment
pub record Decides (t : List ℕ) (a : List ℕ → Bool) (A : ℕ → Type 0) : Type 0 where
  pub iff : (i : ℕ) → i < length t → (a (drop i t) ≡ true) ↔ A i

module _ {t : List ℕ} where
  not_decides : {a : List ℕ → Bool} {A : ℕ → Type 0} → Decides t a A → Decides t (λ s. not (a s)) (Denied A)
  not_decides p = record { iff = λ i h. not_iff (p.iff i h) }

  after_decides : {a : List ℕ → Bool} {A : ℕ → Type 0} → Decides t a A → Decides t (after a) (Next (length t) A)
  after_decides {a} {A} p = record { iff = λ i h. (into i, back i) }
    where
      later : (i : ℕ) → drop 1 (drop i t) ≡ drop (suc i) t
      later i = let e : i + 1 ≡ suc i = omega arith in drop-drop 1 i t ∙ ap (λ (k : ℕ). drop k t) e

      into : (i : ℕ) → (ltb 1 (length (drop i t)) && a (drop 1 (drop i t))) ≡ true → Next (length t) A i
      into i q =
          let z : (ltb 1 (length (drop i t)) ≡ true) × (a (drop 1 (drop i t)) ≡ true) = (and_iff Iff.rfl Iff.rfl).0 q in
          let w : suc i < length t = omega (arith, ltb-true 1 (length (drop i t)) z.0, length-drop i t) in
          (w, (p.iff (suc i) w).0 (sym (ap a (later i)) ∙ z.1))

      back : (i : ℕ) → Next (length t) A i → (ltb 1 (length (drop i t)) && a (drop 1 (drop i t))) ≡ true
      back i (w, x) =
          let l : 1 < length (drop i t) = omega (arith, length-drop i t) in
          (and_iff Iff.rfl Iff.rfl).1 (lt-ltb 1 (length (drop i t)) l, ap a (later i) ∙ (p.iff (suc i) w).1 x)

  walk_from : {a b : List ℕ → Bool} {A B : ℕ → Type 0} → Decides t a A → Decides t b B → (k i : ℕ) → k + i ≡ length t
      → (walk a b (drop i t) ≡ true) ↔ Until (length t) A B i
  walk_from {a} {b} p q zero i e =
      (λ w. absurd (clash w (walk_end a b t i (omega arith))), λ u. absurd (omega (arith, u.1, u.2)))
  walk_from {a} {b} p q (suc k) i e =
      let h : i < length t = omega arith in
      rw (walk_step a b t i h)
      (Iff.trans (or_iff (q.iff i h) (and_iff (p.iff i h) (walk_from p q k (suc i) (omega arith)))) (until_step h))

  walk_decides : {a b : List ℕ → Bool} {A B : ℕ → Type 0} → Decides t a A → Decides t b B → Decides t (walk a b) (Until (length t) A B)
  walk_decides p q = record { iff = λ i h. walk_from p q (length t - i) i (omega arith) }

  true_decides : Decides t (λ s. true) True
  true_decides = record { iff = λ i h. (λ e. tt, λ u. refl) }

-- A formula is decided at each moment of a trace by the test on what is left of the trace.
pub sat_decides : (t : List ℕ) (f : Formula) → Decides t (sat f) (Holds t f)
unfolding sat Holds
sat_decides t (Formula.atom p) =
    record { iff = λ i h. let e : i + 0 ≡ i = omega arith in rw (get_or-drop i t 0 0, e) Iff.rfl }
sat_decides t (Formula.not f) = not_decides (sat_decides t f)
sat_decides t (Formula.and f g) = record { iff = λ i h. and_iff ((sat_decides t f).iff i h) ((sat_decides t g).iff i h) }
sat_decides t (Formula.next f) = after_decides (sat_decides t f)
sat_decides t (Formula.until f g) = walk_decides (sat_decides t f) (sat_decides t g)
sat_decides t (Formula.weak_next f) = not_decides (after_decides (not_decides (sat_decides t f)))
sat_decides t (Formula.eventually f) = walk_decides true_decides (sat_decides t f)
sat_decides t (Formula.always f) = not_decides (walk_decides true_decides (not_decides (sat_decides t f)))

pub sat_iff : (t : List ℕ) (f : Formula) (i : ℕ) → i < length t → (sat f (drop i t) ≡ true) ↔ Holds t f i
sat_iff t f = (sat_decides t f).iff

-- at the first moment of a nonempty trace
pub satisfies_iff : (t : List ℕ) (f : Formula) → Nonempty t → (sat f t ≡ true) ↔ Satisfies t f
satisfies_iff [] f n = absurd (n refl)
satisfies_iff (l ∷ ls) f n = sat_iff (l ∷ ls) f 0 (omega arith)

pub decided : (t : List ℕ) (f : Formula) (i : ℕ) → i < length t → Holds t f i ⊎ (Holds t f i → ⊥)
decided t f i h = ⊎_elim (λ e. inl ((sat_iff t f i h).0 e)) (λ e. inr (λ x. clash ((sat_iff t f i h).1 x) e)) (either (sat f (drop i t)))

-- ---- the abbreviations in plain words

module _ (t : List ℕ) (f : Formula) (i : ℕ) (h : i < length t) where
  -- weak next: at the next moment, if there is one
  pub weak_next_iff : Holds t (Formula.weak_next f) i ↔ (suc i < length t → Holds t f (suc i))
  unfolding Holds
  weak_next_iff = (
    λ n w. ⊎_elim (λ x. x) (λ y. absurd (n (w, y))) (decided t f (suc i) w),
    λ g n. n.1 (g n.0),
  )

  -- eventually: at some moment from i on; always: at every moment from i on
  pub eventually_iff : Holds t (Formula.eventually f) i ↔ ((j : ℕ) × (i ≤ j) × (j < length t) × Holds t f j)
  unfolding Holds
  eventually_iff = (λ u. (u.0, u.1, u.2, u.3), λ u. (u.0, u.1, u.2, u.3, λ k p q. tt))

  pub always_iff : Holds t (Formula.always f) i ↔ ((j : ℕ) → i ≤ j → j < length t → Holds t f j)
  unfolding Holds
  always_iff = (
    λ n j p l. ⊎_elim (λ x. x) (λ y. absurd (n (j, p, l, y, λ k u v. tt))) (decided t f j l),
    λ g u. u.3 (g u.0 u.1 u.2),
  )
