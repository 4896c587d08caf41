-- Laws of the tests: what a test that passes says, for `&&`, `||`, the order of numbers, and the tests over all numbers below one.
use Prim.Native.Nat.{ℕ, zero, suc, ◌+◌, ◌≤◌, ◌<◌}
use mathlib.Core.Bool.{Bool, true, false, ◌&&◌, ◌||◌, false≢true, or-false}
use mathlib.Core.Logic.Iff
use mathlib.Core.Logic.{◌⊎◌, inl, inr, ⊎_elim, ◌↔◌}
use mathlib.Core.Path.{◌≡◌, refl, sym, ap₂, ◌∙◌}
use native.Mathlib.Nat.{eq-or-lt_of_le, le_of_suc-le-suc}
use native.Mathlib.Numerals.{add-one}
use native.Mathlib.Omega.{arith}
use borrow.Author.Tests.{ltb-true, lt-ltb, leb-true, le-leb, eqb-true, eq-eqb}
use lib.Dec.{leb, ltb, eqb}
use Rattle.game.specs.Game.{Least}
use Rattle.game.specs.Below.{every_below, some_below, last_below}
use Rattle.game.proofs.Search.{clash, if_not_true, lowest, lowest_at}

-- ---- two tests

-- tests that pass together are the same
pub same_test : {x y : Bool} → (x ≡ true → y ≡ true) → (y ≡ true → x ≡ true) → x ≡ y
same_test {x = true} f g = sym (f refl)
same_test {x = false} {y} f g = sym (if_not_true y (λ e. false≢true (g e)))

pub and_iff : {x y : Bool} {A B : Type 0} → (x ≡ true) ↔ A → (y ≡ true) ↔ B → ((x && y) ≡ true) ↔ (A × B)
and_iff {x = true} p q = (λ e. (p.0 refl, q.0 e), λ t. q.1 t.1)
and_iff {x = false} p q = (λ e. absurd (false≢true e), λ t. p.1 t.0)

pub or_iff : {x y : Bool} {A B : Type 0} → (x ≡ true) ↔ A → (y ≡ true) ↔ B → ((x || y) ≡ true) ↔ (A ⊎ B)
or_iff {x = true} p q = (λ e. inl (p.0 refl), λ t. refl)
or_iff {x = false} p q = (λ e. inr (q.0 e), ⊎_elim (λ a. absurd (false≢true (p.1 a))) q.1)

-- ---- two numbers

pub ltb_iff : (a b : ℕ) → (ltb a b ≡ true) ↔ (a < b)
ltb_iff a b = (ltb-true a b, lt-ltb a b)

pub leb_iff : (a b : ℕ) → (leb a b ≡ true) ↔ (a ≤ b)
leb_iff a b = (leb-true a b, le-leb a b)

pub eqb_iff : (a b : ℕ) → (eqb a b ≡ true) ↔ (a ≡ b)
eqb_iff a b = (eqb-true a b, eq-eqb a b)

-- ---- the numbers below one

-- a number below n + 1 is n or below n
pub last_or_below : {k n : ℕ} → k < suc n → (k ≡ n) ⊎ (k < n)
last_or_below h = eq-or-lt_of_le (le_of_suc-le-suc h)

module _ {A : ℕ → Type 0} where
  -- what holds everywhere below n + 1 holds everywhere below n and at n; what holds somewhere below it, somewhere below n or at n
  all_suc : (n : ℕ) → (((k : ℕ) → k < n → A k) × A n) ↔ ((k : ℕ) → k < suc n → A k)
  all_suc n = (λ t k h. ⊎_elim (λ e. rw e t.1) (t.0 k) (last_or_below h), λ t. (λ k h. t k (omega arith), t n (omega arith)))

  pub one_suc : (n : ℕ) → (((k : ℕ) × (k < n) × A k) ⊎ A n) ↔ ((k : ℕ) × (k < suc n) × A k)
  one_suc n = (⊎_elim (λ t. (t.0, omega arith, t.2)) (λ a. (n, omega arith, a)), λ t. go t.0 t.2 (last_or_below t.1))
    where
      go : (k : ℕ) → A k → (k ≡ n) ⊎ (k < n) → ((k : ℕ) × (k < n) × A k) ⊎ A n
      go k a (inl e) = inr (rw e at a)
      go k a (inr h) = inl (k, h, a)

  module _ (f : ℕ → Bool) (p : (k : ℕ) → (f k ≡ true) ↔ A k) where
    pub every_iff : (n : ℕ) → (every_below n f ≡ true) ↔ ((k : ℕ) → k < n → A k)
    every_iff zero = (λ e k h. absurd (omega arith), λ t. refl)
    every_iff (suc n) = Iff.trans (and_iff (every_iff n) (p n)) (all_suc n)

    pub some_iff : (n : ℕ) → (some_below n f ≡ true) ↔ ((k : ℕ) × (k < n) × A k)
    some_iff zero = (λ e. absurd (false≢true e), λ t. absurd (omega (arith, t.1)))
    some_iff (suc n) = Iff.trans (or_iff (some_iff n) (p n)) (one_suc n)

-- a loop over the numbers below n: one more that passes, and one that ends it
pub every_more : (f : ℕ → Bool) (k : ℕ) → every_below k f ≡ true → f k ≡ true → every_below (k + 1) f ≡ true
every_more f k e h = rw (add-one k, e) h

pub every_stops : (f : ℕ → Bool) (n k : ℕ) → k < n → f k ≡ false → every_below n f ≡ false
every_stops f n k h e = if_not_true (every_below n f) (λ t. clash ((every_iff f (λ i. Iff.rfl) n).0 t k h) e)

pub some_more : (f : ℕ → Bool) (k : ℕ) → some_below k f ≡ false → f k ≡ false → some_below (k + 1) f ≡ false
some_more f k e h = rw (add-one k, e) h

pub some_stops : (f : ℕ → Bool) (n k : ℕ) → k < n → f k ≡ true → some_below n f ≡ true
some_stops f n k h e = (some_iff f (λ i. Iff.rfl) n).1 (k, h, e)

-- where some number below n passes, one does, and the search stops at the lowest
pub some_met : (f : ℕ → Bool) (n : ℕ) → some_below n f ≡ true → (k : ℕ) × (k < n) × (f k ≡ true)
some_met f n = (some_iff f (λ k. Iff.rfl) n).0

-- and so does the last one
pub last_met : (f : ℕ → Bool) (n : ℕ) → some_below n f ≡ true → (last_below n f < n) × (f (last_below n f) ≡ true)
last_met f zero e = absurd (false≢true e)
last_met f (suc n) e = go (f n) refl (last_met f n)
  where
    go : (x : Bool) → f n ≡ x → (some_below n f ≡ true → (last_below n f < n) × (f (last_below n f) ≡ true))
        → (last_below (suc n) f < suc n) × (f (last_below (suc n) f) ≡ true)
    go true z rec = rw z (omega arith, z)
    go false z rec = let (h, p) = rec (sym (or-false (some_below n f)) ∙ rw z at e) in rw z (omega arith, p)

pub lowest_found : (f : ℕ → Bool) (n : ℕ) → some_below n f ≡ true → (lowest f n < n) × Least (λ i. f i ≡ true) (lowest f n)
lowest_found f n e = let t = some_met f n e in lowest_at f n t.0 t.1 t.2

-- two tests that say the same of each number
pub every_below_ext : (f g : ℕ → Bool) → ((k : ℕ) → f k ≡ g k) → (n : ℕ) → every_below n f ≡ every_below n g
every_below_ext f g same zero = refl
every_below_ext f g same (suc n) = ap₂ ◌&&◌ (every_below_ext f g same n) (same n)

pub some_below_ext : (f g : ℕ → Bool) (n : ℕ) → ((k : ℕ) → k < n → f k ≡ g k) → some_below n f ≡ some_below n g
some_below_ext f g zero same = refl
some_below_ext f g (suc n) same = ap₂ ◌||◌ (some_below_ext f g n (λ k h. same k (omega arith))) (same n (omega arith))

-- two things that hold of each number below n
pub all_and : {A B : ℕ → Type 0} (n : ℕ) → ((k : ℕ) → k < n → A k × B k) ↔ (((k : ℕ) → k < n → A k) × ((k : ℕ) → k < n → B k))
all_and n = (λ t. (λ k h. (t k h).0, λ k h. (t k h).1), λ t k h. (t.0 k h, t.1 k h))
