-- What holds first: the two answers of a test, the least number of which something holds, and the search for it.
use Prim.Native.Nat.{ℕ, zero, suc, ◌≤◌, ◌<◌, zero-le, suc-le-suc}
use mathlib.Core.Bool.{Bool, true, false, true≢false}
use mathlib.Core.Logic.{◌⊎◌, inl, inr, ◌↔◌}
use mathlib.Core.Path.{◌≡◌, refl, sym, ◌∙◌, ap₂}
use native.Mathlib.Nat.{le_of_suc-le-suc, lt_of_not-le}
use native.Mathlib.Decide.{le_ind}
use native.Mathlib.Omega.{arith}
use Rattle.game.specs.Game.{Least}

pub either : (b : Bool) → (b ≡ true) ⊎ (b ≡ false)
either true = inl refl
either false = inr refl

pub clash : {b : Bool} → b ≡ true → b ≡ false → ⊥
clash p q = true≢false (sym p ∙ q)

pub if_not_false : (b : Bool) → (b ≡ false → ⊥) → b ≡ true
if_not_false true h = refl
if_not_false false h = absurd (h refl)

pub if_not_true : (b : Bool) → (b ≡ true → ⊥) → b ≡ false
if_not_true true h = absurd (h refl)
if_not_true false h = refl

-- ---- numbers

pub least_unique : {Q : ℕ → Type 0} {m n : ℕ} → Least Q m → Least Q n → m ≡ n
least_unique {m} {n} l k = let a : m ≤ n = l.1 n k.0 in let b : n ≤ m = k.1 m l.0 in omega arith

pub least_map : {Q R : ℕ → Type 0} {n : ℕ} → ((m : ℕ) → Q m ↔ R m) → Least Q n → Least R n
least_map {n} e l = ((e n).0 l.0, λ m r. l.1 m ((e m).1 r))

-- the lowest number below n that passes f, or n
unfoldable pub lowest : (ℕ → Bool) → ℕ → ℕ
lowest f zero = zero
lowest f (suc n) = elim (f zero) [ true ↦ zero | false ↦ suc (lowest (λ i. f (suc i)) n) ]

-- the search stops at the lowest number that passes, if one passes below n
pub lowest_at : (f : ℕ → Bool) (n k : ℕ) → k < n → f k ≡ true → (lowest f n < n) × Least (λ i. f i ≡ true) (lowest f n)
unfolding lowest
lowest_at f zero k h e = absurd (omega arith)
lowest_at f (suc n) k h e = go (f zero) refl k h e (lowest_at f' n)
  where
    f' : ℕ → Bool
    f' i = f (suc i)

    go : (b : Bool) → f zero ≡ b → (k : ℕ) → k < suc n → f k ≡ true
        → ((i : ℕ) → i < n → f' i ≡ true → (lowest f' n < n) × Least (λ i. f' i ≡ true) (lowest f' n))
        → (lowest f (suc n) < suc n) × Least (λ i. f i ≡ true) (lowest f (suc n))
    go true z k h e r = rw (z, lowest) (omega arith, (z, λ m q. zero-le))
    go false z zero h e r = absurd (clash e z)
    go false z (suc k) h e r =
        let l = r k (le_of_suc-le-suc h) e in
        rw (z, lowest)
        (suc-le-suc l.0, (l.1.0, λ m. elim m as (λ k. f k ≡ true → suc (lowest f' n) ≤ k) [ zero ↦ λ q. absurd (clash q z) | suc i ↦ λ q. suc-le-suc (l.1.1 i q) ]))

-- tests that agree below n
pub lowest_ext : (f g : ℕ → Bool) (n : ℕ) → ((a : ℕ) → a < n → f a ≡ g a) → lowest f n ≡ lowest g n
unfolding lowest
lowest_ext f g zero h = refl
lowest_ext f g (suc n) h =
    ap₂ (λ (b : Bool) (c : ℕ). elim b [ true ↦ zero | false ↦ suc c ]) (h zero (omega arith))
    (lowest_ext (λ i. f (suc i)) (λ i. g (suc i)) n (λ a l. h (suc a) (omega arith)))

-- what holds somewhere holds first somewhere
pub has_lowest : (f : ℕ → Bool) (n : ℕ) → f n ≡ true → (k : ℕ) × (k ≤ n) × Least (λ i. f i ≡ true) k
has_lowest f n e =
    let l = lowest_at f (suc n) n (omega arith) e in
    (lowest f (suc n), le_of_suc-le-suc l.0, l.1)

pub lowest_passes : (f : ℕ → Bool) (n : ℕ) → f n ≡ true → Least (λ i. f i ≡ true) (lowest f (suc n))
lowest_passes f n e = (lowest_at f (suc n) n (omega arith) e).1

pub lowest_is : (f : ℕ → Bool) (n m : ℕ) → f n ≡ true → Least (λ i. f i ≡ true) m → lowest f (suc n) ≡ m
lowest_is f n m e l = least_unique (lowest_passes f n e) l

-- a test that goes on passing once it passes
module _ (f : ℕ → Bool) (up : (k : ℕ) → f k ≡ true → f (suc k) ≡ true) where
  pub stays : (m n : ℕ) → m ≤ n → f m ≡ true → f n ≡ true
  stays m n l e = le_ind (λ k. f k ≡ true) e (λ k h. up k) n l

  pub new : (k : ℕ) → f k ≡ false → f (suc k) ≡ true → Least (λ i. f i ≡ true) (suc k)
  new k z e = (e, λ m q. lt_of_not-le (λ l. clash (stays m k l q) z))

pub not_yet : (f : ℕ → Bool) (k : ℕ) → Least (λ i. f i ≡ true) (suc k) → f k ≡ false
not_yet f k l = if_not_true (f k) (λ e. let h : suc k ≤ k = l.1 k e in omega arith)
