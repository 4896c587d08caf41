-- The laws of `count`: how many numbers pass a test, how many places a set of words has, and what the sizes of two sets say.
use mathlib.Core.Path.{◌≡◌, refl, sym, ap, ap₂, ◌∙◌, subst}
use mathlib.Core.Bool.{Bool, true, false, false≢true}
use mathlib.Core.List.{List}
use mathlib.Core.Logic.{⊎_elim}
use Prim.Native.Nat.{ℕ, zero, suc, ◌+◌, ◌*◌, ◌/◌, ◌%◌, ◌^◌, ◌<◌, ◌≤◌}
use native.Mathlib.Nat.{add-zero, add-suc, pow-suc}
use native.Mathlib.Omega.{arith}
use lib.Arith.{lt-one}
use lib.Count.{ones, ones_step}
use lib.Dec.{eqb}
use lib.ListN.{get_or}
use Rattle.sets.specs.Sets.{bit, member, one, count}
use Rattle.sets.proofs.Bits.{bit_zero, bit_suc, two, below_or}

pub count_none : (f : ℕ → Bool) → count f 0 ≡ 0
unfolding count
count_none f = refl

pub count_add : (f : ℕ → Bool) (a b : ℕ) → count f (a + b) ≡ count f a + count (λ j. f (a + j)) b
unfolding count
count_add f a zero = rw (add-zero a) (sym (add-zero (count f a)))
count_add f a (suc b) = rw (add-suc a b) (omega (arith, count_add f a b))

pub count_ext : (f g : ℕ → Bool) (n : ℕ) → ((j : ℕ) → j < n → f j ≡ g j) → count f n ≡ count g n
unfolding count
count_ext f g zero h = refl
count_ext f g (suc n) h = ap₂ (λ (x : ℕ) (b : Bool). x + one b) (count_ext f g n (λ j l. h j (omega arith))) (h n (omega arith))

-- the first, and the rest
count_front : (f : ℕ → Bool) (n : ℕ) → count f (suc n) ≡ one (f 0) + count (λ j. f (suc j)) n
unfolding count
count_front f zero = omega arith
count_front f (suc n) = omega (arith, count_front f n)

pub count_le : (f : ℕ → Bool) (n : ℕ) → count f n ≤ n
unfolding count
count_le f zero = omega arith
count_le f (suc n) = go (f n) (count_le f n)
  where
    go : (b : Bool) → count f n ≤ n → count f n + one b ≤ suc n
    go true h = omega arith
    go false h = omega arith

-- no more numbers pass than there are, where none from n on passes
pub count_within : (f : ℕ → Bool) (n m : ℕ) → ((x : ℕ) → n ≤ x → f x ≡ false) → count f m ≤ n
unfolding count
count_within f n zero h = omega arith
count_within f n (suc m) h =
    ⊎_elim
    (λ (l : m < n). omega (arith, count_le f (suc m)))
    (λ (l : n ≤ m). rw (h m l) (omega (arith, count_within f n m h)))
    (below_or m n)

one_digit : (x : ℕ) → x < 2 → one (eqb x 1) ≡ x
one_digit x h = ⊎_elim (λ e. rw e) (λ e. rw e) (two x h)

-- the set bits of a number of w digits
pub ones_count : (w n : ℕ) → n < 2 ^ w → ones n ≡ count (bit n) w
unfolding count ones
ones_count zero n h = rw (lt-one h)
ones_count (suc w) n h =
    let l : n < 2 ^ w * 2 = rw (pow-suc 2 w) at h in
    ones_step n
    ∙ ap₂ (λ (x y : ℕ). x + y) (sym (one_digit (n % 2) (omega arith)) ∙ ap one (sym (bit_zero n)))
    (ones_count w (n / 2) (omega arith) ∙ count_ext (bit (n / 2)) (λ j. bit n (suc j)) w (λ j q. sym (bit_suc n j)))
    ∙ sym (count_front (bit n) w)

-- one word more of a set
pub count_word : (ws : List ℕ) (i : ℕ) → get_or ws i 0 < 2 ^ 64
    → count (member ws) (64 * (i + 1)) ≡ count (member ws) (64 * i) + ones (get_or ws i 0)
count_word ws i h =
    let e : 64 * (i + 1) ≡ 64 * i + 64 = omega arith in
    ap (count (member ws)) e ∙ count_add (member ws) (64 * i) 64
    ∙ ap (λ (x : ℕ). count (member ws) (64 * i) + x)
    (count_ext (λ j. member ws (64 * i + j)) (bit (get_or ws i 0)) 64 inside ∙ sym (ones_count 64 (get_or ws i 0) h))
  where
    inside : (j : ℕ) → j < 64 → member ws (64 * i + j) ≡ bit (get_or ws i 0) j
    inside j l = ap₂ (λ (x y : ℕ). bit (get_or ws x 0) y) (omega arith) (omega arith)

-- ---- a set within another: it is no larger, and of one size it is the same

module _ (f g : ℕ → Bool) (h : (x : ℕ) → f x ≡ true → g x ≡ true) where
  pub count_sub : (n : ℕ) → count f n ≤ count g n
  unfolding count
  count_sub zero = omega arith
  count_sub (suc n) = go (f n) (g n) (h n) (count_sub n)
    where
      go : (a b : Bool) → (a ≡ true → b ≡ true) → count f n ≤ count g n → count f n + one a ≤ count g n + one b
      go true b k l = rw (k refl) (omega arith)
      go false b k l = omega arith

  pub count_same : (n : ℕ) → count g n ≤ count f n → (x : ℕ) → x < n → f x ≡ g x
  unfolding count
  count_same zero e x l = absurd (omega arith)
  count_same (suc n) e x l =
      ⊎_elim
      (λ (p : x < n). count_same n (go (f n) (g n) (h n) (count_sub n) e).0 x p)
      (λ (p : n ≤ x). let q : n ≡ x = omega arith in subst (λ (y : ℕ). f y ≡ g y) q (go (f n) (g n) (h n) (count_sub n) e).1)
      (below_or x n)
    where
      go : (a b : Bool) → (a ≡ true → b ≡ true) → count f n ≤ count g n → count g n + one b ≤ count f n + one a → (count g n ≤ count f n)
          × (a ≡ b)
      go true true k l e = (omega arith, refl)
      go true false k l e = absurd (false≢true (k refl))
      go false true k l e = absurd (omega arith)
      go false false k l e = (omega arith, refl)
