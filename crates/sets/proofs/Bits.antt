-- The laws of `bit`: what the machine's operations do to the bits of a number, and what the bits say of its size.
use mathlib.Core.Path.{◌≡◌, refl, sym, ap, ◌∙◌, subst}
use mathlib.Core.Bool.{Bool, true, false, ◌&&◌, not, xor, and-true, true≢false, ◌||◌}
use mathlib.Core.Logic.{◌⊎◌, inl, inr, ⊎_elim}
use Prim.Native.Nat.{ℕ, zero, suc, ◌+◌, ◌-◌, ◌*◌, ◌/◌, ◌%◌, ◌^◌, ◌≤◌, ◌<◌}
use native.Mathlib.Omega.{arith}
use native.Mathlib.Nat.{mod-lt, mod-eq_of_lt, div-eq_of_lt, div-lt_iff_lt-mul, lt_of_lt_of_le, pow-suc, pow-succ', one-mul, mul-mod_left}
use native.Mathlib.Nat.{div-one}
use native.Mathlib.Numerals.{one-add}
use native.Mathlib.Decide.{dec_lt, ℕ_discrete}
use borrow.Author.Tests.{lt-ltb, le-ltb, eq-eqb, ne_eqb, eqb-false}
use lib.Dec.{eqb, ltb}
use lib.Bits.{bit_and, bit_or, bit_xor, or_shr, or_mod, and_shr, and_mod, xor_shr, xor_mod, xor_add_and, and_mask}
use lib.Pow.{pow_pos, pow_mono, pow-lt, pow-add, shl_exact, shl-shr, field, mod-mod-pow, shr-shr}
use Rattle.sets.specs.Sets.{bit}

-- ---- cases

pub below_or : (a b : ℕ) → (a < b) ⊎ (b ≤ a)
below_or a b = elim (dec_lt a b) [ yes h ↦ inl h | no h ↦ inr (omega arith) ]

pub same_or : (a b : ℕ) → (a ≡ b) ⊎ (a ≡ b → ⊥)
same_or a b = elim (ℕ_discrete a b) [ yes h ↦ inl h | no h ↦ inr h ]

pub two : (x : ℕ) → x < 2 → (x ≡ 0) ⊎ (x ≡ 1)
two zero h = inl refl
two (suc zero) h = inr refl
two (suc (suc x)) h = absurd (omega arith)

-- what holds of the four pairs of digits holds of the last digits of every two numbers
four : (P : ℕ → ℕ → Type 0) → P 0 0 → P 0 1 → P 1 0 → P 1 1 → (x y : ℕ) → P (x % 2) (y % 2)
four P p q r s x y =
    ⊎_elim (λ e. rw e (⊎_elim (λ f. rw f p) (λ f. rw f q) d)) (λ e. rw e (⊎_elim (λ f. rw f r) (λ f. rw f s) d)) (two (x % 2) (omega arith))
  where
    d : (y % 2 ≡ 0) ⊎ (y % 2 ≡ 1)
    d = two (y % 2) (omega arith)

-- ---- and, or, exclusive or

pub bit-or : (a b k : ℕ) → bit (bit_or a b) k ≡ (bit a k || bit b k)
bit-or a b k =
    rw (or_shr a b k, or_mod (a / 2 ^ k) (b / 2 ^ k) 1)
    (four (λ x y. eqb (bit_or x y) 1 ≡ (eqb x 1 || eqb y 1)) refl refl refl refl (a / 2 ^ k) (b / 2 ^ k))

pub bit-and : (a b k : ℕ) → bit (bit_and a b) k ≡ (bit a k && bit b k)
bit-and a b k =
    rw (and_shr a b k, and_mod (a / 2 ^ k) (b / 2 ^ k) 1)
    (four (λ x y. eqb (bit_and x y) 1 ≡ (eqb x 1 && eqb y 1)) refl refl refl refl (a / 2 ^ k) (b / 2 ^ k))

pub bit-xor : (a b k : ℕ) → bit (bit_xor a b) k ≡ xor (bit a k) (bit b k)
unfolding xor
bit-xor a b k =
    rw (xor_shr a b k, xor_mod (a / 2 ^ k) (b / 2 ^ k) 1)
    (four (λ x y. eqb (bit_xor x y) 1 ≡ xor (eqb x 1) (eqb y 1)) refl refl refl refl (a / 2 ^ k) (b / 2 ^ k))

-- ---- one digit more

pub bit_zero : (n : ℕ) → bit n 0 ≡ eqb (n % 2) 1
bit_zero n = ap (λ (x : ℕ). eqb (x % 2) 1) (div-one n)

pub bit_suc : (n k : ℕ) → bit n (suc k) ≡ bit (n / 2) k
bit_suc n k = ap (λ (x : ℕ). eqb (n / 2 ^ x % 2) 1) (sym (one-add k)) ∙ ap (λ (x : ℕ). eqb (x % 2) 1) (sym (shr-shr n 1 k))

-- ---- a number's size

-- a number below 2 ^ w has no bit from w on
pub bit_above : (n w k : ℕ) → n < 2 ^ w → w ≤ k → bit n k ≡ false
bit_above n w k h l = rw (div-eq_of_lt (lt_of_lt_of_le h (pow_mono l)))

pub bit_none : (k : ℕ) → bit 0 k ≡ false
bit_none k = bit_above 0 0 k (omega arith) (omega arith)

-- a number with a bit from p on is 2 ^ p at least
pub set_above : (n p k : ℕ) → p ≤ k → bit n k ≡ true → 2 ^ p ≤ n
set_above n p k l e =
    ⊎_elim (λ (h : n < 2 ^ p). absurd (true≢false (sym e ∙ bit_above n p k h l))) (λ (h : 2 ^ p ≤ n). h) (below_or n (2 ^ p))

-- a number of w digits with none set from p on lies below 2 ^ p
pub clear_above : (w n p : ℕ) → n < 2 ^ w → ((k : ℕ) → k < w → p ≤ k → bit n k ≡ false) → n < 2 ^ p
clear_above zero n p h f = lt_of_lt_of_le h (pow_pos p)
clear_above (suc w) n p h f =
    ⊎_elim
    (λ (l : p < suc w). clear_above w n p (top (f w (omega arith) (omega arith))) (λ k q r. f k (omega arith) r))
    (λ (l : suc w ≤ p). lt_of_lt_of_le h (pow_mono l))
    (below_or p (suc w))
  where
    top : bit n w ≡ false → n < 2 ^ w
    top e =
        let d : n / 2 ^ w < 2 = (div-lt_iff_lt-mul (pow_pos w)).1 (rw (pow-succ' 2 w) at h) in
        let o : n / 2 ^ w % 2 ≡ 1 → ⊥ = eqb-false (n / 2 ^ w % 2) 1 e in
        let z : n / 2 ^ w < 1 =
        ⊎_elim (λ (q : n / 2 ^ w ≡ 0). omega arith) (λ (q : n / 2 ^ w ≡ 1). absurd (o (omega arith))) (two (n / 2 ^ w) d) in
        rw one-mul at ((div-lt_iff_lt-mul (pow_pos w)).0 z)

-- ---- one digit, and the low digits

bit_pow_same : (k : ℕ) → bit (2 ^ k) k ≡ true
bit_pow_same k = ap (λ (x : ℕ). eqb (x / 2 ^ k % 2) 1) (sym (one-mul (2 ^ k))) ∙ ap (λ (x : ℕ). eqb (x % 2) 1) (shl-shr 1 k)

bit_pow_under : (d k : ℕ) → bit (2 ^ (suc d + k)) k ≡ false
bit_pow_under d k =
    ap (λ (x : ℕ). eqb (x / 2 ^ k % 2) 1) (pow-add 2 (suc d) k) ∙ ap (λ (x : ℕ). eqb (x % 2) 1) (shl-shr (2 ^ suc d) k ∙ pow-suc 2 d)
    ∙ ap (λ (x : ℕ). eqb x 1) (mul-mod_left (2 ^ d) 2)

pub bit_pow : (i k : ℕ) → bit (2 ^ i) k ≡ eqb k i
bit_pow i k = ⊎_elim same other (same_or k i)
  where
    same : k ≡ i → bit (2 ^ i) k ≡ eqb k i
    same e = rw (eq-eqb k i e) (subst (λ (x : ℕ). bit (2 ^ x) k ≡ true) e (bit_pow_same k))

    other : (k ≡ i → ⊥) → bit (2 ^ i) k ≡ eqb k i
    other n =
        rw (ne_eqb k i n)
        (⊎_elim
        (λ (h : k < i). let e : suc (i - k - 1) + k ≡ i = omega arith in
        subst (λ (x : ℕ). bit (2 ^ x) k ≡ false) e (bit_pow_under (i - k - 1) k))
        (λ h. bit_above (2 ^ i) k k (pow-lt (omega arith)) (omega arith))
        (below_or k i))

bit_mod_low : (n d k : ℕ) → bit (n % 2 ^ (d + 1 + k)) k ≡ bit n k
bit_mod_low n d k = ap (λ (x : ℕ). eqb (x % 2) 1) (field n (d + 1) k) ∙ ap (λ (x : ℕ). eqb x 1) (mod-mod-pow (n / 2 ^ k) d 1)

pub bit_mod : (n p k : ℕ) → bit (n % 2 ^ p) k ≡ (ltb k p && bit n k)
bit_mod n p k =
    ⊎_elim
    (λ (h : k < p). let e : (p - k - 1) + 1 + k ≡ p = omega arith in
    rw (lt-ltb k p h) (subst (λ (x : ℕ). bit (n % 2 ^ x) k ≡ bit n k) e (bit_mod_low n (p - k - 1) k)))
    (λ (h : p ≤ k). rw (le-ltb k p h) (bit_above (n % 2 ^ p) p k (mod-lt n (pow_pos p)) h))
    (below_or k p)

-- ---- the machine's `1 << a`, `!n` and `a & !b` at w digits

pub one_shl : (a w : ℕ) → a < w → 1 * 2 ^ a % 2 ^ w ≡ 2 ^ a
one_shl a w h = shl_exact 1 a w (omega arith) (omega arith) ∙ one-mul (2 ^ a)

-- the w low digits all set
pub bit_ones : (w k : ℕ) → bit (2 ^ w - 1) k ≡ ltb k w
bit_ones w k =
    ap (λ (b : Bool). b && bit (2 ^ w - 1) k) (sym (bit_pow_same k)) ∙ sym (bit-and (2 ^ k) (2 ^ w - 1) k)
    ∙ ap (λ (x : ℕ). bit x k) (and_mask (2 ^ k) w)
    ∙ bit_mod (2 ^ k) w k ∙ ap (λ (b : Bool). ltb k w && b) (bit_pow_same k) ∙ and-true (ltb k w)

pub bit_not : (n w k : ℕ) → n < 2 ^ w → bit ((2 ^ w - 1) - n) k ≡ (ltb k w && not (bit n k))
unfolding xor
bit_not n w k h = ⊎_elim inside outside (below_or k w)
  where
    flip : (b : Bool) → xor b true ≡ not b
    flip true = refl
    flip false = refl

    as_xor : (2 ^ w - 1) - n ≡ bit_xor n (2 ^ w - 1)
    as_xor = omega (arith, xor_add_and n (2 ^ w - 1), and_mask n w ∙ mod-eq_of_lt h)

    inside : k < w → bit ((2 ^ w - 1) - n) k ≡ (ltb k w && not (bit n k))
    inside l = rw (as_xor, bit-xor n (2 ^ w - 1) k, bit_ones w k, lt-ltb k w l) (flip (bit n k))

    outside : w ≤ k → bit ((2 ^ w - 1) - n) k ≡ (ltb k w && not (bit n k))
    outside l = rw (le-ltb k w l) (bit_above ((2 ^ w - 1) - n) w k (omega (arith, pow_pos w)) l)

pub bit_without : (a b w k : ℕ) → a < 2 ^ w → b < 2 ^ w → bit (bit_and a ((2 ^ w - 1) - b)) k ≡ (bit a k && not (bit b k))
bit_without a b w k ha hb =
    bit-and a ((2 ^ w - 1) - b) k ∙ ap (λ (x : Bool). bit a k && x) (bit_not b w k hb)
    ∙ ⊎_elim (λ (q : k < w). rw (lt-ltb k w q)) (λ (q : w ≤ k). rw (bit_above a w k ha q)) (below_or k w)
