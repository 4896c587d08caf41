-- The laws of `member`: which places a set of words has, and one place more.
use mathlib.Core.Path.{◌≡◌, refl, sym, ap, ◌∙◌}
use mathlib.Core.Bool.{false, ◌||◌}
use mathlib.Core.List.{List}
use mathlib.Core.Logic.{⊎_elim}
use Prim.Native.Nat.{ℕ, zero, suc, ◌*◌, ◌/◌, ◌%◌, ◌^◌, ◌<◌, ◌≤◌}
use native.Mathlib.Nat.{mod-lt}
use native.Mathlib.Omega.{arith}
use borrow.Author.Tests.{eq-eqb, ne_eqb, lt-ltb, le-ltb}
use lib.Bits.{bit_or, or_lt}
use lib.Dec.{eqb}
use lib.ListN.{get_or, set, length, replicate, length-set, get_or-eq_default}
use lib.Pow.{pow_pos}
use lib.Seq.{get_or-set_same, get_or-set_other}
use Rattle.sets.specs.Sets.{member, PutIn}
use Rattle.sets.proofs.Bits.{same_or, bit-or, bit_pow, bit_none, one_shl}

-- the words with the place i
abbrev pub with_place : List ℕ → ℕ → List ℕ
with_place ws i = set ws (i / 64) (bit_or (2 ^ (i % 64)) (get_or ws (i / 64) 0))

pub member_with : (ws : List ℕ) (i j : ℕ) → i / 64 < length ws → member (with_place ws i) j ≡ (eqb j i || member ws j)
member_with ws i j h = ⊎_elim here there (same_or (j / 64) (i / 64))
  where
    digit : j / 64 ≡ i / 64 → eqb (j % 64) (i % 64) ≡ eqb j i
    digit e =
        ⊎_elim
        (λ (f : j ≡ i). eq-eqb (j % 64) (i % 64) (ap (λ (x : ℕ). x % 64) f) ∙ sym (eq-eqb j i f))
        (λ (f : j ≡ i → ⊥). ne_eqb (j % 64) (i % 64) (λ g. f (omega arith)) ∙ sym (ne_eqb j i f))
        (same_or j i)

    here : j / 64 ≡ i / 64 → member (with_place ws i) j ≡ (eqb j i || member ws j)
    here e =
        rw (e, get_or-set_same ws (i / 64) (bit_or (2 ^ (i % 64)) (get_or ws (i / 64) 0)) 0 h, bit-or, bit_pow, digit e)

    there : (j / 64 ≡ i / 64 → ⊥) → member (with_place ws i) j ≡ (eqb j i || member ws j)
    there n =
        rw (
          get_or-set_other ws (i / 64) (j / 64) (bit_or (2 ^ (i % 64)) (get_or ws (i / 64) 0)) 0 n,
          ne_eqb j i (λ g. n (ap (λ (x : ℕ). x / 64) g)),
        )

-- no place from the end on
pub member_past : (ws : List ℕ) (i : ℕ) → length ws * 64 ≤ i → member ws i ≡ false
member_past ws i h = rw (get_or-eq_default ws 0 {n = i / 64} (omega arith)) (bit_none (i % 64))

zeros : (n k : ℕ) → ◌≡◌ {A = ℕ} (get_or (replicate n 0) k 0) 0
zeros zero k = refl
zeros (suc n) zero = refl
zeros (suc n) (suc k) = zeros n k

pub member_zeros : (n i : ℕ) → member (replicate n 0) i ≡ false
member_zeros n i = rw (zeros n (i / 64)) (bit_none (i % 64))

-- ---- what putting i into a set leaves: the machine's store where there is room, and the set itself where there is none

pub put_more : (n : ℕ) (ws : List ℕ) (i : ℕ) → length ws ≡ n → i / 64 < n
    → PutIn n ws i (set ws (i / 64) (bit_or (1 * 2 ^ (i % 64) % 2 ^ 64) (get_or ws (i / 64) 0)))
put_more n ws i n_is h =
    record {
      as_long = length-set ws (i / 64) (bit_or (1 * 2 ^ (i % 64) % 2 ^ 64) (get_or ws (i / 64) 0));
      in_bits =
          λ small k. ⊎_elim
          (λ (e : k ≡ i / 64). rw (e, get_or-set_same ws (i / 64) word 0 (omega (arith, n_is, h))) (fits (small (i / 64))))
          (λ (e : k ≡ i / 64 → ⊥). rw (get_or-set_other ws (i / 64) k word 0 e) (small k))
          (same_or k (i / 64));
      members = λ j. rw (one_shl (i % 64) 64 (omega arith), lt-ltb i (64 * n) (omega (arith, h))) (member_with ws i j (omega (arith, n_is, h)));
    }
  where
    word : ℕ
    word = bit_or (1 * 2 ^ (i % 64) % 2 ^ 64) (get_or ws (i / 64) 0)

    fits : get_or ws (i / 64) 0 < 2 ^ 64 → word < 2 ^ 64
    fits = or_lt 64 (1 * 2 ^ (i % 64) % 2 ^ 64) (get_or ws (i / 64) 0) (mod-lt (1 * 2 ^ (i % 64)) (pow_pos 64))

pub put_same : (n : ℕ) (ws : List ℕ) (i : ℕ) → n ≤ i / 64 → PutIn n ws i ws
put_same n ws i h =
    record { as_long = refl; in_bits = λ small. small; members = λ j. rw (le-ltb i (64 * n) (omega arith)) }
