-- Two results that one promise allows are the same: sets of actions and of places, the lowest action.
use Prim.Native.Nat.{ℕ, zero, suc, ◌+◌, ◌*◌, ◌/◌, ◌%◌, ◌^◌, ◌<◌}
use mathlib.Core.Bool.{Bool, true≢false}
use mathlib.Core.List.{List}
use mathlib.Core.Path.{◌≡◌, refl, sym, ap, ◌∙◌}
use native.Mathlib.Nat.{pow-suc, lt_of_lt_of_le}
use native.Mathlib.Omega.{arith}
use lib.Arith.{digits_div, digits_mod}
use lib.Dec.{eqb}
use lib.ListN.{length, get_or}
use lib.Pow.{pow_mono}
use lib.Seq.{ext_get_or}
use Rattle.sets.specs.Sets.{bit, member, PutIn}
use Rattle.std.specs.Prelude.{Option, Some, None}
use Rattle.sets.specs.Lowest.{IsLowest, LowestOf}
use Rattle.sets.specs.declared.actions.ActionSet.{ActionSet}
use Rattle.sets.specs.declared.places.Places.{Places}
use Rattle.sets.proofs.Bits.{bit_zero, bit_suc}

-- ---- a number is known by its bits

digit_known : (x y : ℕ) → x < 2 → y < 2 → eqb x 1 ≡ eqb y 1 → x ≡ y
digit_known zero zero h g e = refl
digit_known zero (suc zero) h g e = absurd (true≢false (sym e))
digit_known zero (suc (suc y)) h g e = absurd (omega arith)
digit_known (suc zero) zero h g e = absurd (true≢false e)
digit_known (suc zero) (suc zero) h g e = refl
digit_known (suc zero) (suc (suc y)) h g e = absurd (omega arith)
digit_known (suc (suc x)) y h g e = absurd (omega arith)

-- a number of w digits
pub digits_known : (w n m : ℕ) → n < 2 ^ w → m < 2 ^ w → ((k : ℕ) → k < w → bit n k ≡ bit m k) → n ≡ m
digits_known zero n m h g e = omega arith
digits_known (suc w) n m h g e =
    let hl : n < 2 ^ w * 2 = rw (pow-suc 2 w) at h in
    let gl : m < 2 ^ w * 2 = rw (pow-suc 2 w) at g in
    let high : n / 2 ≡ m / 2 =
    digits_known w (n / 2) (m / 2) (omega arith) (omega arith) (λ k l. sym (bit_suc n k) ∙ e (suc k) (omega arith) ∙ bit_suc m k) in
    let low : n % 2 ≡ m % 2 =
    digit_known (n % 2) (m % 2) (omega arith) (omega arith) (sym (bit_zero n) ∙ e 0 (omega arith) ∙ bit_zero m) in
    omega arith

below_pow : (n : ℕ) → n < 2 ^ n
below_pow zero = omega arith
below_pow (suc n) = rw (pow-suc 2 n) (omega (arith, below_pow n))

pub bits_known : (n m : ℕ) → ((k : ℕ) → bit n k ≡ bit m k) → n ≡ m
bits_known n m e =
    digits_known (n + m) n m (lt_of_lt_of_le (below_pow n) (pow_mono (omega arith))) (lt_of_lt_of_le (below_pow m) (pow_mono (omega arith)))
    (λ k l. e k)

-- ---- sets

-- the promises of `none`, `with` and `without` say which actions g the set has
pub actions_unique : (g : ℕ → Bool) (x y : ActionSet) → ((k : ℕ) → bit x.bits k ≡ g k) → ((k : ℕ) → bit y.bits k ≡ g k) → x ≡ y
actions_unique g x y e d = ap (λ (n : ℕ). record { bits = n }) (bits_known x.bits y.bits (λ k. e k ∙ sym (d k)))

-- what the type of a set's words says: n of them, of 64 bits each
pub record Words (n : ℕ) (ws : List ℕ) : Type 0 where
  pub many : length ws ≡ n
  pub in_bits : (k : ℕ) → get_or ws k 0 < 2 ^ 64

pub words_known : {n : ℕ} {ws vs : List ℕ} → Words n ws → Words n vs → ((i : ℕ) → member ws i ≡ member vs i) → ws ≡ vs
words_known {n} {ws} {vs} w v e =
    ext_get_or 0 ws vs (w.many ∙ sym v.many)
    (λ y l. digits_known 64 (get_or ws y 0) (get_or vs y 0) (w.in_bits y) (v.in_bits y) (λ k h. word y k h))
  where
    word : (y k : ℕ) → k < 64 → bit (get_or ws y 0) k ≡ bit (get_or vs y 0) k
    word y k h =
        let same : member ws (y * 64 + k) ≡ member vs (y * 64 + k) = e (y * 64 + k) in
        rw (digits_div y h, digits_mod y h) at same

-- the promise of `empty` says which places g the set has, and so does every promise of a set that is handed over by value
pub places_unique : {n : ℕ} (g : ℕ → Bool) (x y : Places n) → Words n x.words → Words n y.words
    → ((i : ℕ) → member x.words i ≡ g i) → ((i : ℕ) → member y.words i ≡ g i) → x ≡ y
places_unique g x y w v e d = ap (λ (ws : List ℕ). record { words = ws }) (words_known w v (λ i. e i ∙ sym (d i)))

-- what `put` leaves, also past the places of a job
pub put_unique : {n : ℕ} {ws vs vs' : List ℕ} {i : ℕ} → Words n ws → PutIn n ws i vs → PutIn n ws i vs' → vs ≡ vs'
put_unique {n} {ws} {i = i} w p p' = words_known (after p) (after p') (λ j. p.members j ∙ sym (p'.members j))
  where
    after : {us : List ℕ} → PutIn n ws i us → Words n us
    after q = record { many = q.as_long ∙ w.many; in_bits = q.in_bits w.in_bits }

-- ---- the lowest action

no_lower : {n a c : ℕ} → IsLowest n 16 a → IsLowest n 16 c → ¬ (a < c)
no_lower {a = a} x y h = true≢false (sym x.is_set ∙ y.clear_below a h)

pub lowest_unique : (n : ℕ) (x y : Option ℕ) → LowestOf n x → LowestOf n y → x ≡ y
lowest_unique n (Some a) (Some c) x y =
    let up = no_lower x y in
    let down = no_lower y x in
    let e : a ≡ c = omega arith in
    ap Some e
lowest_unique n (Some a) None x y = absurd (true≢false (sym x.is_set ∙ y a))
lowest_unique n None (Some c) x y = absurd (true≢false (sym y.is_set ∙ x c))
lowest_unique n None None x y = refl
