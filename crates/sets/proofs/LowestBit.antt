-- `trailing_zeros` finds the lowest set bit.
use mathlib.Core.Path.{◌≡◌, ap, ◌∙◌}
use mathlib.Core.Bool.{false}
use mathlib.Core.Logic.{⊎_elim}
use Prim.Native.Nat.{ℕ, zero, suc, ◌*◌, ◌/◌, ◌%◌, ◌^◌, ◌<◌}
use native.Mathlib.Omega.{arith}
use native.Mathlib.Nat.{pow-suc}
use lib.Dec.{eqb}
use lib.Count.{count_trailing_zeros, under}
use Rattle.sets.specs.Sets.{bit}
use Rattle.sets.specs.Lowest.{IsLowest}
use Rattle.sets.proofs.Bits.{bit_zero, bit_suc, two}

pub trailing_lowest : (w n : ℕ) → 0 < n → n < 2 ^ w → IsLowest n w (count_trailing_zeros w n)
unfolding count_trailing_zeros
trailing_lowest zero n p h = absurd (omega arith)
trailing_lowest (suc w) n p h =
    let l : n < 2 ^ w * 2 = rw (pow-suc 2 w) at h in
    ⊎_elim (λ e. even e (trailing_lowest w (n / 2) (omega arith) (omega arith))) odd (two (n % 2) (omega arith))
  where
    clear : n % 2 ≡ 0 → (t : ℕ) → ((k : ℕ) → k < t → bit (n / 2) k ≡ false) → (k : ℕ) → k < suc t → bit n k ≡ false
    clear e t f zero q = bit_zero n ∙ ap (λ (x : ℕ). eqb x 1) e
    clear e t f (suc k) q = bit_suc n k ∙ f k (omega arith)

    even : n % 2 ≡ 0 → IsLowest (n / 2) w (count_trailing_zeros w (n / 2)) → IsLowest n (suc w) (under (n % 2) (count_trailing_zeros w (n / 2)))
    even e r =
        rw e (record {
          within = omega (arith, r.within);
          is_set = bit_suc n (count_trailing_zeros w (n / 2)) ∙ r.is_set;
          clear_below = clear e (count_trailing_zeros w (n / 2)) r.clear_below;
        })

    odd : n % 2 ≡ 1 → IsLowest n (suc w) (under (n % 2) (count_trailing_zeros w (n / 2)))
    odd e =
        rw e (record { within = omega arith; is_set = bit_zero n ∙ ap (λ (x : ℕ). eqb x 1) e; clear_below = λ k q. absurd (omega arith) })
