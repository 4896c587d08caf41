-- Numbers in rows of g, one row after the other: the row of a number, and what holds of each number.
-- The other laws of the number q * g + x are `digits_lt`, `digits_div` and `digits_mod` of lib.Arith, and `div-add-mod'`.
use mathlib.Core.Logic.{◌↔◌}
use mathlib.Core.Path.{subst}
use Prim.Native.Nat.{ℕ, ◌+◌, ◌*◌, ◌/◌, ◌%◌, ◌<◌}
use native.Mathlib.Nat.{div-add-mod', div-lt_iff_lt-mul, mod-lt}
use lib.Arith.{digits_lt}

pub row_of : {n g : ℕ} → 0 < g → (i : ℕ) → i < n * g → i / g < n
row_of p i h = (div-lt_iff_lt-mul p).1 h

-- what holds of each number in n rows holds of each column of each row
pub rows_iff : (P : ℕ → Type 0) (n g : ℕ) → 0 < g → ((i : ℕ) → i < n * g → P i) ↔ ((q x : ℕ) → q < n → x < g → P (q * g + x))
rows_iff P n g p = (
  λ t q x h k. t (q * g + x) (digits_lt h k),
  λ t i h. subst P (div-add-mod' i g) (t (i / g) (i % g) (row_of p i h) (mod-lt i p)),
)
