-- Bytes that were filled one after the other: what lies beyond them stays, and a table's are its rows and marks.
use Prim.Native.Nat.{ℕ, ◌+◌, ◌-◌, ◌*◌, ◌/◌, ◌%◌, ◌^◌, ◌≤◌, ◌<◌}
use mathlib.Core.Bool.{Bool, cond}
use mathlib.Core.List.{List}
use mathlib.Core.Path.{◌≡◌, sym, ◌∙◌}
use native.Mathlib.Omega.{arith}
use borrow.Author.Tests.{lt-ltb, le-ltb}
use lib.Arith.{digits_lt, digits_div, digits_mod}
use lib.Dec.{ltb}
use lib.ListN.{length, get_or, take, drop, length-drop}
use lib.Seq.{length-take-le, get_or-take, get_or-drop, ext_get_or}
use Rattle.sets.specs.Sets.{one}
use Rattle.slips.specs.Filling.{Filled}

module _ {n : ℕ} {f : ℕ → ℕ} {before after : List ℕ} (x : Filled n f before after) where
  pub rest_kept : drop n after ≡ drop n before
  rest_kept =
      ext_get_or 0 (drop n after) (drop n before) (length-drop n after ∙ rw x.as_long (sym (length-drop n before)))
      (λ i l. get_or-drop n after i 0 ∙ x.bytes (n + i)
      ∙ rw (le-ltb (n + i) n (omega arith)) (sym (get_or-drop n before i 0)))

  pub filled_long : n ≤ length before → length (take n after) ≡ n
  filled_long h = length-take-le n after (omega (arith, x.as_long))

  pub filled_byte : (y : ℕ) → y < n → get_or (take n after) y 0 ≡ f y
  filled_byte y l = get_or-take n after y 0 l ∙ x.bytes y ∙ rw (lt-ltb y n l)

-- the byte y of a table of n goal states under 2^P labels: the next goal state for goal state y / 2^P under label y % 2^P, then the marks
abbrev pub table_byte : ℕ → ℕ → (ℕ → ℕ → ℕ) → (ℕ → Bool) → ℕ → ℕ
table_byte n p next final y = cond (ltb y (n * 2 ^ p)) (next (y / 2 ^ p) (y % 2 ^ p)) (one (final (y - n * 2 ^ p)))

module _ (n p : ℕ) (next : ℕ → ℕ → ℕ) (final : ℕ → Bool) {before after : List ℕ}
    (x : Filled (n * 2 ^ p + n) (table_byte n p next final) before after) where
  abbrev size : ℕ
  size = n * 2 ^ p + n

  pub row_filled : (q l : ℕ) → q < n → l < 2 ^ p → get_or (take size after) (q * 2 ^ p + l) 0 ≡ next q l
  row_filled q l i k =
      let b : q * 2 ^ p + l < n * 2 ^ p = digits_lt i k in
      filled_byte x (q * 2 ^ p + l) (omega arith)
      ∙ rw (lt-ltb (q * 2 ^ p + l) (n * 2 ^ p) b, digits_div q k, digits_mod q k)

  pub mark_filled : (q : ℕ) → q < n → get_or (take size after) (n * 2 ^ p + q) 0 ≡ one (final q)
  mark_filled q i =
      let e : n * 2 ^ p + q - n * 2 ^ p ≡ q = omega arith in
      filled_byte x (n * 2 ^ p + q) (omega arith) ∙ rw (le-ltb (n * 2 ^ p + q) (n * 2 ^ p) (omega arith), e)
