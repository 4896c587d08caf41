-- A plan's entry: it is read back as it was written, and `Wrote` determines the buffer.
use mathlib.Core.Path.{◌≡◌, refl, sym, ap, ◌∙◌}
use mathlib.Core.Bool.{Bool, or-false, ◌||◌}
use mathlib.Core.List.{List}
use Prim.Native.Nat.{ℕ, ◌+◌, ◌*◌, ◌/◌, ◌%◌, ◌<◌}
use native.Mathlib.Omega.{arith}
use borrow.Author.Tests.{eq-eqb}
use lib.ListN.{get_or}
use lib.Seq.{ext_get_or}
use Rattle.rules.specs.Form.{word}
use Rattle.rules.specs.Plan.{entry, entry_byte, Wrote, blank, due, shaped}
use Rattle.game.specs.declared.entry.Entry.{Entry}

module _ {i : ℕ} {e : Entry} {before after : List ℕ} (w : Wrote i e before after) where
  -- the byte d of what was written
  wrote_byte : (d y : ℕ) → d < 4 → y ≡ 4 * i + d → get_or after y 0 ≡ entry_byte e d
  wrote_byte d y l q =
      let r : y / 4 ≡ i = omega arith in
      let m : y % 4 ≡ d = omega arith in
      w.bytes y ∙ rw (eq-eqb (y / 4) i r, m)

  pub read_back : entry after i ≡ e
  read_back =
      let v : get_or after (4 * i) 0 ≡ e.value = wrote_byte 0 (4 * i) (omega arith) (omega arith) in
      let a : get_or after (4 * i + 1) 0 ≡ e.action = wrote_byte 1 (4 * i + 1) (omega arith) refl in
      let l : get_or after (4 * i + 2) 0 ≡ e.number % 256 = wrote_byte 2 (4 * i + 2) (omega arith) refl in
      let g : get_or after (4 * i + 2 + 1) 0 ≡ e.number / 256 = wrote_byte 3 (4 * i + 2 + 1) (omega arith) (omega arith) in
      let n : word after (4 * i + 2) ≡ e.number = omega arith in
      rw (v, a, n)

  pub wrote_same : {after' : List ℕ} → Wrote i e before after' → after ≡ after'
  wrote_same {after'} v = ext_get_or 0 after after' (w.as_long ∙ sym v.as_long) (λ y l. w.bytes y ∙ sym (v.bytes y))

-- ---- the shapes that each value has

module _ (actions n : ℕ) (e : Entry) where
  pub shaped_pending : e.value ≡ 1 → shaped actions n e ≡ due actions n e
  shaped_pending v = rw v

  pub shaped_winning : e.value ≡ 2 → shaped actions n e ≡ (blank e || due actions n e)
  shaped_winning v = rw v (ap (λ (b : Bool). blank e || b) (or-false (due actions n e)))
