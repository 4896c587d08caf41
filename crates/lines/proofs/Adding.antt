-- The laws of sets of numbers: one number more, and several one after the other.
use Prim.Native.Nat.{ℕ, ◌/◌, ◌%◌, ◌<◌}
use mathlib.Core.Bool.{Bool, false, ◌||◌}
use mathlib.Core.List.{List}
use mathlib.Core.Logic.{⊎_elim}
use mathlib.Core.Path.{◌≡◌, refl, sym, ap, ◌∙◌}
use native.Mathlib.Omega.{arith}
use borrow.Author.Tests.{eq-eqb, ne_eqb}
use lib.Dec.{eqb}
use lib.ListN.{length, get_or, set, length-set}
use lib.Seq.{get_or-set_same, get_or-set_other}
use Rattle.sets.specs.Sets.{bit}
use Rattle.sets.proofs.Bits.{same_or}
use Rattle.lines.specs.Numbers.{has, Gains}

-- a byte that gains a bit: the set gains a number
pub gains_one : (ws : List ℕ) (m x : ℕ) → m / 8 < length ws → ((k : ℕ) → bit x k ≡ (eqb k (m % 8) || bit (get_or ws (m / 8) 0) k))
    → Gains ws (set ws (m / 8) x) (λ j. eqb j m)
gains_one ws m x h g = record { as_long = length-set ws (m / 8) x; members = each }
  where
    digit : (j : ℕ) → j / 8 ≡ m / 8 → eqb (j % 8) (m % 8) ≡ eqb j m
    digit j e =
        ⊎_elim
        (λ (f : j ≡ m). eq-eqb (j % 8) (m % 8) (ap (λ (y : ℕ). y % 8) f) ∙ sym (eq-eqb j m f))
        (λ (f : j ≡ m → ⊥). ne_eqb (j % 8) (m % 8) (λ q. f (omega arith)) ∙ sym (ne_eqb j m f))
        (same_or j m)

    here : (j : ℕ) → j / 8 ≡ m / 8 → has (set ws (m / 8) x) j ≡ (eqb j m || has ws j)
    here j e = rw (e, get_or-set_same ws (m / 8) x 0 h, g (j % 8), digit j e)

    there : (j : ℕ) → (j / 8 ≡ m / 8 → ⊥) → has (set ws (m / 8) x) j ≡ (eqb j m || has ws j)
    there j n = rw (get_or-set_other ws (m / 8) (j / 8) x 0 n, ne_eqb j m (λ q. n (ap (λ (y : ℕ). y / 8) q)))

    each : (j : ℕ) → has (set ws (m / 8) x) j ≡ (eqb j m || has ws j)
    each j = ⊎_elim (here j) (there j) (same_or (j / 8) (m / 8))

-- nothing is gained where nothing passes
pub gains_none : (ws : List ℕ) (f : ℕ → Bool) → ((j : ℕ) → f j ≡ false) → Gains ws ws f
gains_none ws f z = record { as_long = refl; members = λ j. rw (z j) }
