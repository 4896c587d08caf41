-- What a byte of Labels says: its label, and 128 more where its state is busy.
use Prim.Native.Nat.{ℕ, zero, suc, ◌+◌, ◌*◌, ◌/◌, ◌%◌, ◌<◌}
use mathlib.Core.List.{List}
use mathlib.Core.Path.{◌≡◌, refl}
use native.Mathlib.Nat.{lt_of_lt_of_le}
use native.Mathlib.Omega.{arith}
use lib.Dec.{eqb}
use lib.Pow.{pow_mono}
use Rattle.sets.specs.Sets.{one}
use Rattle.rules.specs.Bytes.{byte, said}
use Rattle.rules.specs.Keeps.{Keeps}

one_below : (d : ℕ) → d < 2 → one (eqb (d % 2) 1) ≡ d
one_below zero h = refl
one_below (suc zero) h = refl
one_below (suc (suc d)) h = absurd (omega arith)

-- the mark is 128 added to the label, and the byte says nothing else
pub label_said : (b : List ℕ) (s : ℕ) → byte b 1 s < 256 → byte b 1 s ≡ (said b).label s + 128 * one ((said b).busy s)
label_said b s h = omega (arith, one_below (byte b 1 s / 128) (omega arith))

-- so a byte from 64 to 127 or from 192 on is always refused
pub label_few : {b : List ℕ} → Keeps b → (s : ℕ) → s < (said b).states → (said b).label s < 64
label_few k s h = lt_of_lt_of_le (k.label_below s h) (pow_mono k.few_propositions)
