-- One plate, byte for byte: the state "broken" was deleted, and the lift still names it, as 9. Lifting goes whole; to drop the one outcome
-- alone would have made it safe. The stage is busy, and stays so. And the same in the tall form, where returning is removed too.
use Prim.Native.Nat.{ℕ}
use mathlib.Core.List.{List, [], ◌∷◌}
use mathlib.Core.Path.{◌≡◌, refl}
use Rattle.rules.specs.Fault.{only, with_record}
use Rattle.rules.specs.Bytes.{fault}
use Rattle.salvage.specs.Salvage.{gathered, salvage_fault, salvaged, removed}

abbrev pub torn : List ℕ
torn =
    16 ∷ 0 ∷ 6 ∷ 0 ∷ 22 ∷ 0 ∷ 4 ∷ 0 ∷ 26 ∷ 0 ∷ 18 ∷ 0 ∷ 44 ∷ 0 ∷ 15 ∷ 0 ∷ 4 ∷ 3 ∷ 2 ∷ 3 ∷ 0 ∷ 0 ∷ 2 ∷ 0 ∷ 129
    ∷ 0 ∷ 0 ∷ 0 ∷ 1 ∷ 0 ∷ 0 ∷ 9 ∷ 1 ∷ 1 ∷ 1 ∷ 1 ∷ 1 ∷ 2 ∷ 1 ∷ 2 ∷ 0 ∷ 2 ∷ 2 ∷ 0 ∷ 0 ∷ 1 ∷ 0 ∷ 1 ∷ 1 ∷ 1 ∷ 2
    ∷ 2 ∷ 2 ∷ 2 ∷ 2 ∷ 2 ∷ 0 ∷ 0 ∷ 1 ∷ []

abbrev pub mended_plate : List ℕ
mended_plate =
    16 ∷ 0 ∷ 6 ∷ 0 ∷ 22 ∷ 0 ∷ 4 ∷ 0 ∷ 26 ∷ 0 ∷ 12 ∷ 0 ∷ 38 ∷ 0 ∷ 15 ∷ 0 ∷ 4 ∷ 3 ∷ 2 ∷ 3 ∷ 0 ∷ 0 ∷ 2 ∷ 0 ∷ 129
    ∷ 0 ∷ 1 ∷ 1 ∷ 1 ∷ 1 ∷ 1 ∷ 2 ∷ 1 ∷ 2 ∷ 0 ∷ 2 ∷ 2 ∷ 0 ∷ 0 ∷ 1 ∷ 0 ∷ 1 ∷ 1 ∷ 1 ∷ 2 ∷ 2 ∷ 2 ∷ 2 ∷ 2 ∷ 2 ∷ 0
    ∷ 0 ∷ 1 ∷ []

abbrev pub tall_torn : List ℕ
tall_torn =
    16 ∷ 0 ∷ 8 ∷ 0 ∷ 24 ∷ 0 ∷ 4 ∷ 0 ∷ 28 ∷ 0 ∷ 35 ∷ 0 ∷ 63 ∷ 0 ∷ 15 ∷ 0 ∷ 4 ∷ 0 ∷ 3 ∷ 2 ∷ 3 ∷ 0 ∷ 0 ∷ 0 ∷ 2
    ∷ 0 ∷ 129 ∷ 0 ∷ 0 ∷ 0 ∷ 0 ∷ 1 ∷ 0 ∷ 0 ∷ 0 ∷ 0 ∷ 4 ∷ 1 ∷ 1 ∷ 0 ∷ 1 ∷ 1 ∷ 0 ∷ 1 ∷ 0 ∷ 1 ∷ 2 ∷ 0 ∷ 1 ∷ 0 ∷ 2
    ∷ 0 ∷ 0 ∷ 1 ∷ 0 ∷ 2 ∷ 44 ∷ 1 ∷ 2 ∷ 0 ∷ 2 ∷ 0 ∷ 0 ∷ 0 ∷ 1 ∷ 0 ∷ 1 ∷ 1 ∷ 1 ∷ 2 ∷ 2 ∷ 2 ∷ 2 ∷ 2 ∷ 2 ∷ 0 ∷ 0
    ∷ 1 ∷ []

abbrev pub tall_mended : List ℕ
tall_mended =
    16 ∷ 0 ∷ 8 ∷ 0 ∷ 24 ∷ 0 ∷ 4 ∷ 0 ∷ 28 ∷ 0 ∷ 15 ∷ 0 ∷ 43 ∷ 0 ∷ 15 ∷ 0 ∷ 4 ∷ 0 ∷ 3 ∷ 2 ∷ 3 ∷ 0 ∷ 0 ∷ 0 ∷ 2
    ∷ 0 ∷ 129 ∷ 0 ∷ 1 ∷ 0 ∷ 1 ∷ 1 ∷ 0 ∷ 1 ∷ 0 ∷ 1 ∷ 2 ∷ 0 ∷ 2 ∷ 0 ∷ 2 ∷ 0 ∷ 0 ∷ 0 ∷ 1 ∷ 0 ∷ 1 ∷ 1 ∷ 1 ∷ 2 ∷ 2
    ∷ 2 ∷ 2 ∷ 2 ∷ 2 ∷ 0 ∷ 0 ∷ 1 ∷ []

-- planning refuses it by record 1, and salvaging does not
pub torn_planned : fault torn ≡ with_record 12 1
torn_planned = refl

pub torn_read : salvage_fault torn ≡ only 0
torn_read = refl

pub torn_mended : salvaged torn ≡ mended_plate
unfolding gathered
torn_mended = refl

pub torn_pairs : removed torn ≡ 0 ∷ 0 ∷ 0 ∷ []
unfolding gathered
torn_pairs = refl

pub tall_read : salvage_fault tall_torn ≡ only 0
tall_read = refl

pub tall_torn_mended : salvaged tall_torn ≡ tall_mended
unfolding gathered
tall_torn_mended = refl

pub tall_pairs : removed tall_torn ≡ 0 ∷ 0 ∷ 0 ∷ 1 ∷ 0 ∷ 2 ∷ []
unfolding gathered
tall_pairs = refl
