-- Lines as documents 01 and 02 print them, and lines with long figures: what the definitions give.
use Prim.Native.Nat.{ℕ}
use mathlib.Core.List.{List, [], ◌∷◌}
use mathlib.Core.Path.{◌≡◌, refl}
use Rattle.rules.specs.Fault.{only, with_record}
use Rattle.text.specs.Lines.{decimal_in, decimal, bytes, entry_line, start_line, refusal_line}

pub examples :
    ◌≡◌ {A = List (List ℕ)}
    (start_line 0 0 1
    ∷ entry_line 0 0 1 0 2
    ∷ entry_line 0 2 2 255 0
    ∷ entry_line 3 0 0 255 0
    ∷ entry_line 127 31 2 15 4095
    ∷ refusal_line (only 2)
    ∷ refusal_line (only 11)
    ∷ refusal_line (with_record 12 7)
    ∷ refusal_line (with_record 12 0)
    ∷ refusal_line (with_record 13 4095)
    ∷ [])
    (bytes "start 0 0 pending\n"
    ∷ bytes "0 0 pending 0 2\n"
    ∷ bytes "0 2 winning - 0\n"
    ∷ bytes "3 0 losing - 0\n"
    ∷ bytes "127 31 winning 15 4095\n"
    ∷ bytes "refused 2\n"
    ∷ bytes "refused 11\n"
    ∷ bytes "refused 12 7\n"
    ∷ bytes "refused 12 0\n"
    ∷ bytes "refused 13 4095\n"
    ∷ [])
unfolding decimal_in decimal
examples = refl
