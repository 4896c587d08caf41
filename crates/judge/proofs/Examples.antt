-- Lines of numbers as people write them.
use mathlib.Core.Bool.{false}
use mathlib.Core.List.{[], ◌∷◌}
use mathlib.Core.Path.{◌≡◌, refl}
use Rattle.text.specs.Lines.{bytes}
use Rattle.judge.specs.Lines.{is_list, numbers_from, numbers, first_line, after_line}

pub read_plainly : numbers (bytes "21 17 0 21 1") ≡ (21 ∷ 17 ∷ 0 ∷ 21 ∷ 1 ∷ [])
unfolding numbers_from
read_plainly = refl

-- blanks before, between and after; zeros in front; a number that no byte holds
pub read_freely : numbers (bytes "  7\t007 4096 \r") ≡ (7 ∷ 7 ∷ 4096 ∷ [])
unfolding numbers_from
read_freely = refl

pub read_nothing : numbers (bytes " ") ≡ []
unfolding numbers_from
read_nothing = refl

pub no_list : is_list (bytes "1,2") ≡ false
no_list = refl

pub no_list_signed : is_list (bytes "-1") ≡ false
no_list_signed = refl

pub two_lines : (first_line (bytes "12\n34\n") ≡ bytes "12") × (first_line (after_line (bytes "12\n34\n")) ≡ bytes "34")
    × (after_line (after_line (bytes "12\n34\n")) ≡ [])
two_lines = (refl, refl, refl)
