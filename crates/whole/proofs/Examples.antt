-- One plate, whose lines are whole, and with one outcome misspelt, whose lines are not; and lines of every kind, each by itself.
use Prim.Native.Nat.{ℕ}
use mathlib.Core.Bool.{Bool, true, false}
use mathlib.Core.List.{List, [], ◌∷◌, ◌++◌}
use mathlib.Core.Path.{◌≡◌, refl}
use Rattle.text.specs.Lines.{bytes}
use Rattle.lines.specs.Words.{class, in_word, glue, words, lines_after, lines, same_word}
use Rattle.lines.specs.Names.{after_key, pushes, listed, names, index_of}
use Rattle.whole.specs.Whole.{fits, listing, over, sole, then_sole, whole_clause, whole_facts, whole_move, whole_rest}
use Rattle.whole.specs.Whole.{whole_line, every_of, whole}

-- no word of this text is skipped, by the names that it lists
abbrev is_whole : List ℕ → Bool
is_whole t = whole (names 512 (bytes "states") t) (names 16 (bytes "actions") t) (names 6 (bytes "facts") t) (lines t)

abbrev listed_names : List ℕ
listed_names = bytes "states: drawer stage exposed broken\nactions: lift expose return\nfacts: shown home\n"

abbrev plate : List ℕ
plate =
    listed_names ++ (bytes "drawer is home\nexposed is shown\nstart: drawer\n"
    ++ (bytes "drawer lift -> stage | broken\nstage expose -> stage | exposed\nstage return -> drawer\nexposed return -> drawer\n"
    ++ bytes "goal-states: waiting seen met\nfirst: waiting\nfinal: met\nwaiting: shown -> seen\nseen: home -> met\n"))

pub plate_whole : is_whole plate ≡ true
unfolding class in_word glue words lines_after same_word after_key pushes listed index_of fits listing over sole then_sole
    whole_clause whole_facts whole_move whole_rest whole_line every_of
plate_whole = refl

-- an outcome that is no state
pub misspelt : is_whole (listed_names ++ bytes "drawer lift -> stgae | broken\n") ≡ false
unfolding class in_word glue words lines_after same_word after_key pushes listed index_of fits listing over sole then_sole
    whole_clause whole_facts whole_move whole_rest whole_line every_of
misspelt = refl

-- whether a line is whole, where there are the states drawer and stage, the action lift, and the facts shown and home
abbrev judged : List ℕ → Bool
judged l = whole_line (bytes "drawer" ∷ (bytes "stage" ∷ [])) (bytes "lift" ∷ []) (bytes "shown" ∷ (bytes "home" ∷ [])) (words l)

pub whole_one_by_one :
    ◌≡◌ {A = List Bool}
    (judged (bytes "  # nothing")
    ∷ judged (bytes "drawer is home, busy")
    ∷ judged (bytes "drawer lift -> stage|drawer # or so")
    ∷ judged (bytes "never home")
    ∷ judged (bytes "whenever shown then home")
    ∷ judged (bytes "shown before home")
    ∷ judged (bytes "goal:")
    ∷ [])
    (true ∷ true ∷ true ∷ true ∷ true ∷ true ∷ true ∷ [])
unfolding class in_word glue words same_word index_of fits listing over sole then_sole whole_clause whole_facts whole_move whole_rest whole_line
whole_one_by_one = refl

pub not_one_by_one :
    ◌≡◌ {A = List Bool}
    (judged (bytes "drawer")
    ∷ judged (bytes "drawer is not home")
    ∷ judged (bytes "drawer is home shown")
    ∷ judged (bytes "drawer is home,")
    ∷ judged (bytes "drawr is home")
    ∷ judged (bytes "drawer lift ->")
    ∷ judged (bytes "drawer lift -> stage | busy")
    ∷ judged (bytes "drawer lift -> stage, drawer")
    ∷ judged (bytes "drawer lfit -> stage")
    ∷ judged (bytes "drawer lift stage")
    ∷ judged (bytes "never home shown")
    ∷ judged (bytes "eventually busy")
    ∷ judged (bytes "whenever shown home")
    ∷ judged (bytes "whenever shown then home, shown")
    ∷ judged (bytes "shown before lit")
    ∷ [])
    (false ∷ false ∷ false ∷ false ∷ false ∷ false ∷ false ∷ false ∷ false ∷ false ∷ false ∷ false ∷ false ∷ false ∷ false ∷ [])
unfolding class in_word glue words same_word index_of fits listing over sole then_sole whole_clause whole_facts whole_move whole_rest whole_line
not_one_by_one = refl
