-- A text with two clauses, worked: the bytes of its slip, its start and its first goal state; and lines of every kind, each by itself.
use Prim.Native.Nat.{ℕ}
use mathlib.Core.List.{List, [], ◌∷◌}
use mathlib.Core.Path.{◌≡◌, refl}
use Rattle.text.specs.Lines.{bytes}
use Rattle.lines.specs.Words.{class, in_word, glue, words, lines_after, lines, same_word}
use Rattle.lines.specs.Names.{after_key, pushes, listed, names, index_of}
use Rattle.aims.specs.Aims.{named_first, given, three, begins, whenever_said, before_said}
use Rattle.aims.specs.Aims.{clause_of, no_clause, clause_said, clauses_said}

abbrev text : List ℕ
text = bytes "states: drawer stage\nfacts: shown home\nstart: stage\neventually shown\nshown before home\n"

-- "eventually shown" is 0 0 0, and "shown before home" 3 0 1
pub two_clauses : clauses_said (names 6 (bytes "facts") text) (lines text) ≡ 0 ∷ (0 ∷ (0 ∷ (3 ∷ (0 ∷ (1 ∷ [])))))
unfolding class in_word glue words lines_after same_word after_key pushes listed index_of begins before_said clause_of no_clause clause_said clauses_said
two_clauses = refl

-- the start is state 1; no line gives a first goal state, and there are none
pub starts : given (bytes "start") (names 512 (bytes "states") text) (lines text) ≡ 1
unfolding class in_word glue words lines_after same_word after_key pushes listed index_of named_first given
starts = refl

pub no_first : given (bytes "first") (names 32 (bytes "goal-states") text) (lines text) ≡ 0
unfolding class in_word glue words lines_after same_word after_key pushes listed index_of named_first given
no_first = refl

-- what a line says, where there are the facts shown and home
abbrev says : List ℕ → List ℕ
says l = clause_said (bytes "shown" ∷ (bytes "home" ∷ [])) (words l)

pub clauses_one_by_one :
    ◌≡◌ {A = List (List ℕ)}
    (says (bytes "eventually home")
    ∷ says (bytes "never home")
    ∷ says (bytes "whenever shown then home")
    ∷ says (bytes "home before shown")
    ∷ says (bytes "eventually lit")
    ∷ says (bytes "whenever shown home")
    ∷ says (bytes "whenever shown then")
    ∷ says (bytes "home before")
    ∷ says (bytes "never: home")
    ∷ says (bytes "never is home")
    ∷ says (bytes "never before -> home")
    ∷ says (bytes "eventually # home")
    ∷ [])
    (three 0 1 1
    ∷ three 1 1 1
    ∷ three 2 0 1
    ∷ three 3 1 0
    ∷ three 0 2 2
    ∷ []
    ∷ []
    ∷ []
    ∷ []
    ∷ []
    ∷ []
    ∷ []
    ∷ [])
unfolding class in_word glue words same_word index_of begins whenever_said before_said clause_of no_clause clause_said
clauses_one_by_one = refl
