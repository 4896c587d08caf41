-- What a text's lines say of the start, of the first goal state, and of the clauses of the goal.
use Rattle.std.specs.Prelude.{ℕ, Bool, false, cond, ◌||◌, List, [], ◌∷◌, ◌++◌, length}
use Rattle.text.specs.Lines.{bytes}
use Rattle.lines.specs.Words.{same_word}
use Rattle.lines.specs.Names.{colon, after_key, index_of}
use Rattle.lines.specs.Says.{arrow, is}

-- ---- the start, and the first goal state

-- the number of the name that the first of these words is, or another number where there is no word
unfoldable pub named_first : List (List ℕ) → List (List ℕ) → ℕ → ℕ
named_first names [] other = other
named_first names (w ∷ ws) other = index_of names w

-- The number of the name that the first line with this key, a colon and a word after it names; how many names there are where the word is
-- none of them, or where there is no such line.
unfoldable pub given : List ℕ → List (List ℕ) → List (List (List ℕ)) → ℕ
given key names [] = length names
given key names (l ∷ ls) = named_first names (after_key key l) (given key names ls)

-- ---- clauses of the goal

-- the three bytes of a clause: its kind and two facts
abbrev pub three : ℕ → ℕ → ℕ → List ℕ
three kind a b = kind ∷ (a ∷ (b ∷ []))

-- the words begin with this one
unfoldable pub begins : List ℕ → List (List ℕ) → Bool
begins w [] = false
begins w (x ∷ xs) = same_word x w

-- "whenever F then G", from after F on, whose number is i
unfoldable pub whenever_said : List (List ℕ) → ℕ → List (List ℕ) → List ℕ
whenever_said facts i [] = []
whenever_said facts i (t ∷ []) = []
whenever_said facts i (t ∷ (c ∷ ws)) = cond (same_word t (bytes "then")) (three 2 i (index_of facts c)) []

-- "F before G", from after the word before on, where F has the number i
unfoldable pub before_said : List (List ℕ) → ℕ → List (List ℕ) → List ℕ
before_said facts i [] = []
before_said facts i (c ∷ ws) = three 3 i (index_of facts c)

-- what a clause with these first two words says, and these after them
unfoldable pub clause_of : List (List ℕ) → List ℕ → List ℕ → List (List ℕ) → List ℕ
clause_of facts a b ws =
    cond (same_word a (bytes "eventually")) (three 0 (index_of facts b) (index_of facts b))
    (cond (same_word a (bytes "never")) (three 1 (index_of facts b) (index_of facts b))
    (cond (same_word a (bytes "whenever")) (whenever_said facts (index_of facts b) ws)
    (cond (same_word b (bytes "before")) (before_said facts (index_of facts a) ws)
    [])))

-- a line with this second word and these after it is no clause: a colon or the word is stands second, or an arrow third
unfoldable pub no_clause : List ℕ → List (List ℕ) → Bool
no_clause b ws = same_word b colon || (same_word b is || begins arrow ws)

-- The clause that a line says, as the three bytes of a slip, or nothing: kind 0 eventually, 1 never, 2 whenever .. then, 3 before. Facts go
-- by their numbers; a word that is no fact has the number after the last, which no slip takes.
unfoldable pub clause_said : List (List ℕ) → List (List ℕ) → List ℕ
clause_said facts [] = []
clause_said facts (a ∷ []) = []
clause_said facts (a ∷ (b ∷ ws)) = cond (no_clause b ws) [] (clause_of facts a b ws)

-- the clauses that lines say, one after the other
unfoldable pub clauses_said : List (List ℕ) → List (List (List ℕ)) → List ℕ
clauses_said facts [] = []
clauses_said facts (l ∷ ls) = clause_said facts l ++ clauses_said facts ls
