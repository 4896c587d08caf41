-- No word of a line of facts, of moves or of a clause is skipped: each is a name, or the word or mark that has to stand there.
use Rattle.std.specs.Prelude.{ℕ, Bool, true, false, cond, ◌&&◌, ◌||◌, List, [], ◌∷◌, ltb, length}
use Rattle.text.specs.Lines.{bytes}
use Rattle.lines.specs.Words.{same_word}
use Rattle.lines.specs.Names.{colon, index_of}
use Rattle.lines.specs.Says.{arrow, is}

-- ---- names

-- the word is one of these names
abbrev pub known : List (List ℕ) → List ℕ → Bool
known names w = ltb (index_of names w) (length names)

-- the word is one of these names, or the other word that may stand for a name
unfoldable pub fits : List (List ℕ) → List ℕ → List ℕ → Bool
fits names also w = same_word w also || known names w

-- Names up to the end, at least one, and a mark between each and the next; another word may stand in place of a name. The Bool tells that a
-- name is due.
unfoldable pub listing : List (List ℕ) → List ℕ → List ℕ → Bool → List (List ℕ) → Bool
listing names also mark true [] = false
listing names also mark false [] = true
listing names also mark true (w ∷ ws) = fits names also w && listing names also mark false ws
listing names also mark false (w ∷ ws) = same_word w mark && listing names also mark true ws

-- ---- clauses

-- no word follows
unfoldable pub over : List (List ℕ) → Bool
over [] = true
over (w ∷ ws) = false

-- one word follows, and it is one of these facts
unfoldable pub sole : List (List ℕ) → List (List ℕ) → Bool
sole facts [] = false
sole facts (w ∷ ws) = known facts w && over ws

-- the word then follows, and after it one of these facts alone
unfoldable pub then_sole : List (List ℕ) → List (List ℕ) → Bool
then_sole facts [] = false
then_sole facts (w ∷ ws) = same_word w (bytes "then") && sole facts ws

-- A whole clause with these first two words, and these after them: "eventually F", "never F", "whenever F then G" or "F before G".
unfoldable pub whole_clause : List (List ℕ) → List ℕ → List ℕ → List (List ℕ) → Bool
whole_clause facts a b ws =
    cond (same_word a (bytes "eventually")) (known facts b && over ws)
    (cond (same_word a (bytes "never")) (known facts b && over ws)
    (cond (same_word a (bytes "whenever")) (known facts b && then_sole facts ws)
    (cond (same_word b (bytes "before")) (known facts a && sole facts ws)
    false)))

-- ---- lines

-- a state, the word is, and facts with commas between them, or busy in place of a fact
unfoldable pub whole_facts : List (List ℕ) → List (List ℕ) → List ℕ → List (List ℕ) → Bool
whole_facts states facts a ws = known states a && listing facts (bytes "busy") (bytes ",") true ws

-- A state, an action, an arrow, and outcomes with bars between them. Nothing stands for an outcome: no word of a line is empty.
unfoldable pub whole_move : List (List ℕ) → List (List ℕ) → List ℕ → List ℕ → List (List ℕ) → Bool
whole_move states actions a b ws = known states a && (known actions b && listing states [] (bytes "|") true ws)

-- a line with these first two words, and these after them: a move where an arrow stands third, and a clause otherwise
unfoldable pub whole_rest : List (List ℕ) → List (List ℕ) → List (List ℕ) → List ℕ → List ℕ → List (List ℕ) → Bool
whole_rest states actions facts a b [] = whole_clause facts a b []
whole_rest states actions facts a b (w ∷ ws) = cond (same_word w arrow) (whole_move states actions a b ws) (whole_clause facts a b (w ∷ ws))

-- No word of the line is skipped. A line with a colon second, which has a key or is a row, is not judged here; every other line that has
-- words is one of facts, of moves or of a clause, and whole.
unfoldable pub whole_line : List (List ℕ) → List (List ℕ) → List (List ℕ) → List (List ℕ) → Bool
whole_line states actions facts [] = true
whole_line states actions facts (a ∷ []) = false
whole_line states actions facts (a ∷ (b ∷ ws)) =
    cond (same_word b colon) true
    (cond (same_word b is) (whole_facts states facts a ws)
    (whole_rest states actions facts a b ws))

-- each of the list passes
unfoldable pub every_of : {A : Type 0} → (A → Bool) → List A → Bool
every_of f [] = true
every_of f (x ∷ xs) = f x && every_of f xs

-- no word of these lines is skipped
abbrev pub whole : List (List ℕ) → List (List ℕ) → List (List ℕ) → List (List (List ℕ)) → Bool
whole states actions facts ls = every_of (whole_line states actions facts) ls
