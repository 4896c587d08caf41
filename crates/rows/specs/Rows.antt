-- What a text's lines say of a goal's table: where its rows lead, which goal states are final, and its body in bytes.
use Rattle.std.specs.Prelude.{ℕ, ◌+◌, ◌*◌, ◌^◌, ◌<◌, Bool, true, false, cond, not, ◌&&◌, List, [], ◌∷◌, ◌≡◌, eqb, ltb, length, get_or}
use Rattle.sets.specs.Sets.{bit, one}
use Rattle.text.specs.Lines.{bytes}
use Rattle.lines.specs.Words.{same_word}
use Rattle.lines.specs.Names.{colon, after_key, index_of}
use Rattle.lines.specs.Says.{some_of, names_some, arrow}

-- the mark between the facts of a row, and the word before one that must not be true
abbrev pub comma : List ℕ
comma = bytes ","

abbrev pub not_word : List ℕ
not_word = bytes "not"

-- the fact that a word names is true of the label
abbrev pub holds : List (List ℕ) → ℕ → List ℕ → Bool
holds facts l w = bit l (index_of facts w)

-- the label is as the row wants it: the fact is true of it, or not true where "not" came before the fact
abbrev pub suits : List (List ℕ) → ℕ → Bool → List ℕ → Bool
suits facts l ban w = cond ban (not (holds facts l w)) (holds facts l w)

-- the goal state that the first of the words names, or how many goal states there are
unfoldable pub to_goal : List (List ℕ) → List (List ℕ) → ℕ
to_goal goals [] = length goals
to_goal goals (w ∷ ws) = index_of goals w

-- Where a row leads under a label, from its words after the colon: to the goal state after the arrow, where each fact before the arrow is
-- true of the label, and each after "not" is not. Commas stand between facts, and "not" is for one fact alone. Where the row does not
-- fit, it is how many goal states there are.
unfoldable pub aim : List (List ℕ) → List (List ℕ) → ℕ → Bool → List (List ℕ) → ℕ
aim facts goals l ban [] = length goals
aim facts goals l ban (w ∷ ws) =
    cond (same_word w arrow) (to_goal goals ws)
    (cond (same_word w comma) (aim facts goals l false ws)
    (cond (same_word w not_word) (aim facts goals l true ws)
    (cond (suits facts l ban w) (aim facts goals l false ws)
    (length goals))))

-- Where a line leads from goal state q, if it is a row of it: its first word names the goal state, and its second is a colon.
unfoldable pub row_aim : List (List ℕ) → List (List ℕ) → ℕ → ℕ → List (List ℕ) → ℕ
row_aim facts goals q l [] = length goals
row_aim facts goals q l (k ∷ []) = length goals
row_aim facts goals q l (k ∷ (c ∷ ws)) =
    cond (same_word c colon && eqb (index_of goals k) q) (aim facts goals l false ws) (length goals)

-- where the first row leads that fits, or how many goal states there are
unfoldable pub first_aim : List (List ℕ) → List (List ℕ) → ℕ → ℕ → List (List (List ℕ)) → ℕ
first_aim facts goals q l [] = length goals
first_aim facts goals q l (x ∷ xs) =
    cond (ltb (row_aim facts goals q l x) (length goals)) (row_aim facts goals q l x) (first_aim facts goals q l xs)

-- The next goal state for goal state q under a label: by the first row that fits, and where none does the goal state stays.
unfoldable pub next_said : List (List ℕ) → List (List ℕ) → List (List (List ℕ)) → ℕ → ℕ → ℕ
next_said facts goals ls q l = cond (ltb (first_aim facts goals q l ls) (length goals)) (first_aim facts goals q l ls) q

-- Goal state q is final: some line with the key final names it.
abbrev pub final_line : List (List ℕ) → ℕ → List (List ℕ) → Bool
final_line goals q x = names_some goals 0 q (after_key (bytes "final") x)

unfoldable pub final_said : List (List ℕ) → List (List (List ℕ)) → ℕ → Bool
final_said goals ls q = some_of (final_line goals q) ls

-- how many bytes the table's body has for p facts: Q·2^P + Q
abbrev pub table_size : List (List ℕ) → ℕ → ℕ
table_size goals p = length goals * 2 ^ p + length goals

-- The table's body in bytes, as document 01 has a Goal body: the next goal states for goal state 0 under labels 0, 1, .., then for goal
-- state 1, and so on; then a mark for each goal state, 1 final or 0 not.
pub record TableBody (facts goals : List (List ℕ)) (ls : List (List (List ℕ))) (p : ℕ) (g : List ℕ) : Type 0 where
  pub long : length g ≡ table_size goals p
  pub rows : (q l : ℕ) → q < length goals → l < 2 ^ p → get_or g (q * 2 ^ p + l) 0 ≡ next_said facts goals ls q l
  pub marks : (q : ℕ) → q < length goals → get_or g (length goals * 2 ^ p + q) 0 ≡ one (final_said goals ls q)
