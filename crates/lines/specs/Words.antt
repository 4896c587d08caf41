-- The words of a line, and the lines of a text.
use Rattle.std.specs.Prelude.{ℕ, suc, ◌+◌, ◌-◌, ◌≤◌, ◌<◌, Bool, true, false, cond, ◌&&◌, ◌||◌, List, [], ◌∷◌, ◌≡◌, eqb, leb, length, take, drop}
use Rattle.lines.specs.declared.word.Class.{Class}

-- A byte's class. 0, a blank: a space, a tab or a carriage return. 1, where a line's words end: a line feed, or the # of a remark.
-- 2, a mark, a word by itself: a colon, a bar or a comma. 3, a letter: every other byte.
unfoldable pub class : ℕ → ℕ
class b =
    cond (eqb b 32 || (eqb b 9 || eqb b 13)) 0
    (cond (eqb b 10 || eqb b 35) 1
    (cond (eqb b 58 || (eqb b 124 || eqb b 44)) 2
    3))

-- the number of a class
abbrev pub class_number : Class → ℕ
class_number Class.Blank = 0
class_number Class.End = 1
class_number Class.Mark = 2
class_number Class.Letter = 3

abbrev pub is_letter : ℕ → Bool
is_letter b = eqb (class b) 3

-- a letter begins these bytes
unfoldable pub in_word : List ℕ → Bool
in_word [] = false
in_word (b ∷ bs) = is_letter b

-- a letter before the words of what follows it: it begins the first of them where that follows at once, and is a word by itself otherwise
unfoldable pub glue : ℕ → Bool → List (List ℕ) → List (List ℕ)
glue b true [] = (b ∷ []) ∷ []
glue b true (w ∷ ws) = (b ∷ w) ∷ ws
glue b false ws = (b ∷ []) ∷ ws

-- the words of a line, from these bytes on up to where the line's words end: longest runs of letters, and marks
unfoldable pub words : List ℕ → List (List ℕ)
words [] = []
words (b ∷ bs) =
    cond (is_letter b) (glue b (in_word bs) (words bs))
    (cond (eqb (class b) 2) ((b ∷ []) ∷ words bs)
    (cond (eqb (class b) 0) (words bs)
    []))

-- the words of each line that begins after a line feed, and of every line of a text
unfoldable pub lines_after : List ℕ → List (List (List ℕ))
lines_after [] = []
lines_after (b ∷ bs) = cond (eqb b 10) (words bs ∷ lines_after bs) (lines_after bs)

abbrev pub lines : List ℕ → List (List (List ℕ))
lines t = words t ∷ lines_after t

-- the words of the lines from a line's beginning on; past the end of the text there is no line
abbrev pub lines_from : List ℕ → ℕ → List (List (List ℕ))
lines_from t at = cond (leb at (length t)) (lines (drop at t)) []

-- how many bytes of a class these bytes begin with
unfoldable pub run : ℕ → List ℕ → ℕ
run c [] = 0
run c (b ∷ bs) = cond (eqb (class b) c) (suc (run c bs)) 0

-- how many letters these bytes begin with, and how many blanks
abbrev pub letters : List ℕ → ℕ
letters = run 3

abbrev pub blanks : List ℕ → ℕ
blanks = run 0

-- the bytes from start to end
abbrev pub part : List ℕ → ℕ → ℕ → List ℕ
part t start end = take (end - start) (drop start t)

-- From a position on, the next word of the line lies from start to end; where these are the same, no word follows.
pub record NextWord (t : List ℕ) (at start end : ℕ) : Type 0 where
  pub forward : at ≤ start
  pub order : start ≤ end
  pub inside : end ≤ length t
  pub said : words (drop at t) ≡ cond (eqb start end) [] (part t start end ∷ words (drop end t))

-- From a line's beginning on, the next line begins at r, or beyond the text where none follows.
pub record NextLine (t : List ℕ) (at r : ℕ) : Type 0 where
  pub forward : at < r
  pub inside : r ≤ length t + 1
  pub said : lines_from t at ≡ words (drop at t) ∷ lines_from t r

-- two words are the same
unfoldable pub same_word : List ℕ → List ℕ → Bool
same_word [] [] = true
same_word [] (y ∷ ys) = false
same_word (x ∷ xs) [] = false
same_word (x ∷ xs) (y ∷ ys) = eqb x y && same_word xs ys
