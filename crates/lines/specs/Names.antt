-- Names: those that a text lists after a key, a table of where they stand, and the first that is spelt like a word.
use Rattle.std.specs.Prelude.{ℕ, zero, suc, ◌+◌, ◌*◌, ◌≤◌, ◌<◌, cond, ◌&&◌, List, [], ◌∷◌, ◌++◌, ◌≡◌, ltb, length, get_or, Option, unwrap_or}
use Rattle.lines.specs.Words.{part, same_word, lines}

-- the mark after a key, and the words that a line lists after a key and this mark
abbrev pub colon : List ℕ
colon = 58 ∷ []

unfoldable pub after_key : List ℕ → List (List ℕ) → List (List ℕ)
after_key key [] = []
after_key key (k ∷ []) = []
after_key key (k ∷ (c ∷ ws)) = cond (same_word k key && same_word c colon) ws []

-- names put to those of a table one after the other, as many as it has room for
abbrev pub push : ℕ → List (List ℕ) → List ℕ → List (List ℕ)
push room names w = cond (ltb (length names) room) (names ++ (w ∷ [])) names

unfoldable pub pushes : ℕ → List (List ℕ) → List (List ℕ) → List (List ℕ)
pushes room names [] = names
pushes room names (w ∷ ws) = pushes room (push room names w) ws

unfoldable pub listed : ℕ → List ℕ → List (List ℕ) → List (List (List ℕ)) → List (List ℕ)
listed room key names [] = names
listed room key names (l ∷ ls) = listed room key (pushes room names (after_key key l)) ls

-- the names that a text lists after a key: the first of them, so many as there is room for
abbrev pub names : ℕ → List ℕ → List ℕ → List (List ℕ)
names room key t = listed room key [] (lines t)

-- A table of names: of name k its first byte in a text, and where it ends.
abbrev pub name : List ℕ → List ℕ → ℕ → List ℕ
name t spans k = part t (get_or spans (2 * k) 0) (get_or spans (2 * k + 1) 0)

unfoldable pub table_from : List ℕ → List ℕ → ℕ → ℕ → List (List ℕ)
table_from t spans k zero = []
table_from t spans k (suc n) = name t spans k ∷ table_from t spans (suc k) n

abbrev pub table : List ℕ → List ℕ → ℕ → List (List ℕ)
table t spans n = table_from t spans 0 n

-- the n names of the table lie in the text
pub record Lie (t spans : List ℕ) (n : ℕ) : Type 0 where
  pub room : 2 * n ≤ length spans
  pub order : (k : ℕ) → k < n → get_or spans (2 * k) 0 ≤ get_or spans (2 * k + 1) 0
  pub inside : (k : ℕ) → k < n → get_or spans (2 * k + 1) 0 ≤ length t

-- the number of the first name that is spelt like the word, or how many names there are
unfoldable pub index_of : List (List ℕ) → List ℕ → ℕ
index_of [] w = 0
index_of (x ∷ xs) w = cond (same_word x w) 0 (suc (index_of xs w))

-- the number that was found, or how many there are where none was
abbrev pub found : Option ℕ → ℕ → ℕ
found o n = unwrap_or o n

-- A table after names were put to it: it holds these names, and its length is as it was.
pub record Holds (t before after : List ℕ) (n : ℕ) (held : List (List ℕ)) : Type 0 where
  pub as_long : length after ≡ length before
  pub lie : Lie t after n
  pub holds : table t after n ≡ held
