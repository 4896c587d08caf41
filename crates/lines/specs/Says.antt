-- What a line says: the moves of a state and an action, and the facts of a state. States and actions go by their names.
use Rattle.std.specs.Prelude.{ℕ, ◌+◌, ◌*◌, Bool, false, cond, ◌&&◌, ◌||◌, List, [], ◌∷◌, eqb, ltb, length}
use Rattle.lines.specs.Words.{same_word}
use Rattle.lines.specs.Names.{index_of}

-- some of the list passes
unfoldable pub some_of : {A : Type 0} → (A → Bool) → List A → Bool
some_of f [] = false
some_of f (x ∷ xs) = f x || some_of f xs

-- a word is name x of the list, and j is base + x
abbrev pub adds : List (List ℕ) → ℕ → ℕ → List ℕ → Bool
adds names base j w = ltb (index_of names w) (length names) && eqb j (base + index_of names w)

-- j is base + x for some word that is name x
abbrev pub names_some : List (List ℕ) → ℕ → ℕ → List (List ℕ) → Bool
names_some names base j ws = some_of (adds names base j) ws

-- the words -> and is
abbrev pub arrow : List ℕ
arrow = 45 ∷ (62 ∷ [])

abbrev pub is : List ℕ
is = 105 ∷ (115 ∷ [])

-- a state, an action and an outcome as one number: what it is for outcome 0, and for each
abbrev pub row : ℕ → ℕ → ℕ
row s a = (s * 16 + a) * 512

abbrev pub number : ℕ → ℕ → ℕ → ℕ
number s a t = row s a + t

-- the words begin with the key, and some word after it is a name for which j is base + x
unfoldable pub says_after : List ℕ → List (List ℕ) → ℕ → ℕ → List (List ℕ) → Bool
says_after key names base j [] = false
says_after key names base j (k ∷ ws) = cond (same_word k key) (names_some names base j ws) false

-- of state s, an action, an arrow, and outcomes
unfoldable pub says_action : List (List ℕ) → List (List ℕ) → ℕ → ℕ → List (List ℕ) → Bool
says_action states actions s j [] = false
says_action states actions s j (a ∷ ws) =
    cond (ltb (index_of actions a) (length actions)) (says_after arrow states (row s (index_of actions a)) j ws) false

-- The line says the move j: a state, an action, an arrow, and outcomes among which the move's is.
unfoldable pub says_move : List (List ℕ) → List (List ℕ) → ℕ → List (List ℕ) → Bool
says_move states actions j [] = false
says_move states actions j (s ∷ ws) =
    cond (ltb (index_of states s) (length states)) (says_action states actions (index_of states s) j ws) false

-- The line says j of a state, 8·s + shift + i where it says fact i of state s: a state, the word is, and facts among which it is.
unfoldable pub says_fact : List (List ℕ) → List (List ℕ) → ℕ → ℕ → List (List ℕ) → Bool
says_fact states facts shift j [] = false
says_fact states facts shift j (s ∷ ws) =
    cond (ltb (index_of states s) (length states)) (says_after is facts (8 * index_of states s + shift) j ws) false
