-- The lines that the programs print, as lists of bytes: document 01, "One plate, whole", and document 02's record of a refusal.
use Rattle.std.specs.Prelude.{ℕ, zero, suc, ◌+◌, ◌/◌, ◌%◌, Bool, cond, ◌||◌, List, [], ◌∷◌, ◌++◌, map, ltb, eqb}
use Prim.Native.Char.{code}
use Prim.Native.String as string
use Prim.Native.String.{String}
use Rattle.rules.specs.Fault.{Fault}

-- the decimal text of n where it has at most as many digits as there are turns: those before the last, and the last
unfoldable pub decimal_in : ℕ → ℕ → List ℕ
decimal_in zero n = []
decimal_in (suc turns) n = cond (ltb n 10) ((48 + n) ∷ []) (decimal_in turns (n / 10) ++ ((48 + n % 10) ∷ []))

-- the decimal text of n, with no zero in front
unfoldable pub decimal : ℕ → List ℕ
unfolding decimal_in
decimal n = decimal_in (suc n) n

-- the bytes of a text in ASCII
abbrev pub bytes : String → List ℕ
bytes string.[] = []
bytes (string.◌∷◌ c s) = code c ∷ bytes s

-- the word of a value
abbrev pub value_word : ℕ → List ℕ
value_word zero = bytes "losing"
value_word (suc zero) = bytes "pending"
value_word (suc (suc v)) = bytes "winning"

-- the action, or "-" for 255, which names none
abbrev pub action_word : ℕ → List ℕ
action_word a = cond (eqb a 255) (bytes "-") (decimal a)

-- the words that follow another, each after a space, and the line feed
abbrev pub rest_of_line : List (List ℕ) → List ℕ
rest_of_line [] = bytes "\n"
rest_of_line (w ∷ ws) = bytes " " ++ (w ++ rest_of_line ws)

-- a line: its first word and the others, a space between two, and a line feed
abbrev pub line_of : List ℕ → List (List ℕ) → List ℕ
line_of w ws = w ++ rest_of_line ws

-- the line of a place: state, goal state, value, action or "-", number
abbrev pub entry_line : (state goal value action number : ℕ) → List ℕ
entry_line s q v a n = line_of (decimal s) (decimal q ∷ value_word v ∷ action_word a ∷ decimal n ∷ [])

-- the first line: the word start, state, goal state, value of the starting place
abbrev pub start_line : (state goal value : ℕ) → List ℕ
start_line s q v = line_of (bytes "start") (decimal s ∷ decimal q ∷ value_word v ∷ [])

-- 12 and 13 name a record, and no other number does
abbrev pub names_record : Fault → Bool
names_record f = eqb f.number 12 || eqb f.number 13

-- the record that is named, if one is
abbrev pub record_named : Fault → List ℕ
record_named f = cond (names_record f) (f.«record» ∷ []) []

-- the line of a refusal: the word refused, its number, and the record that it names
abbrev pub refusal_line : Fault → List ℕ
refusal_line f = line_of (bytes "refused") (map decimal (f.number ∷ record_named f))
