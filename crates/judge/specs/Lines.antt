-- Lines of numbers: decimal numbers with blanks between them.
use Rattle.std.specs.Prelude.{ℕ, suc, ◌+◌, ◌-◌, ◌*◌, min, Bool, true, false, Option, Some, None, cond, ◌&&◌, ◌||◌, List, [], ◌∷◌, ◌++◌, leb, eqb, length, get_or, take, drop}
use Rattle.std.specs.List.{position_or_len}
use Rattle.game.specs.Below.{every_below}

abbrev pub digit : ℕ → Bool
digit c = leb 48 c && leb c 57

-- a space, a tab, or the carriage return that some editors put before a line feed
abbrev pub blank : ℕ → Bool
blank c = eqb c 32 || (eqb c 9 || eqb c 13)

-- a line is a list of numbers where it has digits and blanks alone
abbrev pub is_list : List ℕ → Bool
is_list w = every_below (length w) (λ i. digit (get_or w i 0) || blank (get_or w i 0))

-- the number that is being read when a line ends, if one is
abbrev pub held : Bool → ℕ → List ℕ
held inside n = cond inside (n ∷ []) []

-- the number that is being read, as the program holds it: whether there is one, and which
abbrev pub inside : Option ℕ → Bool
inside None = false
inside (Some n) = true

abbrev pub value : Option ℕ → ℕ
value None = 0
value (Some n) = n

-- a byte that is no digit ends it
abbrev pub ended : Bool → ℕ → ℕ → List ℕ
ended inside n c = cond (digit c) [] (held inside n)

-- a digit goes on with it
abbrev pub grown : ℕ → ℕ → ℕ
grown n c = cond (digit c) (10 * n + (c - 48)) 0

-- the numbers of a line that is left, where n is the number that is being read, if one is
unfoldable pub numbers_from : Bool → ℕ → List ℕ → List ℕ
numbers_from inside n [] = held inside n
numbers_from inside n (c ∷ cs) = ended inside n c ++ numbers_from (digit c) (grown n c) cs

-- the numbers of a line
abbrev pub numbers : List ℕ → List ℕ
numbers w = numbers_from false 0 w

-- the place of the first c, or the length where there is none
abbrev pub index_of : ℕ → List ℕ → ℕ
index_of c b = position_or_len (λ x. eqb x c) b

-- the first line, without its line feed; what comes after it
abbrev pub first_line : List ℕ → List ℕ
first_line b = take (index_of 10 b) b

abbrev pub after_line : List ℕ → List ℕ
after_line b = drop (suc (index_of 10 b)) b

-- a number as a byte: one that is too large for a byte is 255, which is no node of a formula and no label
abbrev pub capped : ℕ → ℕ
capped n = min 255 n
