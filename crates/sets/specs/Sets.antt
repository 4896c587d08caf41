-- Sets as bits: propositions in a label byte, actions in 16 bits, places in words of 64.
use Rattle.std.specs.Prelude.{ℕ, zero, suc, ◌+◌, ◌*◌, ◌/◌, ◌%◌, ◌^◌, ◌<◌, Bool, true, false, ◌&&◌, ◌||◌, List, ◌≡◌, eqb, ltb, length, get_or}

-- bit k of n
abbrev pub bit : ℕ → ℕ → Bool
bit n k = eqb (n / 2 ^ k % 2) 1

-- how many words a set of places has, and how many places it has room for
abbrev pub set_words : ℕ
set_words = 256

abbrev pub set_room : ℕ
set_room = 64 * set_words

-- whether the set of places in the words ws has the place whose entry is i
abbrev pub member : List ℕ → ℕ → Bool
member ws i = bit (get_or ws (i / 64) 0) (i % 64)

abbrev pub one : Bool → ℕ
one true = 1
one false = 0

-- how many numbers below n pass the test
unfoldable pub count : (ℕ → Bool) → ℕ → ℕ
count f zero = 0
count f (suc n) = count f n + one (f n)

-- the words after are those before with the place i, where n words have room for it, and no word outgrows its 64 bits
pub record PutIn (n : ℕ) (before : List ℕ) (i : ℕ) (after : List ℕ) : Type 0 where
  pub as_long : length after ≡ length before
  pub in_bits : ((k : ℕ) → get_or before k 0 < 2 ^ 64) → (k : ℕ) → get_or after k 0 < 2 ^ 64
  pub members : (j : ℕ) → member after j ≡ (ltb i (64 * n) && eqb j i || member before j)

-- the same of a set of a job's places
abbrev pub Put : List ℕ → ℕ → List ℕ → Type 0
Put = PutIn set_words
