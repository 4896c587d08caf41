-- A bundle in bytes: a count, an offset and a length for each entry, and the entries in that order. Document 02, request 13, and its 23.
use Rattle.std.specs.Prelude.{ℕ, zero, suc, ◌+◌, ◌*◌, ◌≤◌, ◌<◌, Bool, cond, not, ◌&&◌, List, [], ◌∷◌, ◌≡◌, ltb, eqb, length, take, drop}
use Rattle.game.specs.Below.{every_below}
use Rattle.rules.specs.Form.{word}

-- a number of four bytes, low byte first
abbrev pub double : List ℕ → ℕ → ℕ
double b i = word b i + 65536 * word b (i + 2)

-- how many entries there are; the offset and the length of entry i; how long the contents are
abbrev pub entries : List ℕ → ℕ
entries b = word b 0

abbrev pub offset : List ℕ → ℕ → ℕ
offset b i = double b (2 + 8 * i)

abbrev pub size : List ℕ → ℕ → ℕ
size b i = double b (6 + 8 * i)

abbrev pub contents_size : ℕ → ℕ
contents_size n = 2 + 8 * n

-- where entry i is to begin: after the contents, or where the entry before it ends
abbrev pub due : List ℕ → ℕ → ℕ
due b zero = contents_size (entries b)
due b (suc i) = offset b i + size b i

-- The contents of a bundle are good: 1 to 64 entries, without gaps, and the bundle ends where the last one ends. Anything else is 23.
pub record Bundle (b : List ℕ) : Type 0 where
  pub counted : 2 ≤ length b
  pub some : 1 ≤ entries b
  pub few : entries b ≤ 64
  pub whole : contents_size (entries b) ≤ length b
  pub offsets : (i : ℕ) → i < entries b → offset b i ≡ due b i
  pub ends : length b ≡ due b (entries b)

-- the bytes of entry i, of n entries from i on, and of all
abbrev pub job : List ℕ → ℕ → List ℕ
job b i = take (size b i) (drop (offset b i) b)

abbrev pub jobs_from : List ℕ → ℕ → ℕ → List (List ℕ)
jobs_from b i zero = []
jobs_from b i (suc n) = job b i ∷ jobs_from b (suc i) n

abbrev pub jobs : List ℕ → List (List ℕ)
jobs b = jobs_from b 0 (entries b)

-- ---- the contents alone

-- how many entries the first two bytes count, or 0 where there are fewer bytes or too many entries
abbrev pub entries_counted : List ℕ → ℕ
entries_counted h = cond (ltb (length h) 2) 0 (cond (ltb 64 (entries h)) 0 (entries h))

-- each entry begins where it is due
abbrev pub in_order : List ℕ → Bool
in_order h = every_below (entries h) (λ i. eqb (offset h i) (due h i))

-- these bytes, the whole of them, are the contents of 1 to 64 entries without gaps
abbrev pub contents_fit : List ℕ → Bool
contents_fit h = not (eqb (entries_counted h) 0) && (eqb (length h) (contents_size (entries_counted h)) && in_order h)
