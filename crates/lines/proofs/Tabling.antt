-- The laws of names that are read as a list: the search for one, and names put to a list.
use Rattle.std.proofs.Common.{◌≡◌, ℕ, ◌+◌, ◌≤◌, ◌<◌, length, get_or, drop, List, [], ◌∷◌, ◌&&◌, true, false, cond}
use Rattle.std.proofs.Math.Seq.{drop-cons}
use Rattle.std.proofs.Math.ListN.{drop_of_length-le}
use mathlib.Core.Path.{◌∙◌}
use native.Mathlib.Numerals.{add-one}
use native.Mathlib.Omega.{arith}
use Rattle.std.proofs.lemmas.List.{length-map}
use Rattle.lines.specs.Words.{same_word}
use Rattle.lines.specs.Tables.{names_of, count_of, name_at}
use Rattle.lines.specs.declared.names.Names.{Names}
use Rattle.lines.specs.Names.{index_of, push, pushes, after_key, listed, colon}

-- as many names as spans
pub names_counted : (n : Names) → length (names_of n) ≡ count_of n
names_counted n = length-map n.spans.now (name_at n.text.now)

-- ---- the search

pub found_here : (xs : List (List ℕ)) (w : List ℕ) (k : ℕ) → k < length xs → same_word (get_or xs k []) w ≡ true → index_of (drop k xs) w ≡ 0
unfolding index_of
found_here xs w k h e = rw (drop-cons xs k [] h, index_of, e)

pub found_later : (xs : List (List ℕ)) (w : List ℕ) (k : ℕ) → k < length xs → same_word (get_or xs k []) w ≡ false
    → index_of (drop k xs) w ≡ 1 + index_of (drop (k + 1) xs) w
unfolding index_of
found_later xs w k h e = rw (drop-cons xs k [] h, index_of, e, add-one k) (omega arith)

pub found_none : (xs : List (List ℕ)) (w : List ℕ) (k : ℕ) → length xs ≤ k → index_of (drop k xs) w ≡ 0
unfolding index_of
found_none xs w k h = rw (drop_of_length-le xs h)

-- ---- names put to a list

-- one word more is put
pub pushed : (n : ℕ) (a : List (List ℕ)) {b : List (List ℕ)} {w : List ℕ} {ws l : List (List ℕ)} → b ≡ push n a w → l ≡ w ∷ ws → pushes n b ws ≡ pushes n a l
unfolding pushes
pushed n a e f = rw (e, f)

-- no word is left
pub pushed_all : (n : ℕ) (a : List (List ℕ)) {l : List (List ℕ)} → l ≡ [] → pushes n a l ≡ a
unfolding pushes
pushed_all n a e = rw e

-- the words of one line more are put
pub listed_more : (n : ℕ) (key : List ℕ) (a : List (List ℕ)) {b l : List (List ℕ)} {ls all : List (List (List ℕ))}
    → b ≡ pushes n a (after_key key l) → all ≡ l ∷ ls → listed n key b ls ≡ listed n key a all
unfolding listed
listed_more n key a e f = rw (e, f)

pub listed_all : (n : ℕ) (key : List ℕ) (a : List (List ℕ)) {all : List (List (List ℕ))} → all ≡ [] → listed n key a all ≡ a
unfolding listed
listed_all n key a e = rw e

-- ---- what follows a key and a colon

pub key_none : (key : List ℕ) {l : List (List ℕ)} → l ≡ [] → after_key key l ≡ []
unfolding after_key
key_none key e = rw e

pub key_alone : (key : List ℕ) {l m : List (List ℕ)} {w : List ℕ} → l ≡ w ∷ m → m ≡ [] → after_key key l ≡ []
unfolding after_key
key_alone key e f = rw (e, f)

module _ (key : List ℕ) {l m r : List (List ℕ)} {w c : List ℕ} (e : l ≡ w ∷ m) (f : m ≡ c ∷ r) where
  both : after_key key l ≡ cond (same_word w key && same_word c colon) r []
  unfolding after_key
  both = rw (e, f)

  pub key_other : same_word w key ≡ false → after_key key l ≡ []
  key_other z = both ∙ rw z

  pub key_unmarked : same_word w key ≡ true → same_word c colon ≡ false → after_key key l ≡ []
  key_unmarked y z = both ∙ rw (y, z)

  pub key_listed : same_word w key ≡ true → same_word c colon ≡ true → after_key key l ≡ r
  key_listed y z = both ∙ rw (y, z)
