-- The laws of quoting a word: one byte more as it is shown, and the first 64 letters.
use Prim.Native.Nat.{ℕ, ◌+◌, ◌<◌, min}
use mathlib.Core.List.{List, [], ◌∷◌}
use mathlib.Core.Path.{◌≡◌, subst, sym}
use Rattle.std.specs.Prelude.{map}
use lib.ListN.{length, take, get_or}
use Rattle.std.proofs.lemmas.List.{map_more, take_min}
use Rattle.text.proofs.Putting.{puts_then}
use Rattle.text.specs.declared.Line.{Line}
use Rattle.text.specs.Puts.{Puts}
use native.Mathlib.Omega.{arith}
use Rattle.faults.specs.Telling.{shown}

-- the loop that puts a word byte by byte as it is shown: one turn
pub shown_more : {l m n : Line} {x : ℕ} (w : List ℕ) (i : ℕ) → i < length w → Puts l (map shown (take i w)) m → x ≡ shown (get_or w i 0)
    → Puts m (x ∷ []) n → Puts l (map shown (take (i + 1) w)) n
shown_more {n = n} w i h a e b = rw (map_more shown w i 0 h, sym e) (puts_then a b)

-- as many letters as a word has, and 64 at most, are its first 64
pub shown_first : {l m : Line} (w : List ℕ) {k : ℕ} → k ≡ min (length w) 64 → Puts l (map shown (take k w)) m → Puts l (map shown (take 64 w)) m
shown_first {l} {m} w {k} e p =
    let same : k ≡ min 64 (length w) = omega (arith, e) in
    let first : take k w ≡ take 64 w = rw same (take_min 64 w) in
    subst (λ (t : List ℕ). Puts l (map shown t) m) first p
