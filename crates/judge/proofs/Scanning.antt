-- The scan of a line: what is put of its numbers so far, and the number that is being read.
use Prim.Native.Nat.{ℕ, suc, ◌+◌, ◌-◌, ◌*◌, ◌≤◌, ◌<◌}
use mathlib.Core.Bool.{Bool, true, false, cond}
use mathlib.Core.List.{List, [], ◌∷◌, ◌++◌, map, map-append, append_assoc}
use mathlib.Core.Path.{◌≡◌, refl, sym, ap, ap₂, ◌∙◌, subst}
use mathlib.Core.Logic.Iff
use native.Mathlib.Nat.{zero-add}
use native.Mathlib.Numerals.{add-one}
use native.Mathlib.Omega.{arith}
use borrow.Author.Tests.{leb-true}
use lib.Dec.{leb}
use lib.ListN.{length, get_or, take, drop, length-take, length-drop, drop_of_length-le}
use lib.Seq.{take_all, drop-cons, length-take-le, take-append_seam}
use Rattle.std.specs.List.{slice_range}
use Rattle.io.specs.Counts.{IsPrefixLen}
use Rattle.game.proofs.Tests.{and_iff}
use Rattle.text.specs.declared.Line.{Line}
use Rattle.text.specs.PutText.{PutText}
use Rattle.text.specs.Puts.{Puts}
use Rattle.text.proofs.Putting.{put_length, puts_none, puts_then}
use Rattle.judge.specs.Lines.{digit, held, ended, grown, numbers_from, numbers, index_of, capped}

pub record Scanned (line : List ℕ) (before : Line) (i : ℕ) (out : Line) (inside : Bool) (value : ℕ) : Type 0 where
  pub word : List ℕ
  pub number : ℕ
  pub put : Puts before word out
  pub shown : value ≡ capped number
  pub left : word ++ map capped (numbers_from inside number (drop i line)) ≡ map capped (numbers line)

pub scanned_none : (line : List ℕ) (before : Line) → Scanned line before 0 before false 0
scanned_none line before = record { word = []; number = 0; put = puts_none before; shown = refl; left = refl }

-- a number that is too large for a byte stays so
capped_grown : (n c : ℕ) → capped (grown (capped n) c) ≡ capped (grown n c)
capped_grown n c = go (digit c)
  where
    go : (x : Bool) → capped (cond x (10 * capped n + (c - 48)) 0) ≡ capped (cond x (10 * n + (c - 48)) 0)
    go true = omega arith
    go false = refl

capped_held : (inside : Bool) (n : ℕ) → map capped (held inside n) ≡ held inside (capped n)
capped_held true n = refl
capped_held false n = refl

capped_ended : (inside : Bool) (n c : ℕ) → map capped (ended inside n c) ≡ ended inside (capped n) c
capped_ended inside n c = go (digit c)
  where
    go : (x : Bool) → map capped (cond x [] (held inside n)) ≡ cond x [] (held inside (capped n))
    go true = refl
    go false = capped_held inside n

module _ {line : List ℕ} {before out : Line} {i : ℕ} {inside : Bool} {value : ℕ} (s : Scanned line before i out inside value) where
  -- one byte more
  pub scanned_more : {out' : Line} → i < length line → Puts out (ended inside value (get_or line i 0)) out'
      → Scanned line before (i + 1) out' (digit (get_or line i 0)) (capped (grown value (get_or line i 0)))
  unfolding numbers_from
  scanned_more h p =
      let c = get_or line i 0 in
      let n = s.number in
      let rest = numbers_from (digit c) (grown n c) (drop (i + 1) line) in
      let opened : drop i line ≡ c ∷ drop (i + 1) line = drop-cons line i 0 h ∙ rw (add-one i) in
      let is : map capped (numbers_from inside n (drop i line)) ≡ ended inside value c ++ map capped rest =
      ap (λ (w : List ℕ). map capped (numbers_from inside n w)) opened ∙ map-append capped (ended inside n c) rest
      ∙ ap (λ (w : List ℕ). w ++ map capped rest) (capped_ended inside n c ∙ ap (λ (v : ℕ). ended inside v c) (sym s.shown)) in
      record {
        word = s.word ++ ended inside value c;
        number = grown n c;
        put = puts_then s.put p;
        shown = ap (λ (v : ℕ). capped (grown v c)) s.shown ∙ capped_grown n c;
        left = append_assoc s.word (ended inside value c) (map capped rest) ∙ ap (λ (w : List ℕ). s.word ++ w) (sym is) ∙ s.left;
      }

  -- the end of the line
  pub scanned_all : {out' : Line} → length line ≤ i → Puts out (held inside value) out'
      → Puts before (map capped (numbers line)) out'
  unfolding numbers_from
  scanned_all {out'} h p =
      let is : map capped (numbers_from inside s.number (drop i line)) ≡ held inside value =
      ap (λ (w : List ℕ). map capped (numbers_from inside s.number w)) (drop_of_length-le line h) ∙ capped_held inside s.number
      ∙ ap (held inside) (sym s.shown) in
      subst (λ (w : List ℕ). Puts before w out') (ap (λ (w : List ℕ). s.word ++ w) (sym is) ∙ s.left) (puts_then s.put p)

-- what is put at the beginning of a buffer is counted inside it, and is as much of the text as it has room for
pub put_counts : {out w left : List ℕ} {n : ℕ} → PutText out 0 w left n → IsPrefixLen n left
put_counts {out} {w} {left} {n} p =
    let few : n ≤ length left = omega (arith, p.position, put_length p) in (few, sym (length-take-le n left few))

pub put_kept : {out w left : List ℕ} {n : ℕ} → PutText out 0 w left n → take n left ≡ take (length out) w
put_kept {out} {w} {left} {n} p =
    let most : length out - 0 ≡ length out = omega arith in
    let rest = drop (0 + length w) out in
    let is : left ≡ take (length out) w ++ rest = p.bytes ∙ rw most in
    let count : n ≡ length (take (length out) w) = omega (arith, p.position, length-take (length out) w) in
    ap₂ take count is ∙ take-append_seam (take (length out) w) rest

-- ---- digits, and where lines end

pub digit_within : (c : ℕ) → digit c ≡ true → (48 ≤ c) × (c ≤ 57)
digit_within c e =
    let z : (leb 48 c ≡ true) × (leb c 57 ≡ true) = (and_iff Iff.rfl Iff.rfl).0 e in (leb-true 48 c z.0, leb-true c 57 z.1)

pub grown_small : (v c : ℕ) → digit c ≡ true → v * 10 + (c - 48) < 255 → v * 10 + (c - 48) ≡ capped (grown v c)
grown_small v c e h = rw e (omega arith)

pub grown_large : (v c : ℕ) → digit c ≡ true → 255 ≤ v * 10 + (c - 48) → 255 ≡ capped (grown v c)
grown_large v c e h = rw e (omega arith)

pub drop_past : (b : List ℕ) (e : ℕ) → length b ≤ e → drop e b ≡ drop (suc e) b
drop_past b e h = let l : length b ≤ suc e = omega arith in drop_of_length-le b h ∙ sym (drop_of_length-le b l)

-- what is lent from a byte on
pub part_rest : (b : List ℕ) (a : ℕ) → take (length b - a) (drop a b) ≡ drop a b
part_rest b a = take_all (length b - a) (drop a b) (omega (arith, length-drop a b))

-- the first line of a text ends where that of its whole range does
pub index_whole : (b : List ℕ) → 0 + index_of 10 (slice_range b 0 (length b)) ≡ index_of 10 b
index_whole b = zero-add _ ∙ ap (index_of 10) (part_rest b 0)
