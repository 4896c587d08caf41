-- The laws of putting: nothing, one byte, and one text after another.
use Prim.Native.Nat.{ℕ, zero, suc, ◌+◌, ◌-◌, ◌≤◌, ◌<◌, min}
use mathlib.Core.List.{List, [], ◌∷◌, ◌++◌, append_assoc}
use mathlib.Core.Path.{◌≡◌, refl, sym, ap, subst, ◌∙◌}
use native.Mathlib.Omega.{arith}
use lib.ListN.{length, take, drop, get_or}
use lib.Seq.{take-nil, drop-nil, take_all, take-suc}
use native.Mathlib.Numerals.{add-one}
use Rattle.text.specs.declared.Line.{Line}
use Rattle.text.specs.PutText.{PutText}
use Rattle.text.specs.Puts.{Puts}

-- The same by recursion on the line: the bytes, and the position.
laid : List ℕ → ℕ → List ℕ → List ℕ
laid [] at w = []
laid (x ∷ l) (suc at) w = x ∷ laid l at w
laid (x ∷ l) zero [] = x ∷ l
laid (x ∷ l) zero (b ∷ w) = b ∷ laid l zero w

reached : List ℕ → ℕ → List ℕ → ℕ
reached [] at w = at
reached (x ∷ l) (suc at) w = suc (reached l at w)
reached (x ∷ l) zero [] = zero
reached (x ∷ l) zero (b ∷ w) = suc (reached l zero w)

laid_is : (l : List ℕ) (at : ℕ) (w : List ℕ)
    → laid l at w ≡ take at l ++ (take (length l - at) w ++ drop (at + length w) l)
unfolding laid
laid_is [] at w =
    let none : 0 - at ≡ 0 = omega arith in
    rw (take-nil {A = ℕ} at, none, drop-nil {A = ℕ} (at + length w))
laid_is (x ∷ l) (suc at) w =
    let less : suc (length l) - suc at ≡ length l - at = omega arith in
    let more : suc at + length w ≡ suc (at + length w) = omega arith in
    rw (less, more) (ap (λ (t : List ℕ). x ∷ t) (laid_is l at w))
laid_is (x ∷ l) zero [] = rw (take-nil {A = ℕ} (suc (length l) - 0))
laid_is (x ∷ l) zero (b ∷ w) =
    let less : suc (length l) - 0 ≡ suc (length l - 0) = omega arith in
    let more : 0 + suc (length w) ≡ suc (0 + length w) = omega arith in
    rw (less, more) (ap (λ (t : List ℕ). b ∷ t) (laid_is l zero w))

reached_is : (l : List ℕ) (at : ℕ) (w : List ℕ) → reached l at w ≡ at + min (length w) (length l - at)
unfolding reached
reached_is [] at w = omega arith
reached_is (x ∷ l) (suc at) w = omega (arith, reached_is l at w)
reached_is (x ∷ l) zero [] = omega arith
reached_is (x ∷ l) zero (b ∷ w) = omega (arith, reached_is l zero w)

laid_laid : (l : List ℕ) (at : ℕ) (v w : List ℕ) → laid (laid l at v) (reached l at v) w ≡ laid l at (v ++ w)
unfolding laid reached
laid_laid [] at v w = refl
laid_laid (x ∷ l) (suc at) v w = ap (λ (t : List ℕ). x ∷ t) (laid_laid l at v w)
laid_laid (x ∷ l) zero [] w = refl
laid_laid (x ∷ l) zero (b ∷ v) w = ap (λ (t : List ℕ). b ∷ t) (laid_laid l zero v w)

reached_reached : (l : List ℕ) (at : ℕ) (v w : List ℕ) → reached (laid l at v) (reached l at v) w ≡ reached l at (v ++ w)
unfolding laid reached
reached_reached [] at v w = refl
reached_reached (x ∷ l) (suc at) v w = ap suc (reached_reached l at v w)
reached_reached (x ∷ l) zero [] w = refl
reached_reached (x ∷ l) zero (b ∷ v) w = ap suc (reached_reached l zero v w)

laid_none : (l : List ℕ) (at : ℕ) → l ≡ laid l at []
unfolding laid
laid_none [] at = refl
laid_none (x ∷ l) (suc at) = ap (λ (t : List ℕ). x ∷ t) (laid_none l at)
laid_none (x ∷ l) zero = refl

reached_none : (l : List ℕ) (at : ℕ) → at ≡ reached l at []
unfolding reached
reached_none [] at = refl
reached_none (x ∷ l) (suc at) = ap suc (reached_none l at)
reached_none (x ∷ l) zero = refl

-- what is put fixes the line and the position
laid_of : {l : List ℕ} {at : ℕ} {w after : List ℕ} {next : ℕ} → PutText l at w after next → after ≡ laid l at w
laid_of {l} {at} {w} p = p.bytes ∙ sym (laid_is l at w)

reached_of : {l : List ℕ} {at : ℕ} {w after : List ℕ} {next : ℕ} → PutText l at w after next → next ≡ reached l at w
reached_of {l} {at} {w} p = p.position ∙ sym (reached_is l at w)

as_put : {l : List ℕ} {at : ℕ} {w after : List ℕ} {next : ℕ} → after ≡ laid l at w → next ≡ reached l at w → PutText l at w after next
as_put {l} {at} {w} b n = record { bytes = b ∙ laid_is l at w; position = n ∙ reached_is l at w }

-- ---- what callers cite

-- One text after another is both as one text, also where the line has no room for all of it.
pub put_then : {l : List ℕ} {at : ℕ} {v w m n : List ℕ} {p q : ℕ} → PutText l at v m p → PutText m p w n q → PutText l at (v ++ w) n q
put_then {l} {at} {v} {w} a b =
    as_put (laid_of b ∙ rw (laid_of a, reached_of a) (laid_laid l at v w))
    (reached_of b ∙ rw (laid_of a, reached_of a) (reached_reached l at v w))

pub put_none : (l : List ℕ) (at : ℕ) → PutText l at [] l at
put_none l at = as_put (laid_none l at) (reached_none l at)

-- a line keeps its length
laid_length : (l : List ℕ) (at : ℕ) (w : List ℕ) → length (laid l at w) ≡ length l
unfolding laid
laid_length [] at w = refl
laid_length (x ∷ l) (suc at) w = ap suc (laid_length l at w)
laid_length (x ∷ l) zero [] = refl
laid_length (x ∷ l) zero (b ∷ w) = ap suc (laid_length l zero w)

pub put_length : {l w m : List ℕ} {at p : ℕ} → PutText l at w m p → length m ≡ length l
put_length {l} {w} {at = at} a = ap length (laid_of a) ∙ laid_length l at w

-- Where the line has room, the whole text is put and nothing else changes.
pub put_whole : {l w m : List ℕ} {at p : ℕ} → at + length w ≤ length l → PutText l at w m p
    → (m ≡ take at l ++ (w ++ drop (at + length w) l)) × (p ≡ at + length w)
put_whole {l} {w} {at = at} h a = (
  a.bytes ∙ rw (take_all (length l - at) w (omega arith)),
  omega (arith, a.position),
)

-- Two results that one promise allows are the same.
pub put_unique : {l w m n : List ℕ} {at p q : ℕ} → PutText l at w m p → PutText l at w n q → (m ≡ n) × (p ≡ q)
put_unique a b = (a.bytes ∙ sym b.bytes, a.position ∙ sym b.position)

-- ---- the same of lines

-- One text after another is both as one text.
pub puts_then : {l m n : Line} {v w : List ℕ} → Puts l v m → Puts m w n → Puts l (v ++ w) n
puts_then a b = record { text = put_then a.text b.text; same_buffer = b.same_buffer ∙ a.same_buffer }

-- the same where the first text is two words with a space between them
pub puts_pair_then : {l m n : Line} {w : List ℕ} (u v : List ℕ) → Puts l (u ++ (32 ∷ v)) m → Puts m w n → Puts l (u ++ (32 ∷ (v ++ w))) n
puts_pair_then {l} {n = n} {w} u v a b =
    subst (λ (t : List ℕ). Puts l t n) (append_assoc u (32 ∷ v) w) (puts_then a b)

-- nothing, where a line is left as it is
pub puts_none : (l : Line) → Puts l [] l
puts_none l = record { text = put_none _ _; same_buffer = refl }

-- the loop that puts a word byte by byte: one turn
pub puts_more : {l m n : Line} (w : List ℕ) (i : ℕ) → i < length w → Puts l (take i w) m → Puts m (get_or w i 0 ∷ []) n
    → Puts l (take (i + 1) w) n
puts_more w i h a b = rw (add-one i, take-suc w i 0 h) (puts_then a b)
