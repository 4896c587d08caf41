-- How long the words and lines are, and that a text with room for it stands whole at the beginning of a buffer.
use Prim.Native.Nat.{ℕ, zero, suc, ◌+◌, ◌≤◌, ◌<◌}
use mathlib.Core.Bool.{Bool, true, false, cond}
use mathlib.Core.List.{List, [], ◌∷◌, ◌++◌, map}
use mathlib.Core.Logic.{inl, inr, ⊎_elim}
use mathlib.Core.Path.{◌≡◌, sym, ap, ◌∙◌}
use native.Mathlib.Omega.{arith}
use lib.ListN.{length, take, drop, length-append}
use lib.Seq.{length-take-le, take-append_seam}
use Rattle.io.specs.Counts.{IsPrefixLen}
use Rattle.rules.specs.Fault.{Fault}
use Rattle.rules.specs.Bytes.{fault_but, refusal_but, fault, refusal}
use Rattle.rules.proofs.Numbers.{named_few_but, Among, told_but}
use Rattle.text.specs.PutText.{PutText}
use Rattle.text.specs.Lines.{decimal, bytes, value_word, line_of, names_record, refusal_line}
use Rattle.text.proofs.Digits.{decimal_length}
use Rattle.text.proofs.Putting.{put_whole}

pub short_value : (v : ℕ) → length (value_word v) ≤ 7
short_value zero = omega arith
short_value (suc zero) = omega arith
short_value (suc (suc v)) = omega arith

pub short_refusal : (f : Fault) → f.number < 100 → f.«record» < 10000 → length (refusal_line f) ≤ 17
short_refusal f h k = go (names_record f)
  where
    go : (x : Bool) → length (line_of (bytes "refused") (map decimal (f.number ∷ cond x (f.«record» ∷ []) []))) ≤ 17
    go true =
        simp length-append (omega (arith, decimal_length f.number 1 (omega arith), decimal_length f.«record» 3 (omega arith)))
    go false = simp length-append (omega (arith, decimal_length f.number 1 (omega arith)))

-- what refuses a job's bytes is small enough for that
pub fault_few_but : (forgive : Bool) (b : List ℕ) → Among (refusal_but forgive b)
    → (refusal_but forgive b < 100) × ((fault_but forgive b).«record» < 10000)
fault_few_but forgive b (inl h) = (
  omega arith,
  omega (
    arith,
    (told_but forgive b).no_record (λ (e : refusal_but forgive b ≡ 12). omega arith) (λ (e : refusal_but forgive b ≡ 13). omega arith),
  ),
)
fault_few_but forgive b (inr e) = (
  ⊎_elim (λ (x : refusal_but forgive b ≡ 12). omega arith) (λ (x : refusal_but forgive b ≡ 13). omega arith) e,
  omega (arith, named_few_but forgive b e),
)

pub fault_few : (b : List ℕ) → Among (refusal b) → (refusal b < 100) × ((fault b).«record» < 10000)
fault_few = fault_few_but false

-- a text put at the beginning of a buffer that has room for it is the buffer's first n bytes
pub put_front : {out left t : List ℕ} {n : ℕ} → PutText out 0 t left n → length t ≤ length out → IsPrefixLen n left × (take n left ≡ t)
put_front {out} {left} {t} {n} put room =
    let (bytes, next) = put_whole (omega arith) put in
    let rest = drop (0 + length t) out in
    let is : left ≡ t ++ rest = bytes in
    let count : n ≡ length t = omega (arith, next) in
    let few : n ≤ length left = omega (arith, ap length is, length-append t rest) in (
      (few, sym (length-take-le n left few)),
      ap (λ (k : ℕ). take k left) count ∙ ap (take (length t)) is ∙ take-append_seam t rest,
    )
