-- There is one Goal body for clauses, and two results that one promise of the call allows are the same.
use Prim.Native.Nat.{ℕ, ◌+◌, ◌-◌, ◌*◌, ◌/◌, ◌%◌, ◌^◌, ◌≤◌, ◌<◌}
use mathlib.Core.Bool.{Bool, true, false, cond, not}
use mathlib.Core.List.{List, ◌++◌}
use mathlib.Core.Logic.{◌⊎◌, inl, inr, ◌≢◌}
use mathlib.Core.Path.{◌≡◌, refl, sym, ◌∙◌, ap, ap₂}
use native.Mathlib.Nat.{div-add-mod', mod-lt, div-lt_iff_lt-mul}
use native.Mathlib.Omega.{arith}
use lib.Dec.{ltb}
use lib.ListN.{length, get_or, drop}
use lib.Pow.{pow_pos}
use lib.Seq.{ext_get_or}
use Rattle.sets.specs.Sets.{one}
use Rattle.sets.proofs.Bits.{below_or}
use Rattle.slips.specs.Clauses.{Clause, states}
use Rattle.slips.specs.Writing.{clauses, counted, sound, body_size, Body, Writing, refused, written}
use Rattle.slips.specs.Writing.{written_refusal, written_length}
use Rattle.std.specs.Prelude.{Result, Ok, Err}
use Rattle.rules.specs.Answers.{refusal_fault}
use Rattle.rules.specs.declared.answer.Refusal.{Refusal}
use Rattle.rules.proofs.Figures.{by_refusal, by_refusal_back, record_none}

pub body_unique : (cs : List Clause) (p : ℕ) (g k : List ℕ) → Body cs p g → Body cs p k → g ≡ k
body_unique cs p g k x y = ext_get_or 0 g k (x.long ∙ sym y.long) (λ i h. at i (omega (arith, x.long)) (below_or i (states cs * 2 ^ p)))
  where
    at : (i : ℕ) → i < body_size cs p → (i < states cs * 2 ^ p) ⊎ (states cs * 2 ^ p ≤ i) → get_or g i 0 ≡ get_or k i 0
    at i h (inl l) =
        let e : i / 2 ^ p * 2 ^ p + i % 2 ^ p ≡ i = div-add-mod' i (2 ^ p) in
        let q : i / 2 ^ p < states cs = (div-lt_iff_lt-mul (pow_pos p)).1 l in
        let m : i % 2 ^ p < 2 ^ p = mod-lt i (pow_pos p) in
        ap (λ (z : ℕ). get_or g z 0) (sym e) ∙ x.rows (i / 2 ^ p) (i % 2 ^ p) q m ∙ sym (y.rows (i / 2 ^ p) (i % 2 ^ p) q m)
        ∙ ap (λ (z : ℕ). get_or k z 0) e
    at i h (inr l) =
        let d : ℕ = i - states cs * 2 ^ p in
        let e : states cs * 2 ^ p + d ≡ i = omega arith in
        let q : d < states cs = omega arith in
        ap (λ (z : ℕ). get_or g z 0) (sym e) ∙ x.marks d q ∙ sym (y.marks d q) ∙ ap (λ (z : ℕ). get_or k z 0) e

pub writing_unique : {s before : List ℕ} {p : ℕ} {after after' : List ℕ} {r r' n n' : ℕ} → Writing s p before r n after → Writing s p before r' n' after'
    → (r ≡ r') × (n ≡ n') × (after ≡ after')
writing_unique (refused h) (refused k) = (refl, refl, refl)
writing_unique (refused h) (written e y) = absurd (h e)
writing_unique (written e x) (refused h) = absurd (h e)
writing_unique {s} {before} {p = p} (written {g} e x) (written {g = k} e' y) =
    (refl, refl, ap (λ (z : List ℕ). z ++ drop (body_size (clauses s) p) before) (body_unique (clauses s) p g k x y))

pub mark_few : (x : Bool) → one x ≤ 1
mark_few true = omega arith
mark_few false = omega arith

-- ---- the answer

-- the numbers that are given
abbrev pub Given : ℕ → Type 0
Given r = (r ≡ 0) ⊎ ((r ≡ 14) ⊎ ((r ≡ 15) ⊎ (r ≡ 7)))

pub writing_range : {s before : List ℕ} {p : ℕ} {after : List ℕ} {r n : ℕ} → Writing s p before r n after → Given r
writing_range {s} {before} {p = p} (refused h) =
    go (counted s) (sound s p) (ltb (length before) (body_size (clauses s) p))
  where
    go : (x y z : Bool) → let r : ℕ = cond (not x) 14 (cond (not y) 15 (cond z 7 0)) in Given r
    go false y z = inr (inl refl)
    go true false z = inr (inr (inl refl))
    go true true true = inr (inr (inr refl))
    go true true false = inl refl
writing_range (written e x) = inl refl

-- none of them is a record's
no_record : (r : Refusal) → Given (refusal_fault r).number → (refusal_fault r).«record» ≡ 0
no_record r g = let n = go (refusal_fault r).number g in record_none r n.0 n.1
  where
    go : (n : ℕ) → Given n → (n ≢ 12) × (n ≢ 13)
    go n (inl e) = (λ f. omega arith, λ f. omega arith)
    go n (inr (inl e)) = (λ f. omega arith, λ f. omega arith)
    go n (inr (inr (inl e))) = (λ f. omega arith, λ f. omega arith)
    go n (inr (inr (inr e))) = (λ f. omega arith, λ f. omega arith)

-- the figures of an answer tell it
written_of : ℕ → ℕ → Result ℕ Refusal
written_of r n = by_refusal r 0 (Ok n) Err

written_back : (r : Result ℕ Refusal) → Given (written_refusal r) → written_of (written_refusal r) (written_length r) ≡ r
unfolding written_of
written_back (Ok n) g = refl
written_back (Err r) g =
    ap (λ (k : ℕ). by_refusal (refusal_fault r).number k (Ok 0) Err) (sym (no_record r g))
    ∙ by_refusal_back r (Ok 0) Err

-- two results that the promise of `write_goal` allows are the same
pub written_unique : {s before after after' : List ℕ} {p : ℕ} (r r' : Result ℕ Refusal)
    → Writing s p before (written_refusal r) (written_length r) after
    → Writing s p before (written_refusal r') (written_length r') after' → (r ≡ r') × (after ≡ after')
written_unique r r' x y =
    let (e, n, a) = writing_unique x y in
    (sym (written_back r (writing_range x)) ∙ ap₂ written_of e n ∙ written_back r' (writing_range y), a)
