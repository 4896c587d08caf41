-- What reading a job tells of the moves that are handed out, and the cases of handing one out.
use Prim.Native.Nat.{ℕ, ◌+◌, ◌≤◌, ◌<◌, zero-le}
use mathlib.Core.Bool.{Bool, cond}
use mathlib.Core.List.{List}
use mathlib.Core.Logic.{◌≢◌}
use mathlib.Core.Path.{◌≡◌, sym, ap, ◌∙◌, subst}
use borrow.Author.Tests.{lt-ltb, le-ltb, eq-eqb, ne_eqb}
use Rattle.std.specs.Prelude.{Some, None, Ok, Err}
use Rattle.rules.specs.Bytes.{refusal, said}
use Rattle.rules.specs.declared.answer.Refusal.{Refusal}
use Rattle.rules.proofs.Kept.{kept}
use Rattle.job.specs.Reading.{reading_figures, reading}
use Rattle.job.specs.declared.layout.Layout.{Layout}
use Rattle.job.proofs.Readings.{read_fit, read_refused_some}
use Rattle.reader.specs.Handed.{moves_in, handed, cursor}

-- ---- how many moves there are

pub moves_of_job : (b : List ℕ) → refusal b ≡ 0 → moves_in b ≡ (said b).records
moves_of_job b e = ap (λ (t : Bool). cond t (said b).records 0) (eq-eqb (refusal b) 0 e)

pub moves_of_refused : (b : List ℕ) → refusal b ≢ 0 → moves_in b ≡ 0
moves_of_refused b e = ap (λ (t : Bool). cond t (said b).records 0) (ne_eqb (refusal b) 0 e)

-- ---- a cursor among them, and one past them

pub hands_record : (b : List ℕ) (k : ℕ) → k < moves_in b → handed b k ≡ Some ((said b).move k)
hands_record b k h =
    ap (λ (t : Bool). cond t (Some ((said b).move k)) None) (lt-ltb k (moves_in b) h)

pub hands_no_more : (b : List ℕ) (k : ℕ) → moves_in b ≤ k → handed b k ≡ None
hands_no_more b k h =
    ap (λ (t : Bool). cond t (Some ((said b).move k)) None) (le-ltb k (moves_in b) h)

pub moves_on : (b : List ℕ) (k : ℕ) → k < moves_in b → cursor b k ≡ k + 1
moves_on b k h = ap (λ (t : Bool). cond t (k + 1) k) (lt-ltb k (moves_in b) h)

pub stays : (b : List ℕ) (k : ℕ) → moves_in b ≤ k → cursor b k ≡ k
stays b k h = ap (λ (t : Bool). cond t (k + 1) k) (le-ltb k (moves_in b) h)

-- ---- what the answer of reading tells

pub read_none : (b : List ℕ) (l : Layout) → reading_figures (Ok l) ≡ reading b → refusal b ≡ 0
read_none b l e = (kept b).1 (read_fit b l e).keeps

pub among : (b : List ℕ) (l : Layout) (k : ℕ) → reading_figures (Ok l) ≡ reading b → k < l.records → k < moves_in b
among b l k e h =
    subst (λ (n : ℕ). k < n) (ap (λ (m : Layout). m.records) (read_fit b l e).is_layout ∙ sym (moves_of_job b (read_none b l e))) h

pub past : (b : List ℕ) (l : Layout) (k : ℕ) → reading_figures (Ok l) ≡ reading b → l.records ≤ k → moves_in b ≤ k
past b l k e h =
    subst (λ (n : ℕ). n ≤ k) (ap (λ (m : Layout). m.records) (read_fit b l e).is_layout ∙ sym (moves_of_job b (read_none b l e))) h

pub past_refused : (b : List ℕ) (r : Refusal) (k : ℕ) → reading_figures (Err r) ≡ reading b → moves_in b ≤ k
past_refused b r k e = subst (λ (n : ℕ). n ≤ k) (sym (moves_of_refused b (read_refused_some b r e))) zero-le
