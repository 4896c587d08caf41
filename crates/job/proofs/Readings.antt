-- What the answer of reading says of the bytes: which keep the rules, with what layout, and what refuses the others.
use Prim.Native.Nat.{ℕ, zero, suc, ◌≤◌}
use mathlib.Core.Bool.{Bool, false, cond, not}
use mathlib.Core.List.{List}
use mathlib.Core.Logic.{◌≢◌}
use mathlib.Core.Path.{◌≡◌, refl, sym, ap, ◌∙◌}
use native.Mathlib.Omega.{arith}
use borrow.Author.Tests.{ne_eqb}
use lib.Dec.{eqb}
use Rattle.std.specs.Prelude.{Result, Ok, Err}
use Rattle.rules.specs.Fault.{Fault, only}
use Rattle.rules.specs.Bytes.{fault, refusal, fault_but, refusal_but}
use Rattle.rules.specs.Answers.{refusal_fault}
use Rattle.rules.specs.declared.answer.Refusal.{Refusal}
use Rattle.rules.proofs.Figures.{known_by, refusal_some, by_refusal, by_refusal_back}
use Rattle.rules.proofs.Numbers.{plainly_said_but}
use Rattle.rules.proofs.Kept.{kept_but}
use Rattle.job.specs.Layout.{layout, FitBut, Fit}
use Rattle.job.specs.Reading.{no_layout, ReadingFigures, reading_figures, reading, reading_but}
use Rattle.job.specs.declared.layout.Layout.{Layout}

-- ---- the figures by the fault

-- what reading answers where the fault is f
abbrev figures : List ℕ → Fault → ReadingFigures
figures b f = cond (not (eqb f.number 0)) (record { fault = f; layout = no_layout }) (record { fault = only 0; layout = layout b })

module _ (forgive : Bool) (b : List ℕ) where
  pub refuses : (f : Fault) → f.number ≢ 0 → fault_but forgive b ≡ f → reading_but forgive b ≡ record { fault = f; layout = no_layout }
  refuses f d e = ap (figures b) e ∙ rw (ne_eqb f.number 0 d)

  -- a number from 1 to 6 names no record
  pub refuses_plainly : (n : ℕ) → n ≤ 5 → refusal_but forgive b ≡ suc n
      → reading_but forgive b ≡ record { fault = only (suc n); layout = no_layout }
  refuses_plainly n h e = refuses (only (suc n)) (λ z. omega arith) (plainly_said_but forgive b (suc n) (omega arith) e)

  pub accepts : refusal_but forgive b ≡ 0 → reading_but forgive b ≡ record { fault = only 0; layout = layout b }
  accepts e = ap (figures b) (plainly_said_but forgive b 0 (omega arith) e)

  -- the first figure is the fault
  fault_told : (reading_but forgive b).fault ≡ fault_but forgive b
  fault_told = go (refusal_but forgive b) refl
    where
      go : (n : ℕ) → refusal_but forgive b ≡ n → (reading_but forgive b).fault ≡ fault_but forgive b
      go zero e = ap (λ (f : ReadingFigures). f.fault) (accepts e) ∙ sym (plainly_said_but forgive b 0 (omega arith) e)
      go (suc n) e =
          ap (λ (f : ReadingFigures). f.fault) (refuses (fault_but forgive b) (λ (z : refusal_but forgive b ≡ 0). omega arith) refl)

  -- ---- what callers cite

  pub read_fit_but : (l : Layout) → reading_figures (Ok l) ≡ reading_but forgive b → FitBut forgive b l
  read_fit_but l e =
      let none : refusal_but forgive b ≡ 0 =
      sym (ap (λ (f : ReadingFigures). f.fault.number) e ∙ ap (λ (f : Fault). f.number) fault_told) in
      record { keeps = (kept_but forgive b).0 none; is_layout = ap (λ (f : ReadingFigures). f.layout) (e ∙ accepts none) }

  pub read_refused_but : (r : Refusal) → reading_figures (Err r) ≡ reading_but forgive b → fault_but forgive b ≡ refusal_fault r
  read_refused_but r e = sym (ap (λ (f : ReadingFigures). f.fault) e ∙ fault_told)

  -- bytes that are refused are refused by a number
  pub read_refused_some_but : (r : Refusal) → reading_figures (Err r) ≡ reading_but forgive b → refusal_but forgive b ≢ 0
  read_refused_some_but r e z = omega (arith, (refusal_some r).1, ap (λ (f : Fault). f.number) (read_refused_but r e))

-- with nothing forgiven

pub read_fit : (b : List ℕ) (l : Layout) → reading_figures (Ok l) ≡ reading b → Fit b l
read_fit = read_fit_but false

pub read_refused : (b : List ℕ) (r : Refusal) → reading_figures (Err r) ≡ reading b → fault b ≡ refusal_fault r
read_refused = read_refused_but false

pub read_refused_some : (b : List ℕ) (r : Refusal) → reading_figures (Err r) ≡ reading b → refusal b ≢ 0
read_refused_some = read_refused_some_but false

-- ---- an answer is known by its figures

abbrev reading_of : ReadingFigures → Result Layout Refusal
reading_of f = by_refusal f.fault.number f.fault.«record» (Ok f.layout) Err

reading_back : (r : Result Layout Refusal) → reading_of (reading_figures r) ≡ r
reading_back (Ok l) = refl
reading_back (Err r) = by_refusal_back r _ Err

pub reading_unique : (r s : Result Layout Refusal) → reading_figures r ≡ reading_figures s → r ≡ s
reading_unique = known_by reading_figures reading_of reading_back
