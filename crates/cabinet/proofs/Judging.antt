-- The call that judges a recorded run: that its promise determines the figures, which numbers it gives and that each is given, that it says
-- yes exactly when the formula holds, and that of slips it says what the Goal body says that is written from them.
use Prim.Native.Nat.{ℕ}
use mathlib.Core.List.{List}
use mathlib.Core.Logic.{◌⊎◌, inl, inr, ◌↔◌}
use mathlib.Core.Path.{◌≡◌, refl, ap₂}
use lib.ListN.{take}
use Rattle.rules.specs.Formula.{Formula, Satisfies}
use Rattle.rules.specs.Trace.{reads}
use Rattle.slips.specs.Clauses.{states}
use Rattle.slips.specs.Writing.{clauses}
use Rattle.slips.proofs.Written.{next_in, mark_in, LabelsBelow}
use Rattle.judging.specs.Formulas.{written, Formed}
use Rattle.judging.specs.Judging.{TraceFits, Judging, trace_bad, formula_bad, too_deep, label_bad, yes, no}
use Rattle.judging.specs.SlipFormulas.{goal_of}
use Rattle.judging.proofs.Answers.{judging_unique, judged_exactly}
use Rattle.judging.proofs.Written.{written_judged}
use Rattle.cabinet.specs.declared.goals.WrittenFigures.{WrittenFigures}
use Rattle.cabinet.specs.declared.judges.JudgedFigures.{JudgedFigures}
use Rattle.cabinet.proofs.Slips.{GoalCalled}

-- what the call answers
abbrev pub JudgeCalled : (b t : List ℕ) → JudgedFigures → Type 0
JudgeCalled b t r = Judging b t r.refusal r.holds

figures : ℕ → ℕ → JudgedFigures
figures r a = record { refusal = r; holds = a }

pub judge_unique : {b t : List ℕ} (r r' : JudgedFigures) → JudgeCalled b t r → JudgeCalled b t r' → r ≡ r'
unfolding figures
judge_unique r r' x y = let (e, a) = judging_unique x y in ap₂ figures e a

-- ---- 0 with 1 or 0, or one of 19 to 22 with 0, and no other

abbrev pub OfJudging : ℕ → ℕ → Type 0
OfJudging r a =
    ((r ≡ 0) × ((a ≡ 1) ⊎ (a ≡ 0))) ⊎ (((r ≡ 19) ⊎ ((r ≡ 20) ⊎ ((r ≡ 21) ⊎ (r ≡ 22)))) × (a ≡ 0))

pub judge_range : {b t : List ℕ} (r : JudgedFigures) → JudgeCalled b t r → OfJudging r.refusal r.holds
judge_range r c = go c
  where
    go : {b t : List ℕ} {r a : ℕ} → Judging b t r a → OfJudging r a
    go (trace_bad n) = inr (inl refl, refl)
    go (formula_bad u n) = inr (inr (inl refl), refl)
    go (too_deep u x d) = inr (inr (inr (inl refl)), refl)
    go (label_bad u x d l) = inr (inr (inr (inr refl)), refl)
    go (yes u x d l s) = inl (refl, inl refl)
    go (no u x d l s) = inl (refl, inr refl)

-- ---- yes exactly when the formula that the bytes are holds at the first label

pub judge_exactly : {b t : List ℕ} (r : JudgedFigures) → JudgeCalled b t r → r.refusal ≡ 0
    → (f : Formula) × Formed b f × ((r.holds ≡ 1) ↔ Satisfies t f)
judge_exactly {b} {t} r c e = judged_exactly (rw e at c)

-- ---- of slips: the bytes of the Goal body that the call writes give a trace the mark that the judge answers

pub judge_slips : {s before after t : List ℕ} {p : ℕ} (w : WrittenFigures) (r : JudgedFigures) → GoalCalled s p before w after
    → w.refusal ≡ 0 → TraceFits t → LabelsBelow p t → JudgeCalled (written (goal_of (clauses s))) t r
    → (r.refusal ≡ 0)
    × (r.holds ≡ mark_in (take w.length after) (states (clauses s)) p (reads (next_in (take w.length after) p) 0 t))
judge_slips {t = t} w r g z u low c = judging_unique c (written_judged g z t u low)
