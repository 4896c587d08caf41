-- What judging a recorded run answers, on every formula and every trace: document 02, "Judge a recorded run".
use Rattle.std.specs.Prelude.{ℕ, ◌≤◌, ◌<◌, Bool, true, false, List, length, get_or, Result, Ok, Err}
use Rattle.rules.specs.Formula.{Formula, Satisfies}
use Rattle.judging.specs.Formulas.{Formed, depth}
use Rattle.judging.specs.declared.run.JudgeError.{JudgeError}

-- 1 to 64 labels
pub record TraceFits (t : List ℕ) : Type 0 where
  pub some : 1 ≤ length t
  pub few : length t ≤ 64

-- each label below 64
abbrev pub LabelsFit : List ℕ → Type 0
LabelsFit t = (i : ℕ) → i < length t → get_or t i 0 < 64

-- `Judging b t r a`: of the formula in the bytes b and the trace t the call answers the refusal r, 0 for none, and a, 1 for yes and 0 for no:
-- yes exactly when the formula holds at the first label. The refusals in order: 19 an empty or overlong trace; 20 the bytes are no formula;
-- 21 more than three operators among until, eventually and always on one path; 22 a label of 64 or more.
pub data Judging (b t : List ℕ) : ℕ → ℕ → Type 0 where
  trace_bad : (TraceFits t → ⊥) → Judging b t 19 0
  formula_bad : TraceFits t → ((f : Formula) → Formed b f → ⊥) → Judging b t 20 0
  too_deep : {f : Formula} → TraceFits t → Formed b f → 3 < depth f → Judging b t 21 0
  label_bad : {f : Formula} → TraceFits t → Formed b f → depth f ≤ 3 → (LabelsFit t → ⊥) → Judging b t 22 0
  yes : {f : Formula} → TraceFits t → Formed b f → depth f ≤ 3 → LabelsFit t → Satisfies t f → Judging b t 0 1
  no : {f : Formula} → TraceFits t → Formed b f → depth f ≤ 3 → LabelsFit t → (Satisfies t f → ⊥) → Judging b t 0 0

-- The figures of an answer: the refusal's number, 0 for none, and 1 for yes.
abbrev pub error_number : JudgeError → ℕ
error_number JudgeError.Trace = 19
error_number JudgeError.Formula = 20
error_number JudgeError.Depth = 21
error_number JudgeError.Letter = 22

abbrev pub judged_refusal : Result Bool JudgeError → ℕ
judged_refusal (Ok x) = 0
judged_refusal (Err why) = error_number why

abbrev pub judged_holds : Result Bool JudgeError → ℕ
judged_holds (Ok true) = 1
judged_holds (Ok false) = 0
judged_holds (Err why) = 0
