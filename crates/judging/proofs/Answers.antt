-- What judging answers is determined by the bytes and the trace; and each way through the call gives the answer that is due.
use Prim.Native.Nat.{ℕ, ◌≤◌, ◌<◌}
use mathlib.Core.Bool.{Bool, true, false, cond}
use mathlib.Core.List.{List}
use mathlib.Core.Logic.{◌↔◌}
use mathlib.Core.Path.{◌≡◌, refl, sym, ◌∙◌, ap, subst}
use native.Mathlib.Omega.{arith}
use borrow.Author.Tests.{eqb-false, eqb-true}
use lib.Dec.{ltb, eqb}
use lib.ListN.{length, get_or}
use Rattle.game.specs.Below.{every_below}
use Rattle.game.proofs.Search.{clash}
use Rattle.game.proofs.Tests.{ltb_iff, every_iff}
use Rattle.rules.specs.Formula.{Formula, Satisfies}
use Rattle.rules.proofs.Decided.{sat_iff}
use Rattle.judging.specs.Formulas.{nodes, depth, Formed, Stands}
use Rattle.judging.specs.Judging.{judged_refusal, judged_holds}
use Rattle.judging.specs.Judging.{TraceFits, LabelsFit, Judging, trace_bad, formula_bad, too_deep, label_bad, yes, no}
use Rattle.judging.specs.Reading.{ReadOf, good, bad, ReadWhole}
use Rattle.judging.specs.Walking.{Ready, JudgedAt}
use Rattle.judging.specs.declared.run.JudgeError.{JudgeError}
use Rattle.judging.specs.declared.walk.Part.{Part}
use Rattle.judging.specs.declared.read.Read.{Read}
use Rattle.std.specs.Prelude.{Some, None, Result, Ok, Err}
use Rattle.judging.proofs.Readings.{stands_unique}
use Rattle.judging.proofs.Bytes.{formed_stands, stands_formed, formed_unique}

-- ---- one answer only

same_depth : {b : List ℕ} (f g : Formula) → Formed b f → Formed b g → depth f ≡ depth g
same_depth {b} f g x y = ap depth (formed_unique b f g x y)

deep : {b : List ℕ} (f g : Formula) → Formed b f → Formed b g → 3 < depth f → depth g ≤ 3 → ⊥
deep f g x y h l = omega (arith, same_depth f g x y)

same_holds : {b : List ℕ} (t : List ℕ) (f g : Formula) → Formed b f → Formed b g → Satisfies t f → Satisfies t g
same_holds {b} t f g x y h = rw (formed_unique b f g x y) at h

pub judging_unique : {b t : List ℕ} {r r' a a' : ℕ} → Judging b t r a → Judging b t r' a' → (r ≡ r') × (a ≡ a')
judging_unique (trace_bad n) (trace_bad m) = (refl, refl)
judging_unique (trace_bad n) (formula_bad u m) = absurd (n u)
judging_unique (trace_bad n) (too_deep u x m) = absurd (n u)
judging_unique (trace_bad n) (label_bad u x m l) = absurd (n u)
judging_unique (trace_bad n) (yes u x m l s) = absurd (n u)
judging_unique (trace_bad n) (no u x m l s) = absurd (n u)
judging_unique (formula_bad v n) (trace_bad m) = absurd (m v)
judging_unique (formula_bad v n) (formula_bad u m) = (refl, refl)
judging_unique (formula_bad v n) (too_deep {f} u x m) = absurd (n f x)
judging_unique (formula_bad v n) (label_bad {f} u x m l) = absurd (n f x)
judging_unique (formula_bad v n) (yes {f} u x m l s) = absurd (n f x)
judging_unique (formula_bad v n) (no {f} u x m l s) = absurd (n f x)
judging_unique (too_deep v y n) (trace_bad m) = absurd (m v)
judging_unique (too_deep {f} v y n) (formula_bad u m) = absurd (m f y)
judging_unique (too_deep v y n) (too_deep u x m) = (refl, refl)
judging_unique (too_deep {f} v y n) (label_bad {f = g} u x m l) = absurd (deep f g y x n m)
judging_unique (too_deep {f} v y n) (yes {f = g} u x m l s) = absurd (deep f g y x n m)
judging_unique (too_deep {f} v y n) (no {f = g} u x m l s) = absurd (deep f g y x n m)
judging_unique (label_bad v y n k) (trace_bad m) = absurd (m v)
judging_unique (label_bad {f} v y n k) (formula_bad u m) = absurd (m f y)
judging_unique (label_bad {f} v y n k) (too_deep {f = g} u x m) = absurd (deep g f x y m n)
judging_unique (label_bad v y n k) (label_bad u x m l) = (refl, refl)
judging_unique (label_bad v y n k) (yes u x m l s) = absurd (k l)
judging_unique (label_bad v y n k) (no u x m l s) = absurd (k l)
judging_unique (yes v y n k h) (trace_bad m) = absurd (m v)
judging_unique (yes {f} v y n k h) (formula_bad u m) = absurd (m f y)
judging_unique (yes {f} v y n k h) (too_deep {f = g} u x m) = absurd (deep g f x y m n)
judging_unique (yes v y n k h) (label_bad u x m l) = absurd (l k)
judging_unique (yes v y n k h) (yes u x m l s) = (refl, refl)
judging_unique {t = t} (yes {f} v y n k h) (no {f = g} u x m l s) = absurd (s (same_holds t f g y x h))
judging_unique (no v y n k h) (trace_bad m) = absurd (m v)
judging_unique (no {f} v y n k h) (formula_bad u m) = absurd (m f y)
judging_unique (no {f} v y n k h) (too_deep {f = g} u x m) = absurd (deep g f x y m n)
judging_unique (no v y n k h) (label_bad u x m l) = absurd (l k)
judging_unique {t = t} (no {f} v y n k h) (yes {f = g} u x m l s) = absurd (h (same_holds t g f x y s))
judging_unique (no v y n k h) (no u x m l s) = (refl, refl)

-- where nothing is refused, the bytes are a formula, and the answer is yes exactly when it holds at the first label
pub judged_exactly : {b t : List ℕ} {a : ℕ} → Judging b t 0 a → (f : Formula) × Formed b f × ((a ≡ 1) ↔ Satisfies t f)
judged_exactly j = go j refl
  where
    go : {b t : List ℕ} {r a : ℕ} → Judging b t r a → r ≡ 0 → (f : Formula) × Formed b f × ((a ≡ 1) ↔ Satisfies t f)
    go (trace_bad n) e = absurd (omega arith)
    go (formula_bad u n) e = absurd (omega arith)
    go (too_deep u x n) e = absurd (omega arith)
    go (label_bad u x n l) e = absurd (omega arith)
    go (yes {f} u x n l s) e = (f, x, (λ z. s, λ z. refl))
    go (no {f} u x n l s) e = (f, x, (λ z. absurd (omega arith), λ z. absurd (s z)))

-- an answer is known by its figures
abbrev judged_of : ℕ → ℕ → Result Bool JudgeError
judged_of r a =
    cond (eqb r 19) (Err JudgeError.Trace) (cond (eqb r 20) (Err JudgeError.Formula) (cond (eqb r 21) (Err JudgeError.Depth)
    (cond (eqb r 22) (Err JudgeError.Letter) (Ok (eqb a 1)))))

judged_back : (x : Result Bool JudgeError) → judged_of (judged_refusal x) (judged_holds x) ≡ x
judged_back (Ok true) = refl
judged_back (Ok false) = refl
judged_back (Err JudgeError.Trace) = refl
judged_back (Err JudgeError.Formula) = refl
judged_back (Err JudgeError.Depth) = refl
judged_back (Err JudgeError.Letter) = refl

pub judged_known : (x y : Result Bool JudgeError) → judged_refusal x ≡ judged_refusal y → judged_holds x ≡ judged_holds y → x ≡ y
judged_known x y r a = sym (judged_back x) ∙ ap (λ (n : ℕ). judged_of n (judged_holds x)) r ∙ ap (judged_of (judged_refusal y)) a ∙ judged_back y

-- ---- each way through the call

pub none_is : {n : ℕ} → eqb n 0 ≡ true → n ≡ 0
none_is {n} e = eqb-true n 0 e

pub some_is : {n : ℕ} → eqb n 0 ≡ false → n ≡ 0 → ⊥
some_is {n} e = eqb-false n 0 e

pub fits : (t : List ℕ) → (length t ≡ 0 → ⊥) → length t ≤ 64 → TraceFits t
fits t n h = record { some = omega (arith, n); few = h }

module _ (b t : List ℕ) where
  pub refuse_empty : length t ≡ 0 → Judging b t 19 0
  refuse_empty e = trace_bad λ u. omega (arith, u.some)

  pub refuse_long : 64 < length t → Judging b t 19 0
  refuse_long h = trace_bad λ u. omega (arith, u.few)

  module _ (u : TraceFits t) where
    pub refuse_overlong : 64 < length b → Judging b t 20 0
    refuse_overlong h = formula_bad u λ f x. omega (arith, x.few)

    pub refuse_unread : ReadOf b 0 None → Judging b t 20 0
    refuse_unread (bad n) = formula_bad u λ f x. n f (formed_stands b f x).0

    pub refuse_left : (r : Read) → ReadOf b 0 (Some r) → (r.end ≡ length b → ⊥) → Judging b t 20 0
    refuse_left r (good f s p q) n = formula_bad u λ g y.
        let (k, m) = formed_stands b g y in
        let z : nodes f ≡ nodes g = ap nodes (stands_unique b 0 f g s k) in
        let w : r.end ≡ length b = omega arith in
        n w

pub whole : {b t : List ℕ} (r : Read) → TraceFits t → length b ≤ 64 → r.end ≡ length b → ReadOf b 0 (Some r) → ReadWhole b r.depth t
whole {b} r u h e x =
    record { trace = u; few = h; read = subst (λ (n : ℕ). ReadOf b 0 (Some (record { end = n; depth = r.depth }))) e x }

module _ {b t : List ℕ} {d : ℕ} (z : ReadWhole b d t) where
  found : (f : Formula) × Formed b f × Stands b 0 f × (d ≡ depth f)
  found = go z.read
    where
      go : ReadOf b 0 (Some (record { end = length b; depth = d })) → (f : Formula) × Formed b f × Stands b 0 f × (d ≡ depth f)
      go (good f s p q) = let w : nodes f ≡ length b = omega (arith, p) in (f, stands_formed b f z.few s w, s, q)

  pub refuse_deep : 3 < d → Judging b t 21 0
  refuse_deep l = let (f, x, s, q) = found in too_deep z.trace x (omega (arith, q))

  -- the formula is ready to be judged at the first label
  pub ready : Ready b 0 t 0
  ready = record { formula = found.0; stands = found.2; moment = z.trace.some; few = z.trace.few }

  module _ (l : d ≤ 3) where
    shallow : depth found.0 ≤ 3
    shallow = omega (arith, found.3)

    pub refuse_label : every_below (length t) (λ i. ltb (get_or t i 0) 64) ≡ false → Judging b t 22 0
    refuse_label y =
        label_bad z.trace found.1 shallow
        λ m. clash ((every_iff (λ i. ltb (get_or t i 0) 64) (λ i. ltb_iff (get_or t i 0) 64) (length t)).1 m) y

    module _ (y : every_below (length t) (λ i. ltb (get_or t i 0) 64) ≡ true) (r : Part) (x : JudgedAt b 0 t 0 r) where
      all_fit : LabelsFit t
      all_fit = (every_iff (λ i. ltb (get_or t i 0) 64) (λ i. ltb_iff (get_or t i 0) 64) (length t)).0 y

      pub answer_yes : r.holds ≡ true → Judging b t 0 1
      answer_yes v =
          yes z.trace found.1 shallow all_fit
          ((sat_iff t found.0 0 z.trace.some).0 (sym (x.value found.0 found.2) ∙ v))

      pub answer_no : r.holds ≡ false → Judging b t 0 0
      answer_no v =
          no z.trace found.1 shallow all_fit
          (λ h. clash (x.value found.0 found.2 ∙ (sat_iff t found.0 0 z.trace.some).1 h) v)

      -- the answer, whichever it is
      pub answered : Judging b t 0 (judged_holds (Ok r.holds))
      answered = go r.holds refl
        where
          go : (v : Bool) → r.holds ≡ v → Judging b t 0 (judged_holds (Ok v))
          go true e = answer_yes e
          go false e = answer_no e
