-- What the check answers, from what was read, planned and compared.
use Prim.Native.Nat.{ℕ, suc, ◌*◌, ◌≤◌, ◌<◌}
use mathlib.Core.List.{List}
use mathlib.Core.Logic.{◌⊎◌, inl, inr}
use mathlib.Core.Path.{◌≡◌, refl, sym, ◌∙◌, subst}
use native.Mathlib.Omega.{arith}
use borrow.Author.Tests.{lt-ltb, le-ltb}
use lib.ListN.{length}
use Rattle.std.specs.Prelude.{Err}
use Rattle.rules.specs.Job.{places}
use Rattle.rules.specs.Bytes.{fault, refusal, said}
use Rattle.rules.specs.Calls.{Planning}
use Rattle.rules.specs.Fault.{Fault, only}
use Rattle.rules.specs.Answers.{refusal_fault}
use Rattle.rules.specs.declared.answer.Refusal.{Refusal}
use Rattle.rules.proofs.Kept.{kept}
use Rattle.rules.proofs.Figures.{refusal_some}
use Rattle.sets.proofs.Bits.{below_or}
use Rattle.job.specs.Layout.{Fit}
use Rattle.job.specs.declared.layout.Layout.{Layout}
use Rattle.job.proofs.Asking.{goals_said, places_said}
use Rattle.rules.proofs.Planned.{planned_exactly, planned_right}
use Rattle.checking.specs.Checking.{Checking, refused, no_room, checked_figures, Checks}
use Rattle.checking.specs.Fits.{fits_at, Until, from_first}
use Rattle.checking.specs.declared.check.CheckError.{CheckError}
use Rattle.checking.proofs.Fitting.{checked_passed, checked_wrong}

pub checks_refused : (b p : List ℕ) (r : Refusal) → fault b ≡ refusal_fault r → (refusal b ≡ 0 → ⊥)
    → Checks b p (checked_figures (Err (CheckError.Refused r)))
checks_refused b p r e n = subst (λ (x : Fault). Checking b p x 0 0) e (refused n)

module _ {b : List ℕ} {l : Layout} (t : Fit b l) (p : List ℕ) where
  pub checks_room : length p < 4 * (l.states * l.goals) → Checks b p (checked_figures (Err (CheckError.Refused Refusal.Room)))
  checks_room h = no_room ((kept b).1 t.keeps) (let n = places_said t in omega arith)

  -- a job that was read is planned where there is room
  pub never_refused : {own own' : List ℕ} (r : Refusal) → Planning b own (refusal_fault r) own' → 4 * (l.states * l.goals) ≤ length own → ⊥
  never_refused r d long =
      let n = places_said t in
      let z = (planned_exactly d).1 (t.keeps, omega arith) in
      let m = refusal_some r in
      let e : suc m.0 ≡ 0 = sym m.1 ∙ z in
      omega arith

  pub checks_from : {own own' : List ℕ} {x : ℕ} → 4 * (l.states * l.goals) ≤ length p → Planning b own (only 0) own'
      → Until (fits_at b own' p) 0 (l.states * l.goals) x → Checks b p (from_first x (l.states * l.goals) l.goals)
  checks_from {own'} {x} h d u = rw (places_said t, goals_said t) (go (below_or x (places (said b))))
    where
      n : l.states * l.goals ≡ places (said b)
      n = places_said t

      go : (x < places (said b)) ⊎ (places (said b) ≤ x) → Checks b p (from_first x (places (said b)) (said b).goals)
      go (inl m) =
          rw (lt-ltb x (places (said b)) m)
          (checked_wrong b own' p t.keeps (omega (arith, n)) (planned_right d refl) x m (u.fail (omega (arith, n)))
          (λ y k. u.pass y (omega arith) k))
      go (inr m) =
          rw (le-ltb x (places (said b)) m)
          (checked_passed b own' p t.keeps (omega (arith, n)) (planned_right d refl)
          (λ y k. u.pass y (omega arith) (omega arith)))
