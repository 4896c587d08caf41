-- Two results that one promise allows are the same, for each public call: the answer, and of planning the whole buffer too.
use Prim.Native.Nat.{ℕ, ◌<◌}
use mathlib.Core.List.{List, ◌++◌}
use mathlib.Core.Path.{◌≡◌, refl, sym, ap, ◌∙◌, subst}
use native.Mathlib.Omega.{arith}
use lib.ListN.{drop}
use Rattle.game.specs.Game.{Inside, WinsIn, HopesIn}
use Rattle.rules.specs.Job.{places, arena}
use Rattle.rules.specs.Fault.{Fault}
use Rattle.rules.specs.Bytes.{said}
use Rattle.rules.specs.Keeps.{Keeps}
use Rattle.rules.specs.Plan.{room}
use Rattle.rules.specs.Calls.{Planning, refused, no_room, planned, started, followed, advised}
use Rattle.rules.specs.Answers.{MovedFigures, planned_fault, advised_figures}
use Rattle.rules.specs.declared.place.Place.{Place}
use Rattle.std.specs.Prelude.{Result}
use Rattle.rules.specs.declared.answer.Refusal.{Refusal}
use Rattle.rules.specs.declared.answer.Advice.{Advice}
use Rattle.game.proofs.Bounds.{wins_below, hopes_below}
use Rattle.rules.proofs.Kept.{kept}
use Rattle.rules.proofs.Arenas.{size_of, arena_lawful}
use Rattle.rules.proofs.Plans.{plan_unique}
use Rattle.rules.proofs.Figures.{planned_known, advised_known}

-- No number reaches the count of places, in a job that keeps the rules.
pub none_reaches : {b : List ℕ} → Keeps b → (p : Place) → Inside (arena (said b)) p → (n : ℕ)
    → (WinsIn (arena (said b)) p n → n < places (said b)) × (HopesIn (arena (said b)) p n → n < places (said b))
none_reaches {b} k p i n = (
  λ w. subst (λ (m : ℕ). n < m) (size_of (said b)) (wins_below (arena (said b)) (arena_lawful b k) n p i w),
  λ h. subst (λ (m : ℕ). n < m) (size_of (said b)) (hopes_below (arena (said b)) (arena_lawful b k) n p i h),
)

pub planning_unique : {b before after after' : List ℕ} {f f' : Fault} → Planning b before f after → Planning b before f' after'
    → (f ≡ f') × (after ≡ after')
planning_unique (refused n) (refused n') = (refl, refl)
planning_unique (refused n) (no_room e l) = absurd (n e)
planning_unique (refused n) (planned e l p) = absurd (n e)
planning_unique (no_room e l) (refused n) = absurd (n e)
planning_unique (no_room e l) (no_room e' l') = (refl, refl)
planning_unique (no_room e l) (planned e' l' p) = absurd (omega arith)
planning_unique (planned e l p) (refused n) = absurd (n e)
planning_unique (planned e l p) (no_room e' l') = absurd (omega arith)
planning_unique {b} {before} (planned e l p) (planned e' l' p') =
    (refl, ap (λ (x : List ℕ). x ++ drop (room (said b)) before) (plan_unique (said b) (arena_lawful b ((kept b).0 e)) p p'))

pub planned_unique : {b before after after' : List ℕ} (r r' : Result (Unit {0}) Refusal) → Planning b before (planned_fault r) after
    → Planning b before (planned_fault r') after' → (r ≡ r') × (after ≡ after')
planned_unique r r' p p' = let u = planning_unique p p' in (planned_known r r' u.0, u.1)

-- starting and following: what they answer is one record of figures
pub started_unique : (b : List ℕ) (f f' : MovedFigures) → f ≡ started b → f' ≡ started b → f ≡ f'
started_unique b f f' e e' = e ∙ sym e'

pub followed_unique : (b : List ℕ) (s q a t : ℕ) (f f' : MovedFigures) → f ≡ followed b s q a t → f' ≡ followed b s q a t → f ≡ f'
followed_unique b s q a t f f' e e' = e ∙ sym e'

pub advised_unique : (b p : List ℕ) (s q : ℕ) (r r' : Result Advice Refusal) → advised_figures r ≡ advised b p s q → advised_figures r' ≡ advised b p s q
    → r ≡ r'
advised_unique b p s q r r' e e' = advised_known r r' (e ∙ sym e')
