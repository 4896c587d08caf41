-- What is promised of planning with an index, over the calls for C: one answer and one content of each buffer, which numbers it gives, and
-- that the answer and the plan are those of planning.
use Prim.Native.Nat.{ℕ, ◌≤◌}
use mathlib.Core.List.{List}
use mathlib.Core.Logic.{◌⊎◌, inl, inr}
use mathlib.Core.Path.{◌≡◌, refl}
use native.Mathlib.Omega.{arith}
use lib.ListN.{length}
use Rattle.rules.specs.Fault.{Fault, only}
use Rattle.rules.specs.Bytes.{said}
use Rattle.rules.specs.Calls.{Planning}
use Rattle.rules.proofs.Figures.{known_by}
use Rattle.rules.proofs.Numbers.{Told, told}
use Rattle.rules.proofs.Unique.{planning_unique}
use Rattle.backward.specs.Index.{index_size}
use Rattle.backward.specs.Counts.{counters_size}
use Rattle.backward.specs.Call.{PlanningBy, refused, no_room, no_memory, planned}
use Rattle.backward.proofs.Unique.{by_unique, same_plan, is_planning}
use Rattle.cabinet.specs.declared.checks.CheckedFigures.{CheckedFigures}
use Rattle.cabinet.proofs.Checking.{CheckCalled, own_plan_passes}
use Rattle.cabinet.specs.Figures.{figures_planned}
use Rattle.cabinet.specs.declared.calls.PlannedFigures.{PlannedFigures}
use Rattle.cabinet.proofs.Ranges.{OfPlanning}

pub figures_known : (r r' : PlannedFigures) → figures_planned r ≡ figures_planned r' → r ≡ r'
figures_known = known_by figures_planned (λ (f : Fault). record { refusal = f.number; «record» = f.«record» }) (λ f. refl)

pub indexed_unique : {b before index counters p i c p' i' c' : List ℕ} (r r' : PlannedFigures)
    → PlanningBy b before index counters (figures_planned r) p i c → PlanningBy b before index counters (figures_planned r') p' i' c'
    → (r ≡ r') × (p ≡ p') × (i ≡ i') × (c ≡ c')
indexed_unique r r' x x' = let (e, p, i, c) = by_unique x x' in (figures_known r r' e, p, i, c)

-- what planning gives, and 17; 12 and 13 alone name a record
abbrev pub OfIndexed : ℕ → Type 0
OfIndexed n = OfPlanning n ⊎ (n ≡ 17)

pub indexed_range : {b before index counters p i c : List ℕ} (r : PlannedFigures)
    → PlanningBy b before index counters (figures_planned r) p i c → Told OfIndexed (figures_planned r)
indexed_range r x = go x
  where
    go : {b before index counters p i c : List ℕ} {f : Fault} → PlanningBy b before index counters f p i c → Told OfIndexed f
    go {b} (refused n) = record { among = inl (inl (told b).among); no_record = (told b).no_record }
    go (no_room e l) = record { among = inl (inr refl); no_record = λ d e. refl }
    go (no_memory e l s) = record { among = inr refl; no_record = λ d e. refl }
    go (planned e l h g p x f) = record { among = inl (inl (inl (omega arith))); no_record = λ d e. refl }

-- With memory of the stated sizes the two calls answer the same, and leave the same bytes in the same buffer.
pub indexed_same : {b before index counters after after' i c : List ℕ} (r r' : PlannedFigures) → index_size (said b) ≤ length index
    → counters_size (said b) ≤ length counters → Planning b before (figures_planned r) after
    → PlanningBy b before index counters (figures_planned r') after' i c → (r ≡ r') × (after ≡ after')
indexed_same r r' h g p q = let (e, a) = same_plan h g p q in (figures_known r r' e, a)

-- And whatever memory it was lent, unless it says 17.
pub indexed_same_else : {b before index counters after after' i c : List ℕ} (r r' : PlannedFigures) → (r'.refusal ≡ 17 → ⊥)
    → Planning b before (figures_planned r) after → PlanningBy b before index counters (figures_planned r') after' i c
    → (r ≡ r') × (after ≡ after')
indexed_same_else r r' z p q = let (e, a) = planning_unique p (is_planning q z) in (figures_known r r' e, a)

-- Its plans pass the check too.
pub indexed_plan_passes : {b before index counters after i c : List ℕ} (r : CheckedFigures) → PlanningBy b before index counters (only 0) after i c
    → CheckCalled b after r → r.refusal ≡ 0
indexed_plan_passes r d c = own_plan_passes r (is_planning d (λ z. omega arith)) c
