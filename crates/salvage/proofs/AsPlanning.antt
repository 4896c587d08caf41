-- All other faults are refused as in planning: salvaging refuses with planning's own number and record, save where planning names a record of
-- which the outcome is out of range and no other field. The order of that record may be wrong too: then salvaging says 13 of it.
use Prim.Native.Nat.{ℕ, ◌≤◌, ◌<◌}
use mathlib.Core.Bool.{Bool, true, false, cond, not}
use mathlib.Core.List.{List}
use mathlib.Core.Logic.{◌⊎◌, inl, inr, ⊎_elim, ◌≢◌}
use mathlib.Core.Path.{◌≡◌, refl, sym, ◌∙◌, ap}
use native.Mathlib.Omega.{arith}
use lib.Dec.{ltb}
use lib.ListN.{length}
use Rattle.sets.proofs.Bits.{below_or}
use Rattle.game.proofs.Search.{clash}
use Rattle.rules.specs.Job.{Job}
use Rattle.rules.specs.Fault.{Fault, only, with_record, or_else}
use Rattle.rules.specs.Bytes.{said, contents, counts, labels, within_but, whole, records_fault, goal, fault}
use Rattle.rules.specs.Keeps.{KeepsBut, Keeps}
use Rattle.rules.specs.BadRecord.{FieldsFit, OrderFits}
use Rattle.rules.proofs.Judged.{within_iff}
use Rattle.rules.proofs.Faults.{First, all_good, first_field, first_order, first_fault, or_first, records_good_iff, records_none}
use Rattle.rules.proofs.Faults.{bad_field_iff, bad_order_iff}
use Rattle.rules.proofs.Kept.{kept, kept_but}
use Rattle.salvage.specs.Salvage.{salvage_fault}

-- The outcome of record k is not below S, and its other fields are in range. Of its order this says nothing.
pub record OutcomeLarge (j : Job) (k : ℕ) : Type 0 where
  pub is_record : k < j.records
  pub state_fits : (j.move k).state < j.states
  pub action_fits : (j.move k).action < j.actions
  pub too_large : j.states ≤ (j.move k).outcome

module _ (j : Job) where
  -- what is forgiven less is forgiven more
  fits : (k : ℕ) → FieldsFit false j k × OrderFits j k → FieldsFit true j k × OrderFits j k
  fits k t = ((t.0.0, (t.0.1.0, tt)), t.1)

  -- the first bad record is the same with too large outcomes forgiven, or it has one
  records_as : {f : Fault} → First false j j.records f
      → (records_fault true j j.records ≡ f) ⊎ ((k : ℕ) × (f ≡ with_record 12 k) × OutcomeLarge j k)
  records_as (all_good h) =
      inl (records_none true j j.records ((records_good_iff true j).1 (λ i l. fits i (h i l))))
  records_as (first_order k l h a d) =
      inl ((bad_order_iff true j k).1
      (record { is_record = l; good_before = λ i m. fits i (h i m); fields_fit = (a.0, (a.1.0, tt)); order_out = d }))
  records_as (first_field k l h d) =
      go (within_but true j.states j.actions (j.move k)) refl (below_or (j.move k).outcome j.states)
    where
      go : (x : Bool) → within_but true j.states j.actions (j.move k) ≡ x
          → ((j.move k).outcome < j.states) ⊎ (j.states ≤ (j.move k).outcome)
          → (records_fault true j j.records ≡ with_record 12 k)
          ⊎ ((m : ℕ) × (with_record 12 k ≡ with_record 12 m) × OutcomeLarge j m)
      go true e (inl o) =
          let t = (within_iff true j.states j.actions (j.move k)).0 e in absurd (d (t.0, (t.1.0, o)))
      go true e (inr o) =
          let t = (within_iff true j.states j.actions (j.move k)).0 e in
          inr (k, refl, record { is_record = l; state_fits = t.0; action_fits = t.1.0; too_large = o })
      go false e o =
          inl ((bad_field_iff true j k).1 (record {
            is_record = l;
            good_before = λ i m. fits i (h i m);
            field_out = λ t. clash ((within_iff true j.states j.actions (j.move k)).1 t) e;
          }))

-- the table with another fault of the records: it is the same, or that fault is what it says
table : (x₁ x₂ x₃ x₄ x₅ : Bool) (r s y : Fault) → s.number ≢ 0
    → (cond x₁ (only 1) (cond x₂ (only 2) (cond x₃ (only 3) (cond x₄ (only 4) (cond x₅ (only 5) (or_else r y)))))
    ≡ cond x₁ (only 1) (cond x₂ (only 2) (cond x₃ (only 3) (cond x₄ (only 4) (cond x₅ (only 5) (or_else s y))))))
    ⊎ (cond x₁ (only 1) (cond x₂ (only 2) (cond x₃ (only 3) (cond x₄ (only 4) (cond x₅ (only 5) (or_else s y))))) ≡ s)
table true x₂ x₃ x₄ x₅ r s y d = inl refl
table false true x₃ x₄ x₅ r s y d = inl refl
table false false true x₄ x₅ r s y d = inl refl
table false false false true x₅ r s y d = inl refl
table false false false false true r s y d = inl refl
table false false false false false r s y d = inr (or_first s y d)

-- The refusal is planning's own, or else an outcome was too large: planning names the record, and no other field of it is out of range.
pub forgives_only : (b : List ℕ) → (salvage_fault b ≡ fault b) ⊎ ((k : ℕ) × (fault b ≡ with_record 12 k) × OutcomeLarge (said b) k)
forgives_only b = go (records_as (said b) (first_fault false (said b) (said b).records))
  where
    n : ℕ
    n = (said b).records

    go : (records_fault true (said b) (said b).records ≡ records_fault false (said b) (said b).records)
        ⊎ ((k : ℕ) × (records_fault false (said b) (said b).records ≡ with_record 12 k) × OutcomeLarge (said b) k)
        → (salvage_fault b ≡ fault b) ⊎ ((k : ℕ) × (fault b ≡ with_record 12 k) × OutcomeLarge (said b) k)
    go (inl e) =
        inl (ap (λ (r : Fault).
        cond (ltb (length b) 16) (only 1)
        (cond (not (contents b)) (only 2)
        (cond (not (counts b)) (only 3)
        (cond (not (labels b)) (only 4)
        (cond (not (whole b)) (only 5) (or_else r (cond (not (goal b)) (only 6) (only 0)))))))) e)
    go (inr (k, e, o)) =
        ⊎_elim inl (λ (t : fault b ≡ records_fault false (said b) (said b).records). inr (k, t ∙ e, o))
        (table (ltb (length b) 16) (not (contents b)) (not (counts b)) (not (labels b)) (not (whole b))
        (records_fault true (said b) (said b).records) (records_fault false (said b) (said b).records)
        (cond (not (goal b)) (only 6) (only 0))
        (λ (z : (records_fault false (said b) (said b).records).number ≡ 0). omega (arith, ap (λ (f : Fault). f.number) e)))

-- a job that keeps the rules keeps them with too large outcomes forgiven
pub keeps_forgiven : {b : List ℕ} → Keeps b → KeepsBut true b
keeps_forgiven {b} k = (kept_but true b).0 (go (forgives_only b))
  where
    go : (salvage_fault b ≡ fault b) ⊎ ((m : ℕ) × (fault b ≡ with_record 12 m) × OutcomeLarge (said b) m) → (salvage_fault b).number ≡ 0
    go (inl e) = ap (λ (f : Fault). f.number) e ∙ (kept b).1 k
    go (inr (m, e, o)) = let z = (kept b).1 k in absurd (omega (arith, ap (λ (f : Fault). f.number) e))

-- and with none of them too large it keeps the rules
pub keeps_all : {b : List ℕ} → KeepsBut true b → ((k : ℕ) → k < (said b).records → ((said b).move k).outcome < (said b).states) → Keeps b
keeps_all {b} k good = (kept b).0 (go (forgives_only b))
  where
    go : (salvage_fault b ≡ fault b) ⊎ ((m : ℕ) × (fault b ≡ with_record 12 m) × OutcomeLarge (said b) m) → (fault b).number ≡ 0
    go (inl e) = sym (ap (λ (f : Fault). f.number) e) ∙ (kept_but true b).1 k
    go (inr (m, e, o)) = let l = good m o.is_record in let g = o.too_large in absurd (omega arith)
