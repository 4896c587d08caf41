-- What it is for a record to be the first bad one, by a field or by its order: document 02, request 1. A too large outcome may be forgiven,
-- as request 14 does.
use Rattle.std.specs.Prelude.{ℕ, zero, suc, ◌<◌, Bool}
use Rattle.rules.specs.Job.{Job}
use Rattle.rules.specs.Keeps.{Before, OutcomeFits}

-- the fields of record k are in their ranges
abbrev pub FieldsFit : Bool → Job → ℕ → Type 0
FieldsFit forgive j k =
    ((j.move k).state < j.states) × (((j.move k).action < j.actions) × OutcomeFits forgive (j.move k).outcome j.states)

-- record k comes after the one before it; record 0 has none before it
abbrev pub OrderFits : Job → ℕ → Type 0
OrderFits j zero = Unit {0}
OrderFits j (suc k) = Before (j.move k) (j.move (suc k))

-- record k is the first bad one, and a field of it is out of range
pub record BadField (forgive : Bool) (j : Job) (k : ℕ) : Type 0 where
  pub is_record : k < j.records
  pub good_before : (i : ℕ) → i < k → FieldsFit forgive j i × OrderFits j i
  pub field_out : FieldsFit forgive j k → ⊥

-- record k is the first bad one, its fields are in their ranges, and it does not come after record k − 1
pub record BadOrder (forgive : Bool) (j : Job) (k : ℕ) : Type 0 where
  pub is_record : k < j.records
  pub good_before : (i : ℕ) → i < k → FieldsFit forgive j i × OrderFits j i
  pub fields_fit : FieldsFit forgive j k
  pub order_out : OrderFits j k → ⊥
