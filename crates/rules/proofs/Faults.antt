-- The records judged from the front: what is wrong with one, and which is the first bad one.
use Prim.Native.Nat.{ℕ, zero, suc, ◌+◌, ◌<◌}
use mathlib.Core.Bool.{Bool, true, false, false≢true}
use mathlib.Core.Logic.{◌⊎◌, inl, inr, ⊎_elim, ◌↔◌, ◌≢◌}
use mathlib.Core.Path.{◌≡◌, refl, sym, ap, ◌∙◌, subst}
use native.Mathlib.Numerals.{add-one}
use native.Mathlib.Omega.{arith}
use borrow.Author.Tests.{eq-eqb, ne_eqb}
use Rattle.rules.specs.Job.{Job}
use Rattle.rules.specs.Fault.{Fault, only, with_record, or_else}
use Rattle.rules.specs.Bytes.{within_but, follows, judged, record_fault, records_fault}
use Rattle.rules.specs.BadRecord.{FieldsFit, OrderFits, BadField, BadOrder}
use Rattle.game.proofs.Tests.{last_or_below}
use Rattle.rules.proofs.Order.{before_iff}
use Rattle.rules.proofs.Judged.{within_iff}

-- ---- the first of two faults

pub or_second : (f g : Fault) → f.number ≡ 0 → or_else f g ≡ g
or_second f g e = rw (eq-eqb f.number 0 e)

pub or_first : (f g : Fault) → f.number ≢ 0 → or_else f g ≡ f
or_first f g d = rw (ne_eqb f.number 0 d)

-- ---- a record is judged by two tests, of its fields and of its order

-- it is good, a field of it is out of range, or its fields fit and its order does not
pub data Verdict (A B : Type 0) (k : ℕ) : Fault → Type 0 where
  is_good : A → B → Verdict A B k (only 0)
  is_field : (A → ⊥) → Verdict A B k (with_record 12 k)
  is_order : A → (B → ⊥) → Verdict A B k (with_record 13 k)

judge : {A B : Type 0} (x y : Bool) (k : ℕ) → (x ≡ true) ↔ A → (y ≡ true) ↔ B → Verdict A B k (judged x y k)
judge true true k p q = is_good (p.0 refl) (q.0 refl)
judge true false k p q = is_order (p.0 refl) (λ t. false≢true (q.1 t))
judge false y k p q = is_field (λ t. false≢true (p.1 t))

module _ (forgive : Bool) (j : Job) where
  order_iff : (k : ℕ) → (follows j.move k ≡ true) ↔ OrderFits j k
  order_iff zero = (λ e. tt, λ t. refl)
  order_iff (suc k) = before_iff (j.move k) (j.move (suc k))

  pub record_judged : (k : ℕ) → Verdict (FieldsFit forgive j k) (OrderFits j k) k (record_fault forgive j k)
  record_judged k =
      judge (within_but forgive j.states j.actions (j.move k)) (follows j.move k) k (within_iff forgive j.states j.actions (j.move k))
      (order_iff k)

  -- ---- the first n records, judged from the front

  abbrev Good : ℕ → Type 0
  Good k = FieldsFit forgive j k × OrderFits j k

  abbrev BeforeGood : ℕ → Type 0
  BeforeGood k = (i : ℕ) → i < k → Good i

  -- all are good, or one is the first bad one
  pub data First (n : ℕ) : Fault → Type 0 where
    all_good : BeforeGood n → First n (only 0)
    first_field : (k : ℕ) → k < n → BeforeGood k → (FieldsFit forgive j k → ⊥) → First n (with_record 12 k)
    first_order : (k : ℕ) → k < n → BeforeGood k → FieldsFit forgive j k → (OrderFits j k → ⊥) → First n (with_record 13 k)

  good_to : (n : ℕ) → BeforeGood n → Good n → BeforeGood (suc n)
  good_to n h g i l = ⊎_elim (λ (e : i ≡ n). rw e g) (λ (m : i < n). h i m) (last_or_below l)

  one_more : (n : ℕ) {f g : Fault} → First n f → Verdict (FieldsFit forgive j n) (OrderFits j n) n g → First (suc n) (or_else f g)
  one_more n (all_good h) (is_good a c) = all_good (good_to n h (a, c))
  one_more n (all_good h) (is_field d) = first_field n (omega arith) h d
  one_more n (all_good h) (is_order a d) = first_order n (omega arith) h a d
  one_more n (first_field k l h d) g = first_field k (omega arith) h d
  one_more n (first_order k l h a d) g = first_order k (omega arith) h a d

  pub first_fault : (n : ℕ) → First n (records_fault forgive j n)
  first_fault zero = all_good (λ i l. absurd (omega arith))
  first_fault (suc n) = one_more n (first_fault n) (record_judged n)

  -- two records that are the first bad one are the same
  same_first : (k m : ℕ) → BeforeGood k → (Good k → ⊥) → BeforeGood m → (Good m → ⊥) → k ≡ m
  same_first k m h d g e =
      let no_less : ¬ (k < m) = λ l. d (g k l) in
      let no_more : ¬ (m < k) = λ l. e (h m l) in
      omega arith

  -- ---- what the answer says, of all records

  none_iff : {f : Fault} → First j.records f → (f.number ≡ 0) ↔ BeforeGood j.records
  none_iff (all_good h) = (λ e. h, λ t. refl)
  none_iff (first_field k l h d) = (λ e. absurd (omega arith), λ t. absurd (d (t k l).0))
  none_iff (first_order k l h a d) = (λ e. absurd (omega arith), λ t. absurd (d (t k l).1))

  pub records_good_iff : ((records_fault forgive j j.records).number ≡ 0) ↔ BeforeGood j.records
  records_good_iff = none_iff (first_fault j.records)

  field_iff : {f : Fault} → First j.records f → (k : ℕ) → (f ≡ with_record 12 k) ↔ BadField forgive j k
  field_iff (all_good h) k =
      (λ e. absurd (omega (arith, ap (λ (f : Fault). f.number) e)), λ t. absurd (t.field_out (h k t.is_record).0))
  field_iff (first_field m l h d) k =
      let one : BadField forgive j m = record { is_record = l; good_before = h; field_out = d } in (
        λ e. subst (BadField forgive j) (ap (λ (f : Fault). f.«record») e) one,
        λ t. ap (with_record 12) (same_first m k h (λ g. d g.0) t.good_before (λ g. t.field_out g.0)),
      )
  field_iff (first_order m l h a d) k = (
    λ e. absurd (omega (arith, ap (λ (f : Fault). f.number) e)),
    λ t. let e = same_first m k h (λ g. d g.1) t.good_before (λ g. t.field_out g.0) in absurd (t.field_out (rw e at a)),
  )

  pub bad_field_iff : (k : ℕ) → (records_fault forgive j j.records ≡ with_record 12 k) ↔ BadField forgive j k
  bad_field_iff = field_iff (first_fault j.records)

  order_out_iff : {f : Fault} → First j.records f → (k : ℕ) → (f ≡ with_record 13 k) ↔ BadOrder forgive j k
  order_out_iff (all_good h) k =
      (λ e. absurd (omega (arith, ap (λ (f : Fault). f.number) e)), λ t. absurd (t.order_out (h k t.is_record).1))
  order_out_iff (first_field m l h d) k = (
    λ e. absurd (omega (arith, ap (λ (f : Fault). f.number) e)),
    λ t. let e = same_first m k h (λ g. d g.0) t.good_before (λ g. t.order_out g.1) in absurd (d (rw e t.fields_fit)),
  )
  order_out_iff (first_order m l h a d) k =
      let one : BadOrder forgive j m = record { is_record = l; good_before = h; fields_fit = a; order_out = d } in (
        λ e. subst (BadOrder forgive j) (ap (λ (f : Fault). f.«record») e) one,
        λ t. ap (with_record 13) (same_first m k h (λ g. d g.1) t.good_before (λ g. t.order_out g.1)),
      )

  pub bad_order_iff : (k : ℕ) → (records_fault forgive j j.records ≡ with_record 13 k) ↔ BadOrder forgive j k
  bad_order_iff = order_out_iff (first_fault j.records)

  -- ---- no other record could have been named

  pub bad_unique : (k m : ℕ) → BadField forgive j k ⊎ BadOrder forgive j k → BadField forgive j m ⊎ BadOrder forgive j m → k ≡ m
  bad_unique k m s t = same_first k m (front s) (bad s) (front t) (bad t)
    where
      front : {i : ℕ} → BadField forgive j i ⊎ BadOrder forgive j i → BeforeGood i
      front (inl x) = x.good_before
      front (inr y) = y.good_before

      bad : {i : ℕ} → BadField forgive j i ⊎ BadOrder forgive j i → Good i → ⊥
      bad (inl x) g = x.field_out g.0
      bad (inr y) g = y.order_out g.1

  -- the number is 12 or 13, and where it is neither there is no record
  number_of : {n : ℕ} {f : Fault} → First n f → (f ≡ only 0) ⊎ ((f.number ≡ 12) ⊎ (f.number ≡ 13))
  number_of (all_good h) = inl refl
  number_of (first_field k l h d) = inr (inl refl)
  number_of (first_order k l h a d) = inr (inr refl)

  pub records_number : let f = records_fault forgive j j.records in (f ≡ only 0) ⊎ ((f.number ≡ 12) ⊎ (f.number ≡ 13))
  records_number = number_of (first_fault j.records)

  -- ---- a pass over the first n records: none is bad, one more that is good, and one that ends it

  pub records_none : (n : ℕ) → (records_fault forgive j n).number ≡ 0 → records_fault forgive j n ≡ only 0
  records_none n z = go (number_of (first_fault n))
    where
      go : (records_fault forgive j n ≡ only 0) ⊎ (((records_fault forgive j n).number ≡ 12) ⊎ ((records_fault forgive j n).number ≡ 13))
          → records_fault forgive j n ≡ only 0
      go (inl e) = e
      go (inr (inl e)) = absurd (omega arith)
      go (inr (inr e)) = absurd (omega arith)

  pub records_more : (k : ℕ) → (records_fault forgive j k).number ≡ 0 → (record_fault forgive j k).number ≡ 0 → (records_fault forgive j (k + 1)).number ≡ 0
  records_more k e h = rw (add-one k, or_second (records_fault forgive j k) (record_fault forgive j k) e) h

  pub records_stop : (n k : ℕ) → k < n → (records_fault forgive j k).number ≡ 0 → (record_fault forgive j k).number ≢ 0
      → records_fault forgive j n ≡ record_fault forgive j k
  records_stop zero k l e d = absurd (omega arith)
  records_stop (suc n) k l e d =
      ⊎_elim (λ (i : k ≡ n). here i) (λ (m : k < n). there (records_stop n k m e d)) (last_or_below l)
    where
      here : k ≡ n → records_fault forgive j (suc n) ≡ record_fault forgive j k
      here i = subst (λ (m : ℕ). records_fault forgive j (suc m) ≡ record_fault forgive j k) i (or_second (records_fault forgive j k) (record_fault forgive j k) e)

      there : records_fault forgive j n ≡ record_fault forgive j k → records_fault forgive j (suc n) ≡ record_fault forgive j k
      there i =
          or_first (records_fault forgive j n) (record_fault forgive j n) (λ z. d (ap (λ (f : Fault). f.number) (sym i) ∙ z)) ∙ i
