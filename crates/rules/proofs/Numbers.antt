-- What each number of the table says of the bytes, and what it says that none applies: the first test that refuses gives the number, and
-- the first bad record gives 12 or 13.
use Prim.Native.Nat.{ℕ, zero, suc, ◌≤◌, ◌<◌}
use mathlib.Core.Bool.{Bool, true, false, cond, not, true≢false, false≢true}
use mathlib.Core.List.{List}
use mathlib.Core.Logic.{◌⊎◌, inl, inr, ⊎_elim, ◌↔◌, ◌≢◌}
use mathlib.Core.Path.{◌≡◌, refl, sym, ap, ◌∙◌, subst}
use native.Mathlib.Omega.{arith}
use borrow.Author.Tests.{ltb-false, le-ltb, not-false, not-true}
use lib.Dec.{ltb}
use lib.ListN.{length}
use Rattle.rules.specs.Fault.{Fault, only, with_record, or_else}
use Rattle.rules.specs.Bytes.{is_tall, said}
use Rattle.rules.specs.Bytes.{contents, counts, labels, whole, records_fault, goal, fault_but, refusal_but, fault, refusal}
use Rattle.rules.specs.BadRecord.{FieldsFit, OrderFits, BadField, BadOrder}
use Rattle.game.proofs.Tests.{ltb_iff}
use Rattle.rules.proofs.Forms.{records_most}
use Rattle.rules.proofs.Judged.{whole_iff}
use Rattle.rules.proofs.Faults.{or_first, or_second, records_good_iff, bad_field_iff, bad_order_iff, records_number, bad_unique}

-- ---- the table: a test that refuses goes before those after it

-- P does not hold of the number of the first test: it holds of the table where that test lets through and it holds of the rest
past : (P : Fault → Type 0) {x : Bool} {y : Fault} {A B : Type 0} (m : ℕ) → (P (only m) → ⊥) → (x ≡ false) ↔ A → P y ↔ B
    → P (cond x (only m) y) ↔ (A × B)
past P {x = true} m d p q = (λ e. absurd (d e), λ t. absurd (true≢false (p.1 t.0)))
past P {x = false} m d p q = (λ e. (p.0 refl, q.0 e), λ t. q.1 t.1)

-- a part of the table says nothing, or a number above n
data Beyond (n : ℕ) (y : Fault) : Type 0 where
  nothing : y.number ≡ 0 → Beyond n y
  above : n < y.number → Beyond n y

-- the first test says n + 1 and nothing after it does: the table says n + 1 where that test refuses
here : {x : Bool} {y : Fault} {A : Type 0} (n : ℕ) → Beyond (suc n) y → (x ≡ true) ↔ A → ((cond x (only (suc n)) y).number ≡ suc n) ↔ A
here {x = true} n h p = (λ e. p.0 refl, λ t. refl)
here {x = false} n (nothing z) p = (λ e. absurd (omega arith), λ t. absurd (false≢true (p.1 t)))
here {x = false} n (above h) p = (λ e. absurd (omega arith), λ t. absurd (false≢true (p.1 t)))

beyond : {y : Fault} (n : ℕ) (x : Bool) → Beyond (suc n) y → Beyond n (cond x (only (suc n)) y)
beyond n true p = above (omega arith)
beyond n false (nothing e) = nothing e
beyond n false (above h) = above (omega arith)

-- the table of one test says nothing where the test passes
silent : (x : Bool) (n : ℕ) → n ≢ 0 → ((cond (not x) (only n) (only 0)).number ≡ 0) ↔ (x ≡ true)
silent true n d = (λ e. refl, λ t. refl)
silent false n d = (λ e. absurd (d e), λ t. absurd (false≢true t))

-- what a test says when it lets through, and when it refuses
not_short : (b : List ℕ) → (ltb (length b) 16 ≡ false) ↔ (16 ≤ length b)
not_short b = (ltb-false (length b) 16, le-ltb (length b) 16)

passes : (x : Bool) → (not x ≡ false) ↔ (x ≡ true)
passes x = (not-false x, λ e. ap not e)

fails : (x : Bool) → (not x ≡ true) ↔ (x ≡ false)
fails x = (not-true x, λ e. ap not e)

-- ---- the first of two faults

-- P does not hold of the first: it holds of the first of both where the first is none and it holds of the second
past_first : (P : Fault → Type 0) (f : Fault) {y : Fault} {A B : Type 0} → (f.number ≢ 0 → P f → ⊥) → (f.number ≡ 0) ↔ A → P y ↔ B
    → P (or_else f y) ↔ (A × B)
past_first P f {y} {A} {B} d p q = go f.number refl
  where
    go : (n : ℕ) → f.number ≡ n → P (or_else f y) ↔ (A × B)
    go zero z = (λ e. (p.0 z, q.0 (subst P (or_second f y z) e)), λ t. subst P (sym (or_second f y z)) (q.1 t.1))
    go (suc n) z =
        let some : f.number ≢ 0 = λ (o : f.number ≡ 0). omega arith in
        (λ e. absurd (d some (subst P (or_first f y some) e)), λ t. absurd (some (p.1 t.0)))

-- P holds of nothing but a fault, and not of the second: it holds of the first of both where it holds of the first
here_first : (P : Fault → Type 0) (f : Fault) {y : Fault} {A : Type 0} → (P f → f.number ≢ 0) → (P y → ⊥) → P f ↔ A
    → P (or_else f y) ↔ A
here_first P f {y} {A} d u p = go f.number refl
  where
    go : (n : ℕ) → f.number ≡ n → P (or_else f y) ↔ A
    go zero z = (λ e. absurd (u (subst P (or_second f y z) e)), λ t. absurd (d (p.1 t) z))
    go (suc n) z =
        let some : f.number ≢ 0 = λ (o : f.number ≡ 0). omega arith in
        (λ e. p.0 (subst P (or_first f y some) e), λ t. subst P (sym (or_first f y some)) (p.1 t))

-- ---- what each number says, the first fault first

abbrev Says : ℕ → Fault → Type 0
Says n f = f.number ≡ n

-- every record is good
abbrev pub RecordsGood : Bool → List ℕ → Type 0
RecordsGood forgive b = (k : ℕ) → k < (said b).records → FieldsFit forgive (said b) k × OrderFits (said b) k

-- no number, exactly where every test lets through
pub refusal_0 : (forgive : Bool) (b : List ℕ) → (refusal_but forgive b ≡ 0)
    ↔ ((16 ≤ length b) × ((contents b ≡ true) × ((counts b ≡ true) × ((labels b ≡ true) × ((whole b ≡ true)
    × (RecordsGood forgive b × (goal b ≡ true)))))))
refusal_0 forgive b =
    past (Says 0) 1 (λ e. omega arith) (not_short b)
    (past (Says 0) 2 (λ e. omega arith) (passes (contents b))
    (past (Says 0) 3 (λ e. omega arith) (passes (counts b))
    (past (Says 0) 4 (λ e. omega arith) (passes (labels b))
    (past (Says 0) 5 (λ e. omega arith) (passes (whole b))
    (past_first (Says 0) (records_fault forgive (said b) (said b).records) (λ d e. d e) (records_good_iff forgive (said b))
    (silent (goal b) 6 (omega arith)))))))

-- what is wrong with the records: nothing, 12 or 13
abbrev OfRecord : Fault → Type 0
OfRecord f = (f ≡ only 0) ⊎ ((f.number ≡ 12) ⊎ (f.number ≡ 13))

-- and the first of that and another fault is the other, or 12 or 13
first_of : (f y : Fault) → OfRecord f → (or_else f y ≡ y) ⊎ (((or_else f y).number ≡ 12) ⊎ ((or_else f y).number ≡ 13))
first_of f y (inl e) = inl (or_second f y (ap (λ (g : Fault). g.number) e))
first_of f y (inr (inl e)) =
    inr (inl (ap (λ (g : Fault). g.number) (or_first f y (λ (o : f.number ≡ 0). omega arith)) ∙ e))
first_of f y (inr (inr e)) =
    inr (inr (ap (λ (g : Fault). g.number) (or_first f y (λ (o : f.number ≡ 0). omega arith)) ∙ e))

beyond_first : {f y : Fault} → OfRecord f → Beyond 5 y → Beyond 5 (or_else f y)
beyond_first {f} {y} o h = go (first_of f y o)
  where
    go : (or_else f y ≡ y) ⊎ (((or_else f y).number ≡ 12) ⊎ ((or_else f y).number ≡ 13)) → Beyond 5 (or_else f y)
    go (inl e) = subst (Beyond 5) (sym e) h
    go (inr (inl e)) = above (omega arith)
    go (inr (inr e)) = above (omega arith)

-- each number, exactly where its own test refuses and those before it let through; and 12 and 13 with the record
pub record Numbers (forgive : Bool) (b : List ℕ) : Type 0 where
  pub is_1 : (refusal_but forgive b ≡ 1) ↔ (length b < 16)
  pub is_2 : (refusal_but forgive b ≡ 2) ↔ ((16 ≤ length b) × (contents b ≡ false))
  pub is_3 : (refusal_but forgive b ≡ 3) ↔ ((16 ≤ length b) × ((contents b ≡ true) × (counts b ≡ false)))
  pub is_4 : (refusal_but forgive b ≡ 4) ↔ ((16 ≤ length b) × ((contents b ≡ true) × ((counts b ≡ true) × (labels b ≡ false))))
  pub is_5 : (refusal_but forgive b ≡ 5)
      ↔ ((16 ≤ length b) × ((contents b ≡ true) × ((counts b ≡ true) × ((labels b ≡ true) × (whole b ≡ false)))))
  pub is_12 : (k : ℕ) → (fault_but forgive b ≡ with_record 12 k)
      ↔ ((16 ≤ length b) × ((contents b ≡ true) × ((counts b ≡ true) × ((labels b ≡ true) × ((whole b ≡ true)
      × BadField forgive (said b) k)))))
  pub is_13 : (k : ℕ) → (fault_but forgive b ≡ with_record 13 k)
      ↔ ((16 ≤ length b) × ((contents b ≡ true) × ((counts b ≡ true) × ((labels b ≡ true) × ((whole b ≡ true)
      × BadOrder forgive (said b) k)))))
  pub is_6 : (refusal_but forgive b ≡ 6)
      ↔ ((16 ≤ length b) × ((contents b ≡ true) × ((counts b ≡ true) × ((labels b ≡ true) × ((whole b ≡ true)
      × (RecordsGood forgive b × (goal b ≡ false)))))))

pub numbers : (forgive : Bool) (b : List ℕ) → Numbers forgive b
numbers forgive b =
    let records = records_fault forgive (said b) (said b).records in
    let six = beyond 5 (not (goal b)) (nothing refl) in
    let five = beyond_first {f = records} (records_number forgive (said b)) six in
    let four = beyond 4 (not (whole b)) five in
    let three = beyond 3 (not (labels b)) four in
    let two = beyond 2 (not (counts b)) three in
    let one = beyond 1 (not (contents b)) two in
    record {
      is_1 = here 0 one (ltb_iff (length b) 16);
      is_2 = past (Says 2) 1 (λ e. omega arith) (not_short b) (here 1 two (fails (contents b)));
      is_3 =
          past (Says 3) 1 (λ e. omega arith) (not_short b)
          (past (Says 3) 2 (λ e. omega arith) (passes (contents b)) (here 2 three (fails (counts b))));
      is_4 =
          past (Says 4) 1 (λ e. omega arith) (not_short b)
          (past (Says 4) 2 (λ e. omega arith) (passes (contents b))
          (past (Says 4) 3 (λ e. omega arith) (passes (counts b)) (here 3 four (fails (labels b)))));
      is_5 =
          past (Says 5) 1 (λ e. omega arith) (not_short b)
          (past (Says 5) 2 (λ e. omega arith) (passes (contents b))
          (past (Says 5) 3 (λ e. omega arith) (passes (counts b))
          (past (Says 5) 4 (λ e. omega arith) (passes (labels b)) (here 4 five (fails (whole b))))));
      is_12 = λ k. to_records 12 k (omega arith) (bad_field_iff forgive (said b) k);
      is_13 = λ k. to_records 13 k (omega arith) (bad_order_iff forgive (said b) k);
      is_6 =
          past (Says 6) 1 (λ e. omega arith) (not_short b)
          (past (Says 6) 2 (λ e. omega arith) (passes (contents b))
          (past (Says 6) 3 (λ e. omega arith) (passes (counts b))
          (past (Says 6) 4 (λ e. omega arith) (passes (labels b))
          (past (Says 6) 5 (λ e. omega arith) (passes (whole b))
          (past_first (Says 6) records (not_6 records (records_number forgive (said b))) (records_good_iff forgive (said b))
          (here 5 (nothing refl) (fails (goal b))))))));
    }
  where
    not_6 : (f : Fault) → OfRecord f → f.number ≢ 0 → f.number ≡ 6 → ⊥
    not_6 f (inl e) d q = d (ap (λ (g : Fault). g.number) e)
    not_6 f (inr (inl e)) d q = omega arith
    not_6 f (inr (inr e)) d q = omega arith

    -- another number is another fault
    differs : (m n k : ℕ) → m ≢ n → only m ≡ with_record n k → ⊥
    differs m n k d e = d (ap (λ (f : Fault). f.number) e)

    -- a number that only the records give, with its record
    to_records : (n k : ℕ) {A : Type 0} → 6 < n → (records_fault forgive (said b) (said b).records ≡ with_record n k) ↔ A
        → (fault_but forgive b ≡ with_record n k)
        ↔ ((16 ≤ length b) × ((contents b ≡ true) × ((counts b ≡ true) × ((labels b ≡ true) × ((whole b ≡ true) × A)))))
    to_records n k far p =
        let P : Fault → Type 0 = λ f. f ≡ with_record n k in
        let some : n ≢ 0 = λ (z : n ≡ 0). omega arith in
        past P 1 (differs 1 n k (λ (e : 1 ≡ n). omega arith)) (not_short b)
        (past P 2 (differs 2 n k (λ (e : 2 ≡ n). omega arith)) (passes (contents b))
        (past P 3 (differs 3 n k (λ (e : 3 ≡ n). omega arith)) (passes (counts b))
        (past P 4 (differs 4 n k (λ (e : 4 ≡ n). omega arith)) (passes (labels b))
        (past P 5 (differs 5 n k (λ (e : 5 ≡ n). omega arith)) (passes (whole b))
        (here_first P (records_fault forgive (said b) (said b).records)
        (λ e z. some (sym (ap (λ (f : Fault). f.number) e) ∙ z))
        (last (goal b)) p)))))
      where
        last : (x : Bool) → cond (not x) (only 6) (only 0) ≡ with_record n k → ⊥
        last true = differs 0 n k (λ (e : 0 ≡ n). omega arith)
        last false = differs 6 n k (λ (e : 6 ≡ n). omega arith)

-- ---- the record that is named

module _ (forgive : Bool) (b : List ℕ) where
  abbrev Bad : ℕ → Type 0
  Bad k = BadField forgive (said b) k ⊎ BadOrder forgive (said b) k

  -- 12 and 13 name the first bad record: it is one of the job's, and no other could have been named
  pub named : (refusal_but forgive b ≡ 12) ⊎ (refusal_but forgive b ≡ 13) → Bad (fault_but forgive b).«record»
  named (inl e) = inl (((numbers forgive b).is_12 _).0 (λ i. with_record (e i) (fault_but forgive b).«record»)).1.1.1.1.1
  named (inr e) = inr (((numbers forgive b).is_13 _).0 (λ i. with_record (e i) (fault_but forgive b).«record»)).1.1.1.1.1

  pub named_below : (refusal_but forgive b ≡ 12) ⊎ (refusal_but forgive b ≡ 13) → (fault_but forgive b).«record» < (said b).records
  named_below e = ⊎_elim (λ (x : BadField forgive (said b) (fault_but forgive b).«record»). x.is_record) (λ y. y.is_record) (named e)

  -- and a job that comes to its records has at most 8,192
  pub named_few_but : (refusal_but forgive b ≡ 12) ⊎ (refusal_but forgive b ≡ 13) → (fault_but forgive b).«record» < 8192
  named_few_but e = let below = named_below e in omega (arith, ((whole_iff b).0 (passed e)).1, records_most (is_tall b))
    where
      passed : (refusal_but forgive b ≡ 12) ⊎ (refusal_but forgive b ≡ 13) → whole b ≡ true
      passed (inl e) = (((numbers forgive b).is_12 _).0 (λ i. with_record (e i) (fault_but forgive b).«record»)).1.1.1.1.0
      passed (inr e) = (((numbers forgive b).is_13 _).0 (λ i. with_record (e i) (fault_but forgive b).«record»)).1.1.1.1.0

  pub named_alone : (refusal_but forgive b ≡ 12) ⊎ (refusal_but forgive b ≡ 13) → (k : ℕ) → Bad k → k ≡ (fault_but forgive b).«record»
  named_alone e k x = bad_unique forgive (said b) k (fault_but forgive b).«record» x (named e)

  -- record 0 has none before it that it could come after
  pub order_not_0 : refusal_but forgive b ≡ 13 → (fault_but forgive b).«record» ≢ 0
  order_not_0 e z = (((numbers forgive b).is_13 0).0 (λ i. with_record (e i) (z i))).1.1.1.1.1.order_out tt

pub named_few : (b : List ℕ) → (refusal b ≡ 12) ⊎ (refusal b ≡ 13) → (fault b).«record» < 8192
named_few = named_few_but false

-- ---- which numbers there are, and that the others name no record

-- 0 to 6, and 12 and 13
abbrev pub Among : ℕ → Type 0
Among n = (n ≤ 6) ⊎ ((n ≡ 12) ⊎ (n ≡ 13))

-- a number that P allows, and that names no record where it is neither 12 nor 13
pub record Told (P : ℕ → Type 0) (f : Fault) : Type 0 where
  pub among : P f.number
  pub no_record : f.number ≢ 12 → f.number ≢ 13 → f.«record» ≡ 0

pub told_but : (forgive : Bool) (b : List ℕ) → Told Among (fault_but forgive b)
told_but forgive b =
    past_test (ltb (length b) 16) (omega arith)
    (past_test (not (contents b)) (omega arith)
    (past_test (not (counts b)) (omega arith)
    (past_test (not (labels b)) (omega arith)
    (past_test (not (whole b)) (omega arith)
    (past_records (records_number forgive (said b))
    (past_test (not (goal b)) (omega arith) (one 0 (omega arith))))))))
  where
    one : (n : ℕ) → n ≤ 6 → Told Among (only n)
    one n h = record { among = inl h; no_record = λ d e. refl }

    past_test : {m : ℕ} {y : Fault} (x : Bool) → m ≤ 6 → Told Among y → Told Among (cond x (only m) y)
    past_test {m} true h t = one m h
    past_test false h t = t

    past_records : {f y : Fault} → OfRecord f → Told Among y → Told Among (or_else f y)
    past_records {f} {y} o t = go (first_of f y o)
      where
        go : (or_else f y ≡ y) ⊎ (((or_else f y).number ≡ 12) ⊎ ((or_else f y).number ≡ 13)) → Told Among (or_else f y)
        go (inl e) = subst (Told Among) (sym e) t
        go (inr (inl e)) = record { among = inr (inl e); no_record = λ d u. absurd (d e) }
        go (inr (inr e)) = record { among = inr (inr e); no_record = λ d u. absurd (u e) }

pub told : (b : List ℕ) → Told Among (fault b)
told = told_but false

-- a number up to 6 is the whole of the fault
pub plainly_said_but : (forgive : Bool) (b : List ℕ) (n : ℕ) → n ≤ 6 → refusal_but forgive b ≡ n → fault_but forgive b ≡ only n
plainly_said_but forgive b n h e =
    let z = (told_but forgive b).no_record (λ (o : refusal_but forgive b ≡ 12). omega arith) (λ (o : refusal_but forgive b ≡ 13). omega arith) in
    λ i. with_record (e i) (z i)

pub plainly_said : (b : List ℕ) (n : ℕ) → n ≤ 6 → refusal b ≡ n → fault b ≡ only n
plainly_said = plainly_said_but false

-- past the tests before the records, their fault is the answer if there is one
pub records_said : (forgive : Bool) (b : List ℕ) → 16 ≤ length b → contents b ≡ true → counts b ≡ true → labels b ≡ true → whole b ≡ true
    → (records_fault forgive (said b) (said b).records).number ≢ 0 → fault_but forgive b ≡ records_fault forgive (said b) (said b).records
records_said forgive b a c n l w d = rw (le-ltb (length b) 16 a, c, n, l, w) (or_first (records_fault forgive (said b) (said b).records) _ d)
