-- Which pairs of a job are bad and which records stay, where the records ascend: records of one state and action lie together, so that one
-- pass finds whether a pair stays.
use Prim.Native.Nat.{ℕ, suc, ◌+◌, ◌≤◌, ◌<◌}
use mathlib.Core.Bool.{Bool, true, false, not, ◌&&◌}
use mathlib.Core.Logic.Iff
use mathlib.Core.Logic.{◌⊎◌, inl, inr, ⊎_elim, ◌↔◌}
use mathlib.Core.Path.{◌≡◌, refl, sym, ◌∙◌, ap, ap₂, subst}
use native.Mathlib.Nat.{eq-or-lt_of_le, lt_of_not-le}
use native.Mathlib.Omega.{arith}
use borrow.Author.Tests.{not-true, not-false, le-ltb, ltb-false}
use lib.Dec.{ltb, eqb}
use Rattle.sets.specs.Sets.{count}
use Rattle.game.proofs.Search.{clash, if_not_false, if_not_true, has_lowest}
use Rattle.game.proofs.Tests.{some_iff, and_iff, eqb_iff, last_or_below, last_met}
use Rattle.rules.specs.Job.{Job, is_from}
use Rattle.rules.specs.Keeps.{Before}
use Rattle.rules.proofs.Arenas.{is_from_iff}
use Rattle.salvage.specs.Mended.{bad_pair, spoilt, stays, first_of_pair, lists, kept_number}
use Rattle.salvage.proofs.Keeping.{count_passing}

-- the records of j come one after the other
abbrev pub Ascends : Job → Type 0
Ascends j = (k m : ℕ) → k < m → m < j.records → Before (j.move k) (j.move m)

module _ (j : Job) where
  -- records i and m have the same state and action
  abbrev pub Same : ℕ → ℕ → Type 0
  Same i m = ((j.move i).state ≡ (j.move m).state) × ((j.move i).action ≡ (j.move m).action)

  pub same_iff : (i m : ℕ) → (is_from (j.move i) (j.move m).state (j.move m).action ≡ true) ↔ Same i m
  same_iff i m = is_from_iff (j.move i) (j.move m).state (j.move m).action

  pub same_back : (i m : ℕ) → Same i m → Same m i
  same_back i m s = (sym s.0, sym s.1)

  -- ---- a pair with an outcome that is not below S, and one without

  pub bad_iff : (s a : ℕ) → (bad_pair j s a ≡ true)
      ↔ ((i : ℕ) × (i < j.records) × ((is_from (j.move i) s a ≡ true) × (not (ltb (j.move i).outcome j.states) ≡ true)))
  bad_iff s a =
      some_iff (λ i. is_from (j.move i) s a && not (ltb (j.move i).outcome j.states)) (λ i. and_iff Iff.rfl Iff.rfl) j.records

  pub spoilt_iff : (k : ℕ) → (spoilt j k ≡ true) ↔ ((i : ℕ) × (i < j.records) × Same i k × (j.states ≤ (j.move i).outcome))
  spoilt_iff k = (
    λ e.
        let (i, h, t) = (bad_iff (j.move k).state (j.move k).action).0 e in
        (i, h, (same_iff i k).0 t.0, ltb-false (j.move i).outcome j.states (not-true _ t.1)),
    λ t.
        let (i, h, s, l) = t in
        (bad_iff (j.move k).state (j.move k).action).1
        (i, h, ((same_iff i k).1 s, rw (le-ltb (j.move i).outcome j.states l))),
  )

  -- what is found of a record is so of all with its state and action
  pub spoilt_same : (i k : ℕ) → Same i k → spoilt j i ≡ spoilt j k
  spoilt_same i k s = ap₂ (bad_pair j) s.0 s.1

  pub stays_below : (i : ℕ) → i < j.records → stays j i ≡ true → (j.move i).outcome < j.states
  stays_below i h s =
      lt_of_not-le (λ l. clash ((spoilt_iff i).1 (i, h, (refl, refl), l)) (not-true _ s))

  -- where every outcome is below S, every record stays
  pub all_stay : ((k : ℕ) → k < j.records → (j.move k).outcome < j.states) → (i : ℕ) → stays j i ≡ true
  all_stay good i =
      ap not (if_not_true (spoilt j i) (λ e.
      let (k, h, s, l) = (spoilt_iff i).0 e in
      let g = good k h in
      omega arith))

  -- ---- the first record of a pair

  first_iff : (k : ℕ) → (first_of_pair j k ≡ false) ↔ ((i : ℕ) × (i < k) × Same i k)
  first_iff k =
      let some = some_iff (λ i. is_from (j.move i) (j.move k).state (j.move k).action) (λ i. same_iff i k) k in (
        λ e. some.0 (not-false _ e),
        λ t. ap not (some.1 t),
      )

  pub first_alone : (k i : ℕ) → first_of_pair j k ≡ true → i < k → Same i k → ⊥
  first_alone k i e h s = clash e ((first_iff k).1 (i, h, s))

  -- a bad pair is listed by its first record
  pub bad_listed : (s a : ℕ) → bad_pair j s a ≡ true → (i : ℕ) × (i < j.records) × (lists j i ≡ true) × ((j.move i).state ≡ s) × ((j.move i).action ≡ a)
  bad_listed s a y =
      let (m, l, t) = (bad_iff s a).0 y in
      let (i, h, g) = has_lowest (λ i. is_from (j.move i) s a) m t.0 in
      let (p, q) = (is_from_iff (j.move i) s a).0 g.0 in
      let first : first_of_pair j i ≡ true =
      if_not_false _ (λ e.
      let (x, z, u) = (first_iff i).0 e in
      let v : i ≤ x = g.1 x ((is_from_iff (j.move x) s a).1 (u.0 ∙ p, u.1 ∙ q)) in
      omega arith) in
      let bad : spoilt j i ≡ true = ap₂ (bad_pair j) p q ∙ y in
      (i, omega arith, rw (bad, first), p, q)

  -- and a pair that is listed is bad
  pub listed_iff : (i : ℕ) → (lists j i ≡ true) ↔ ((spoilt j i ≡ true) × (first_of_pair j i ≡ true))
  listed_iff i = and_iff Iff.rfl Iff.rfl

  -- ---- the records that stay

  -- record i stays: it is the one with so many before it that stay
  pub kept_is : (i : ℕ) → i < j.records → stays j i ≡ true → kept_number j (count (stays j) i) ≡ i
  kept_is i h s =
      let (t, e) = (test (kept_number j x)).0 (last_met passes j.records ((some_iff passes test j.records).1 (i, h, (s, refl)))).1 in
      let no_less : ¬ (kept_number j x < i) = λ l. omega (arith, count_passing (stays j) (kept_number j x) i l t) in
      let no_more : ¬ (i < kept_number j x) = λ l. omega (arith, count_passing (stays j) i (kept_number j x) l s) in
      omega arith
    where
      x : ℕ
      x = count (stays j) i

      passes : ℕ → Bool
      passes k = stays j k && eqb (count (stays j) k) x

      test : (k : ℕ) → (passes k ≡ true) ↔ ((stays j k ≡ true) × (count (stays j) k ≡ x))
      test k = and_iff {x = stays j k} {y = eqb (count (stays j) k) x} Iff.rfl (eqb_iff (count (stays j) k) x)

  -- ---- a look along a pair, from its first record on

  -- the records from `begin` up to i have its state and action, and outcomes below S
  pub record Clear (begin i : ℕ) : Type 0 where
    pub pair : (m : ℕ) → begin ≤ m → m < i → Same m begin
    pub good : (m : ℕ) → begin ≤ m → m < i → (j.move m).outcome < j.states

  pub clear_none : (begin : ℕ) → Clear begin begin
  clear_none begin = record { pair = λ m h l. absurd (omega arith); good = λ m h l. absurd (omega arith) }

  pub clear_more : (begin i : ℕ) → Clear begin i → is_from (j.move i) (j.move begin).state (j.move begin).action ≡ true
      → (j.move i).outcome < j.states → Clear begin (i + 1)
  clear_more begin i c e g =
      record {
        pair = λ m h l.
            ⊎_elim (λ (q : m ≡ i). subst (λ (x : ℕ). Same x begin) (sym q) ((same_iff i begin).0 e)) (λ (q : m < i). c.pair m h q)
            (last_or_below (let q : m < suc i = omega arith in q));
        good = λ m h l.
            ⊎_elim (λ (q : m ≡ i). subst (λ (x : ℕ). (j.move x).outcome < j.states) (sym q) g) (λ (q : m < i). c.good m h q)
            (last_or_below (let q : m < suc i = omega arith in q));
      }

  -- an outcome of the pair that is not below S
  pub clear_bad : (begin i : ℕ) → i < j.records → is_from (j.move i) (j.move begin).state (j.move begin).action ≡ true
      → j.states ≤ (j.move i).outcome → true ≡ spoilt j begin
  clear_bad begin i h e g = sym ((spoilt_iff begin).1 (i, h, (same_iff i begin).0 e, g))

module _ (j : Job) (up : Ascends j) where
  -- ---- what lies between two records of a pair is of the pair

  squeeze : (i m n : ℕ) → Before (j.move i) (j.move m) → Before (j.move m) (j.move n) → Same j i n → Same j i m
  squeeze i m n (inl x) (inl y) (p, q) = absurd (omega arith)
  squeeze i m n (inl x) (inr (y, r)) (p, q) = absurd (omega arith)
  squeeze i m n (inr (x, r)) (inl y) (p, q) = absurd (omega arith)
  squeeze i m n (inr (x, inl r)) (inr (y, inl t)) (p, q) = absurd (omega arith)
  squeeze i m n (inr (x, inl r)) (inr (y, inr t)) (p, q) = let u = t.0 in absurd (omega arith)
  squeeze i m n (inr (x, inr r)) (inr (y, t)) (p, q) = (x, r.0)

  pub between : (i m n : ℕ) → i ≤ m → m ≤ n → n < j.records → Same j i n → Same j i m
  between i m n h l d s = go (eq-or-lt_of_le h) (eq-or-lt_of_le l)
    where
      go : (i ≡ m) ⊎ (i < m) → (m ≡ n) ⊎ (m < n) → Same j i m
      go (inl e) y = subst (Same j i) e (refl, refl)
      go (inr x) (inl e) = subst (Same j i) (sym e) s
      go (inr x) (inr y) = squeeze i m n (up i m x (omega arith)) (up m n y d) s

  -- so the record before tells whether one is the first of its pair
  pub first_beside : (k : ℕ) → suc k < j.records → first_of_pair j (suc k) ≡ not (is_from (j.move k) (j.move (suc k)).state (j.move (suc k)).action)
  first_beside k h = go (is_from (j.move k) (j.move (suc k)).state (j.move (suc k)).action) refl
    where
      go : (x : Bool) → is_from (j.move k) (j.move (suc k)).state (j.move (suc k)).action ≡ x → first_of_pair j (suc k) ≡ not x
      go true e = (first_iff j (suc k)).1 (k, omega arith, (same_iff j k (suc k)).0 e)
      go false e =
          if_not_false _ (λ z.
          let (i, l, s) = (first_iff j (suc k)).0 z in
          let t = between i k (suc k) (omega arith) (omega arith) h s in
          clash ((same_iff j k (suc k)).1 (sym t.0 ∙ s.0, sym t.1 ∙ s.1)) e)

  -- The list ascends by state and then by action, so that each pair is there once.
  pub listed_ascend : (i m : ℕ) → i < m → m < j.records → first_of_pair j m ≡ true
      → ((j.move i).state < (j.move m).state) ⊎ (((j.move i).state ≡ (j.move m).state) × ((j.move i).action < (j.move m).action))
  listed_ascend i m d h f = go (up i m d h)
    where
      go : Before (j.move i) (j.move m)
          → ((j.move i).state < (j.move m).state) ⊎ (((j.move i).state ≡ (j.move m).state) × ((j.move i).action < (j.move m).action))
      go (inl x) = inl x
      go (inr (x, inl y)) = inr (x, y)
      go (inr (x, inr y)) = absurd (first_alone j m i f d (x, y.0))

  -- the pair ends at i, or the records do: all its outcomes are below S
  pub clear_ends : (begin i : ℕ) → begin < j.records → first_of_pair j begin ≡ true → begin ≤ i → i ≤ j.records → Clear j begin i
      → (i < j.records → is_from (j.move i) (j.move begin).state (j.move begin).action ≡ false) → false ≡ spoilt j begin
  clear_ends begin i d first h g c e =
      sym (if_not_true _ (λ y.
      let (m, l, s, o) = (spoilt_iff j begin).0 y in
      let not_before : m < begin → ⊥ = λ b. first_alone j begin m first b s in
      let not_after : i ≤ m → ⊥ = λ a.
      let t = between begin i m h a l (same_back j m begin s) in
      clash ((same_iff j i begin).1 (same_back j begin i t)) (e (omega arith)) in
      let z = c.good m (omega arith) (lt_of_not-le not_after) in
      omega arith))
