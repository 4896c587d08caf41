-- Looking for a record by halving: how the range in doubt shrinks, what its end says, and that the search has one answer only, since no two
-- records of a job that keeps the rules have the same state, action and outcome.
use Prim.Native.Nat.{ℕ, ◌+◌, ◌<◌}
use mathlib.Core.Bool.{Bool, true, false, cond, ◌&&◌, ◌||◌, true≢false}
use lib.Dec.{ltb, eqb}
use mathlib.Core.List.{List}
use mathlib.Core.Logic.{◌⊎◌, inl, inr}
use mathlib.Core.Path.{◌≡◌, refl, sym, ap, subst, ◌∙◌}
use native.Mathlib.Nat.{eq-or-lt_of_le}
use native.Mathlib.Omega.{arith}
use Rattle.std.specs.Prelude.{Option, Some, None}
use Rattle.std.proofs.Common.{Ordering, Less, Equal, Greater}
use Rattle.std.specs.Ordering.{is_lt, is_some_and, partial_ordering_then}
use Rattle.rules.specs.Job.{is_record, recorded}
use Rattle.rules.specs.Bytes.{said, before}
use Rattle.rules.specs.Keeps.{Keeps, Before}
use Rattle.rules.specs.declared.place.Move.{Move}
use Rattle.game.proofs.Search.{clash, if_not_true}
use Rattle.rules.proofs.Arenas.{recorded_iff}
use Rattle.rules.proofs.Order.{before_iff, before_trans, before_differ}
use Rattle.rules.proofs.Recorded.{fields_iff, match_iff, matches_alone}
use Rattle.job.specs.Found.{FoundOf, triple, Parted}

-- ---- figures compared

-- the order of two numbers, by two tests
abbrev order : Bool → Bool → Option Ordering
order less same = Some (cond less Less (cond same Equal Greater))

by_tests : (l e k d j c : Bool)
    → is_some_and is_lt (partial_ordering_then (partial_ordering_then (order l e) (order k d)) (order j c)) ≡ (l || e && (k || d && j))
by_tests true e k d j c = refl
by_tests false false k d j c = refl
by_tests false true true d j c = refl
by_tests false true false false j c = refl
by_tests false true false true true c = refl
by_tests false true false true false true = refl
by_tests false true false true false false = refl

-- three figures in their order are a record's fields in theirs
pub figures_before : (m : Move) (s a t : ℕ)
    → is_some_and is_lt
    (partial_ordering_then (partial_ordering_then (order (ltb m.state s) (eqb m.state s)) (order (ltb m.action a) (eqb m.action a)))
    (order (ltb m.outcome t) (eqb m.outcome t))) ≡ before m (triple s a t)
figures_before m s a t =
    by_tests (ltb m.state s) (eqb m.state s) (ltb m.action a) (eqb m.action a) (ltb m.outcome t) (eqb m.outcome t)

-- ---- the range in doubt

module _ {b : List ℕ} (keeps : Keeps b) {m : Move} where
  -- at first it is all records
  pub parted_none : Parted (said b) m 0 (said b).records
  parted_none = record { inside = omega arith; under = λ k h. absurd (omega arith); beyond = λ k h g. absurd (omega arith) }

  -- record k of it comes before m, and so does each record before k
  pub parted_under : {low high k : ℕ} → Parted (said b) m low high → k < high → before ((said b).move k) m ≡ true
      → Parted (said b) m (k + 1) high
  parted_under {k = k} p h e =
      record { inside = p.inside; under = λ i g. go i (eq-or-lt_of_le (omega arith)); beyond = p.beyond }
    where
      here : Before ((said b).move k) m
      here = (before_iff ((said b).move k) m).0 e

      go : (i : ℕ) → (i ≡ k) ⊎ (i < k) → Before ((said b).move i) m
      go i (inl q) = rw q here
      go i (inr g) = before_trans (keeps.ascending i k g (omega (arith, p.inside))) here

  -- it does not, and neither does any record after k
  pub parted_beyond : {low high k : ℕ} → Parted (said b) m low high → k < high → before ((said b).move k) m ≡ false
      → Parted (said b) m low k
  parted_beyond {k = k} p h e =
      record { inside = omega (arith, p.inside); under = p.under; beyond = λ i g l x. go i l x (eq-or-lt_of_le g) }
    where
      not_here : Before ((said b).move k) m → ⊥
      not_here x = clash ((before_iff ((said b).move k) m).1 x) e

      go : (i : ℕ) → i < (said b).records → Before ((said b).move i) m → (k ≡ i) ⊎ (k < i) → ⊥
      go i l x (inl q) = not_here (rw q x)
      go i l x (inr g) = not_here (before_trans (keeps.ascending k i g l) x)

-- ---- nothing is in doubt any more: k records come before state s, action a and outcome t

is_triple : (m : Move) (s a t : ℕ) → is_record m s a t ≡ true → m ≡ triple s a t
is_triple m s a t e = let (state, action, to) = (fields_iff m s a t).0 e in λ i. triple (state i) (action i) (to i)

module _ {b : List ℕ} (keeps : Keeps b) (s a t : ℕ) {k : ℕ} (p : Parted (said b) (triple s a t) k k) where
  -- a record that has them is record k
  parted_at : (i : ℕ) → i < (said b).records → is_record ((said b).move i) s a t ≡ true → i ≡ k
  parted_at i l e =
      let same = is_triple ((said b).move i) s a t e in
      let no_less : ¬ (i < k) = λ g. before_differ (subst (λ (m : Move). Before m (triple s a t)) same (p.under i g)) refl refl refl in
      let no_more : ¬ (k < i) = λ g. p.beyond k (omega arith) (omega arith) (subst (Before ((said b).move k)) same (keeps.ascending k i g l)) in
      omega arith

  -- so where record k has not, none has
  pub found_nowhere : (k < (said b).records → is_record ((said b).move k) s a t ≡ false) → FoundOf (said b) s a t None
  found_nowhere other =
      if_not_true (recorded (said b) s a t)
      (λ r.
      let (i, l, e) = (recorded_iff (said b) s a t).0 r in
      let here = parted_at i l e in
      clash (rw here at e) (other (rw here at l)))

-- ---- one answer only

pub found_unique : {b : List ℕ} → Keeps b → (s a t : ℕ) (x y : Option ℕ) → FoundOf (said b) s a t x → FoundOf (said b) s a t y → x ≡ y
found_unique {b} k s a t (Some i) (Some m) (p, h, e) (q, g, d) =
    ap Some (matches_alone k ((match_iff (said b) s a t i).0 (h, e)) ((match_iff (said b) s a t m).0 (g, d)))
found_unique k s a t (Some i) None (p, h, e) n = absurd (true≢false (sym p ∙ n))
found_unique k s a t None (Some m) n (q, g, d) = absurd (true≢false (sym q ∙ n))
found_unique k s a t None None n n' = refl
