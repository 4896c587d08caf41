-- Where the records of a state begin and end.
use Prim.Native.Nat.{ℕ, ◌+◌, ◌≤◌, ◌<◌, zero-le}
use mathlib.Core.List.{List}
use mathlib.Core.Path.{◌≡◌}
use native.Mathlib.Omega.{arith}
use borrow.Author.Count.{below_more}
use Rattle.rules.specs.Job.{Job}
use Rattle.rules.specs.Bytes.{said}
use Rattle.job.specs.Layout.{Fit}
use Rattle.job.specs.declared.layout.Layout.{Layout}
use Rattle.job.proofs.Asking.{records_said, sorted}
use Rattle.labelling.specs.Scan.{From, Range}

pub from_start : (j : Job) → From j 0 0
from_start j = record { few = zero-le; below = λ i h. absurd (omega arith); above = λ i h g. zero-le }

-- the records of states below s end at one place only
from_not_below : {j : Job} {s k m : ℕ} → From j s k → From j s m → k < m → ⊥
from_not_below {k = k} f g h = omega (arith, g.below k h, f.above k (omega arith) (omega (arith, g.few)))

pub from_unique : {j : Job} {s k m : ℕ} → From j s k → From j s m → k ≡ m
from_unique f g =
    let up = from_not_below f g in
    let down = from_not_below g f in
    omega arith

-- the records before k are passed, none of a state above s; those of states below s are those before start
pub record Passing (j : Job) (s start k : ℕ) : Type 0 where
  pub first : From j s start
  pub past : start ≤ k
  pub few : k ≤ j.records
  pub below : (i : ℕ) → i < k → (j.move i).state < s + 1

module _ {j : Job} {s start : ℕ} where
  pub passing_none : From j s start → Passing j s start start
  passing_none h = record { first = h; past = omega arith; few = h.few; below = λ i l. omega (arith, h.below i l) }

  pub passing_more : {k : ℕ} → Passing j s start k → k < j.records → (j.move k).state ≡ s → Passing j s start (k + 1)
  passing_more {k} p h e =
      record {
        first = p.first;
        past = omega arith;
        few = omega arith;
        below = below_more (λ i. (j.move i).state < s + 1) k p.below (omega arith);
      }

module _ {b : List ℕ} {l : Layout} (f : Fit b l) {s start k : ℕ} (p : Passing (said b) s start k) where
  -- the records of s end at a record of another state, or with the records
  pub from_other : k < l.records → (((said b).move k).state ≡ s → ⊥) → From (said b) (s + 1) k
  from_other h n =
      let at_k : s ≤ ((said b).move k).state = p.first.above k p.past (rw (records_said f) at h) in
      record { few = p.few; below = p.below; above = λ i a c. omega (arith, sorted f k i a (rw (records_said f) c)) }

  pub from_end : l.records ≤ k → From (said b) (s + 1) k
  from_end h = record { few = p.few; below = p.below; above = λ i a c. absurd (omega (arith, records_said f)) }

module _ {j : Job} {s start end k : ℕ} (r : Range j s start end) where
  pub range_few : k < end → k < j.records
  range_few h = omega (arith, r.ends.few)

  pub range_state : start ≤ k → k < end → (j.move k).state ≡ s
  range_state h g = omega (arith, r.begins.above k h (range_few g), r.ends.below k g)
