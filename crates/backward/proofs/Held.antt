-- The index holds every record exactly once: of its words, one and no more is the number of the record.
use Prim.Native.Nat.{ℕ, zero, suc, ◌+◌, ◌≤◌, ◌<◌, zero-le}
use mathlib.Core.Bool.{Bool, ◌&&◌}
use mathlib.Core.List.{List}
use mathlib.Core.Logic.{⊎_elim}
use mathlib.Core.Path.{◌≡◌, refl, sym, ap, ap₂, ◌∙◌}
use native.Mathlib.Omega.{arith}
use borrow.Author.Tests.{le-leb, lt-leb, eq-eqb, ne_eqb}
use lib.Dec.{eqb, leb}
use lib.ListN.{get_or}
use Rattle.rules.specs.Job.{Job}
use Rattle.sets.specs.Sets.{one, count}
use Rattle.sets.proofs.Bits.{below_or, same_or}
use Rattle.sets.proofs.Sizes.{count_add, count_ext, count_none}
use Rattle.backward.specs.Index.{next_into, index_size, Indexed}
use Rattle.backward.proofs.Listing.{next_none, next_here, next_over}
use Rattle.backward.proofs.Walking.{count_over, count_differ}

module _ (j : Job) (v : ℕ) where
  -- how often v is the first record from k on of a state, and how often it is the next after a record from k on
  abbrev firsts_of : ℕ → ℕ
  firsts_of k = count (λ t. eqb (next_into j t k) v) j.states

  abbrev after_is : ℕ → Bool
  after_is i = eqb (next_into j (j.move i).outcome (i + 1)) v

  abbrev afters_of : ℕ → ℕ
  afters_of k = count (λ i. leb k i && after_is i) j.records

  held_end : v < j.records → firsts_of j.records + afters_of j.records ≡ 0
  held_end h =
      let a : firsts_of j.records ≡ 0 =
      count_over (λ t. eqb (next_into j t j.records) v) 0 j.states zero-le
      (λ t l g. rw (next_none j t) (ne_eqb j.records v (λ e. omega arith))) ∙ count_none (λ t. eqb (next_into j t j.records) v) in
      let b : afters_of j.records ≡ 0 =
      count_over (λ i. leb j.records i && after_is i) 0 j.records zero-le (λ i l g. rw (lt-leb j.records i g))
      ∙ count_none (λ i. leb j.records i && after_is i) in
      omega arith

  module _ (outcomes : (i : ℕ) → i < j.records → (j.move i).outcome < j.states) where
    held_step : (k : ℕ) → k < j.records → firsts_of k + afters_of k ≡ firsts_of (k + 1) + afters_of (k + 1) + one (eqb k v)
    held_step k h =
        let o = (j.move k).outcome in
        let x : firsts_of k + one (after_is k) ≡ firsts_of (k + 1) + one (eqb (next_into j o k) v) =
        count_differ (λ t. eqb (next_into j t k) v) (λ t. eqb (next_into j t (k + 1)) v) o j.states (outcomes k h)
        (λ t n. rw (next_over j t k (λ e. n (sym e)))) in
        let z : one (eqb (next_into j o k) v) ≡ one (eqb k v) = rw (next_here j o k h refl) in
        let y : afters_of (k + 1) + one (leb k k && after_is k) ≡ afters_of k + one (leb (k + 1) k && after_is k) =
        count_differ (λ i. leb (k + 1) i && after_is i) (λ i. leb k i && after_is i) k j.records h
        (λ i n. ap (λ (b : Bool). b && after_is i) (apart i n)) in
        let y' : afters_of (k + 1) + one (after_is k) ≡ afters_of k + 0 =
        rw (le-leb k k (omega arith), lt-leb (k + 1) k (omega arith)) at y in
        omega (arith, x, z, y')
      where
        apart : (i : ℕ) → (i ≡ k → ⊥) → leb (k + 1) i ≡ leb k i
        apart i n =
            ⊎_elim
            (λ (l : i < k). lt-leb (k + 1) i (omega arith) ∙ sym (lt-leb k i l))
            (λ (l : k ≤ i). le-leb (k + 1) i (omega arith) ∙ sym (le-leb k i l))
            (below_or i k)

    -- from record k on: v is there once if it is one of these, and else not
    held : v < j.records → (n k : ℕ) → k + n ≡ j.records → firsts_of k + afters_of k ≡ one (leb k v)
    held h zero k e =
        let z : k ≡ j.records = omega arith in
        rw (z, lt-leb j.records v h) (held_end h)
    held h (suc n) k e = step (held h n (k + 1) (omega arith))
      where
        step : firsts_of (k + 1) + afters_of (k + 1) ≡ one (leb (k + 1) v) → firsts_of k + afters_of k ≡ one (leb k v)
        step r =
            held_step k (omega arith)
            ∙ ⊎_elim
            (λ (q : k ≡ v). rw (r, eq-eqb k v q, lt-leb (k + 1) v (omega arith), le-leb k v (omega arith)))
            (λ (q : k ≡ v → ⊥). rw (r, ne_eqb k v q)
            (⊎_elim
            (λ (l : v < k). rw (lt-leb (k + 1) v (omega arith), lt-leb k v l))
            (λ (l : k ≤ v). rw (le-leb (k + 1) v (omega arith), le-leb k v l))
            (below_or v k)))
            (same_or k v)

    -- exactly one word of the index is record v
    pub held_once : {before index : List ℕ} → Indexed j before index → v < j.records
        → count (λ y. eqb (get_or index y 0) v) (index_size j) ≡ 1
    held_once {before} {index} x h =
        let e : 0 + j.records ≡ j.records = omega arith in
        count_add (λ y. eqb (get_or index y 0) v) j.states j.records
        ∙ ap₂ (λ (a b : ℕ). a + b)
        (count_ext (λ y. eqb (get_or index y 0) v) (λ t. eqb (next_into j t 0) v) j.states (λ t l. rw (x.firsts t l)))
        (count_ext (λ i. eqb (get_or index (j.states + i) 0) v) (λ i. leb 0 i && after_is i) j.records
        (λ i l. rw (x.afters i zero-le l, le-leb 0 i zero-le)))
        ∙ held h j.records 0 e
        ∙ rw (le-leb 0 v zero-le)
