-- The index holds every record exactly once: going along it from a state's first record gives the records that lead to the state, in record
-- order, and each record is among those of its own outcome once and among no others.
use Prim.Native.Nat.{ℕ, zero, suc, ◌+◌, ◌≤◌, ◌<◌, zero-le}
use mathlib.Core.Bool.{cond, ◌&&◌, and-false, and-true}
use mathlib.Core.List.{List, [], ◌∷◌, ◌++◌, append_assoc, append-nil}
use mathlib.Core.Logic.{⊎_elim}
use mathlib.Core.Path.{◌≡◌, refl, sym, ap, ◌∙◌}
use native.Mathlib.Nat.{add-zero}
use native.Mathlib.Numerals.{add-one}
use native.Mathlib.Omega.{arith}
use borrow.Author.Tests.{le-leb, lt-leb, eq-eqb, ne_eqb}
use lib.Dec.{eqb}
use lib.ListN.{get_or}
use Rattle.rules.specs.Job.{Job}
use Rattle.sets.specs.Sets.{one}
use Rattle.sets.proofs.Bits.{same_or}
use Rattle.game.proofs.Lists.{how_many}
use Rattle.backward.specs.Index.{next_into, Indexed, leading, walk}
use Rattle.backward.proofs.Counting.{how_many_append, how_many_one}
use Rattle.backward.proofs.Listing.{next_none, next_here, next_over}

module _ (j : Job) (t : ℕ) where
  abbrev if_leads : ℕ → List ℕ
  if_leads k = cond (eqb (j.move k).outcome t) (k ∷ []) []

  -- the n records from k on that lead to t
  abbrev later : ℕ → ℕ → List ℕ
  later k zero = []
  later k (suc n) = if_leads k ++ later (suc k) n

  split : (k n : ℕ) → leading j t (k + n) ≡ leading j t k ++ later k n
  split k zero = ap (leading j t) (add-zero k) ∙ sym (append-nil (leading j t k))
  split k (suc n) =
      let e : k + suc n ≡ suc k + n = omega arith in
      ap (leading j t) e ∙ split (suc k) n ∙ append_assoc (leading j t k) (if_leads k) (later (suc k) n)

  module _ {before index : List ℕ} (x : Indexed j before index) where
    going : (n k m : ℕ) → k + n ≡ j.records → n ≤ m → walk j index m (next_into j t k) ≡ later k n
    going zero k m e h =
        let z : k ≡ j.records = omega arith in
        rw (z, next_none j t) (stops m)
      where
        stops : (m : ℕ) → walk j index m j.records ≡ []
        stops zero = refl
        stops (suc m) = rw (le-leb j.records j.records (omega arith))
    going (suc n) k m e h = next (λ m l. going n (suc k) m (omega arith) l)
      where
        next : ((m : ℕ) → n ≤ m → walk j index m (next_into j t (suc k)) ≡ later (suc k) n) → walk j index m (next_into j t k) ≡ later k
            (suc n)
        next r = ⊎_elim (here m h) over (same_or (j.move k).outcome t)
          where
            rest : (m : ℕ) → n ≤ m → walk j index m (next_into j t (k + 1)) ≡ later (suc k) n
            rest m l = rw (add-one k) (r m l)

            here : (m : ℕ) → suc n ≤ m → (j.move k).outcome ≡ t → walk j index m (next_into j t k) ≡ later k (suc n)
            here zero l q = absurd (omega arith)
            here (suc m) l q =
                rw (
                  next_here j t k (omega arith) q,
                  lt-leb j.records k (omega arith),
                  eq-eqb (j.move k).outcome t q,
                  x.afters k
                      zero-le (omega arith),
                  q,
                )
                (ap (λ (r : List ℕ). k ∷ r) (rest m (omega arith)))

            over : ((j.move k).outcome ≡ t → ⊥) → walk j index m (next_into j t k) ≡ later k (suc n)
            over d = rw (← next_over j t k d, ne_eqb (j.move k).outcome t d) (rest m (omega arith))

    -- going along the index gives the records that lead to t, in record order
    pub walk_leading : t < j.states → walk j index j.records (get_or index t 0) ≡ leading j t j.records
    walk_leading h =
        let e : 0 + j.records ≡ j.records = omega arith in
        rw (x.firsts t h) (going j.records 0 j.records e (omega arith) ∙ sym (split 0 j.records) ∙ ap (leading j t) e)

  -- ---- how often a record is there

  abbrev times : ℕ → ℕ → ℕ
  times k n = how_many (λ i. eqb i k) (leading j t n)

  times_next : (k n : ℕ) → times k (suc n) ≡ times k n + one (eqb (j.move n).outcome t && eqb n k)
  times_next k n =
      how_many_append (λ i. eqb i k) (leading j t n) (if_leads n)
      ∙ ap (λ (m : ℕ). times k n + m) (how_many_one (λ i. eqb i k) (eqb (j.move n).outcome t) n)

  times_none : (k : ℕ) → times k 0 ≡ 0
  unfolding how_many
  times_none k = refl

  not_yet : (k n : ℕ) → n ≤ k → times k n ≡ 0
  not_yet k zero h = times_none k
  not_yet k (suc n) h =
      times_next k n
      ∙ rw (ne_eqb n k (λ e. omega arith), and-false (eqb (j.move n).outcome t)) (add-zero (times k n) ∙ not_yet k n (omega arith))

  -- a record leads to its outcome: there it is listed once, and nowhere else
  pub listed_once : (k n : ℕ) → k < n → times k n ≡ one (eqb (j.move k).outcome t)
  listed_once k zero h = absurd (omega arith)
  listed_once k (suc n) h = times_next k n ∙ ⊎_elim last (λ (d : n ≡ k → ⊥). earlier d (listed_once k n (omega arith))) (same_or n k)
    where
      last : n ≡ k → times k n + one (eqb (j.move n).outcome t && eqb n k) ≡ one (eqb (j.move k).outcome t)
      last e =
          let z : times k n ≡ 0 = not_yet k n (omega arith) in
          rw (eq-eqb n k e, and-true (eqb (j.move n).outcome t)) (omega (arith, z, ap (λ (i : ℕ). one (eqb (j.move i).outcome t)) e))

      earlier : (n ≡ k → ⊥) → times k n ≡ one (eqb (j.move k).outcome t) → times k n + one (eqb (j.move n).outcome t && eqb n k) ≡ one
          (eqb (j.move k).outcome t)
      earlier d r = rw (ne_eqb n k d, and-false (eqb (j.move n).outcome t)) (add-zero (times k n) ∙ r)
