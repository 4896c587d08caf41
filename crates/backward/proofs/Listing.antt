-- The laws of the index: one record more, and what going from a record to the next passes over.
use Prim.Native.Nat.{ℕ, zero, suc, ◌+◌, ◌≤◌, ◌<◌, zero-le, suc-le-suc}
use mathlib.Core.Bool.{Bool, true, false, ◌&&◌, and-false}
use mathlib.Core.List.{List}
use mathlib.Core.Logic.{⊎_elim, ◌↔◌}
use mathlib.Core.Path.{◌≡◌, refl, sym, ap, ◌∙◌}
use native.Mathlib.Omega.{arith}
use borrow.Author.Tests.{lt-ltb, le-ltb, le-leb, lt-leb, eq-eqb, ne_eqb}
use lib.Dec.{eqb, leb}
use lib.ListN.{length, get_or, set, length-set}
use Rattle.game.specs.Below.{some_below}
use Rattle.rules.specs.Job.{Job}
use Rattle.sets.proofs.Bits.{below_or, same_or}
use Rattle.game.proofs.Search.{lowest, lowest_at, lowest_ext, least_unique, clash, if_not_true, either}
use Rattle.game.proofs.Tests.{and_iff, leb_iff, eqb_iff, some_met, some_stops}
use Rattle.backward.specs.Words.{Filled}
use Rattle.backward.proofs.Filling.{stored}
use Rattle.backward.specs.Index.{next_into, Indexing, Linked}

-- ---- the search for the lowest number

pub lowest_none : (f : ℕ → Bool) (n : ℕ) → ((i : ℕ) → i < n → f i ≡ false) → lowest f n ≡ n
unfolding lowest
lowest_none f zero h = refl
lowest_none f (suc n) h = rw (h zero (omega arith), lowest) (ap suc (lowest_none (λ i. f (suc i)) n (λ i l. h (suc i) (omega arith))))

pub lowest_le : (f : ℕ → Bool) (n : ℕ) → lowest f n ≤ n
unfolding lowest
lowest_le f zero = zero-le
lowest_le f (suc n) = go (f zero) refl (lowest_le (λ i. f (suc i)) n)
  where
    go : (b : Bool) → f zero ≡ b → lowest (λ i. f (suc i)) n ≤ n → lowest f (suc n) ≤ suc n
    go true z r = rw (z, lowest) zero-le
    go false z r = rw (z, lowest) (suc-le-suc r)

-- what lies before it does not pass, and it passes itself
pub lowest_misses : (f : ℕ → Bool) (n i : ℕ) → i < lowest f n → f i ≡ false
lowest_misses f n i h =
    if_not_true (f i)
    (λ e. let l = lowest_at f n i (omega (arith, lowest_le f n)) e in let g : lowest f n ≤ i = l.1.1 i e in omega arith)

pub lowest_passes : (f : ℕ → Bool) (n : ℕ) → lowest f n < n → f (lowest f n) ≡ true
lowest_passes f n h = ⊎_elim found none (either (some_below n f))
  where
    found : some_below n f ≡ true → f (lowest f n) ≡ true
    found e = let t = some_met f n e in (lowest_at f n t.0 t.1 t.2).1.0

    none : some_below n f ≡ false → f (lowest f n) ≡ true
    none e =
        let z : lowest f n ≡ n = lowest_none f n (λ i l. if_not_true (f i) (λ y. clash (some_stops f n i l y) e)) in
        absurd (omega arith)

-- ---- from a record to the next that leads to t

-- from k on, h is the first record that leads to t, or the count of records
pub record Skips (j : Job) (t k h : ℕ) : Type 0 where
  pub past : k ≤ h
  pub few : h ≤ j.records
  pub none : (i : ℕ) → k ≤ i → i < h → (j.move i).outcome ≡ t → ⊥
  pub leads : h < j.records → (j.move h).outcome ≡ t

module _ (j : Job) (t : ℕ) where
  abbrev leads_from : ℕ → ℕ → Bool
  leads_from k i = leb k i && eqb (j.move i).outcome t

  leads_from_iff : (k i : ℕ) → (leads_from k i ≡ true) ↔ ((k ≤ i) × ((j.move i).outcome ≡ t))
  leads_from_iff k i = and_iff (leb_iff k i) (eqb_iff (j.move i).outcome t)

  pub next_skips : (k : ℕ) → k ≤ j.records → Skips j t k (next_into j t k)
  next_skips k g =
      let f = leads_from k in
      let few : next_into j t k ≤ j.records = lowest_le f j.records in
      let hit : next_into j t k < j.records → (k ≤ next_into j t k) × ((j.move (next_into j t k)).outcome ≡ t) =
      λ l. (leads_from_iff k (next_into j t k)).0 (lowest_passes f j.records l) in
      record {
        past = ⊎_elim (λ (l : next_into j t k < j.records). (hit l).0) (λ (l : j.records ≤ next_into j t k). omega arith)
            (below_or (next_into j t k) j.records);
        few = few;
        none = λ i a b e. clash ((leads_from_iff k i).1 (a, e)) (lowest_misses f j.records i b);
        leads = λ l. (hit l).1;
      }

  pub next_none : next_into j t j.records ≡ j.records
  next_none = lowest_none (leads_from j.records) j.records (λ i l. rw (lt-leb j.records i l))

  pub next_here : (k : ℕ) → k < j.records → (j.move k).outcome ≡ t → next_into j t k ≡ k
  next_here k h e =
      let hit = (leads_from_iff k k).1 (omega arith, e) in
      least_unique (lowest_at (leads_from k) j.records k h hit).1 (hit, λ m q. ((leads_from_iff k m).0 q).0)

  pub next_over : (k : ℕ) → ((j.move k).outcome ≡ t → ⊥) → next_into j t (k + 1) ≡ next_into j t k
  next_over k n = lowest_ext (leads_from (k + 1)) (leads_from k) j.records (λ i l. ⊎_elim (at i) (off i) (same_or i k))
    where
      at : (i : ℕ) → i ≡ k → leads_from (k + 1) i ≡ leads_from k i
      at i e = rw (e, ne_eqb (j.move k).outcome t n, and-false (leb (k + 1) k), and-false (leb k k))

      off : (i : ℕ) → (i ≡ k → ⊥) → leads_from (k + 1) i ≡ leads_from k i
      off i d =
          ⊎_elim
          (λ (l : i < k). rw (lt-leb (k + 1) i (omega arith), lt-leb k i l))
          (λ (l : k ≤ i). rw (le-leb (k + 1) i (omega arith), le-leb k i l))
          (below_or i k)

-- ---- building it

pub indexing_none : {j : Job} {before now : List ℕ} → Filled j.states j.records before now → Indexing j j.records now now
indexing_none {j} f =
    record {
      as_long = refl;
      firsts = λ t h. f.words t ∙ rw (lt-ltb t j.states h) (sym (next_none j t));
      afters = λ i h g. absurd (omega arith);
      rest = λ y h. refl;
    }

-- what was there before the words were filled
pub indexing_from : {j : Job} {k : ℕ} {before filled now : List ℕ} → Filled j.states j.records before filled → Indexing j k filled now
    → Indexing j k before now
indexing_from {j} f x =
    record {
      as_long = x.as_long ∙ f.as_long;
      firsts = x.firsts;
      afters = x.afters;
      rest = λ y h. x.rest y h ∙ f.words y ∙ rw (le-ltb y j.states (omega arith));
    }

pub indexing_more : {j : Job} {k t : ℕ} {before now now' : List ℕ} → Indexing j (k + 1) before now → k < j.records
    → t ≡ (j.move k).outcome → t < j.states → Linked j.states k t now now' → Indexing j k before now'
indexing_more {j} {k} {t} {before} {now} {now'} x h e b n =
    record {
      as_long = n.as_long ∙ x.as_long;
      firsts = λ s l. n.words s ∙ rw (ne_eqb s (j.states + k) (λ q. omega arith))
          (⊎_elim
          (λ (q : s ≡ t). rw (eq-eqb s t q) (sym (next_here j s k h (sym e ∙ sym q))))
          (λ (q : s ≡ t → ⊥). rw (ne_eqb s t q) (x.firsts s l ∙ next_over j s k (λ r. q (sym r ∙ sym e))))
          (same_or s t));
      afters = λ i l g. n.words (j.states + i) ∙ rw (ne_eqb (j.states + i) t (λ q. omega arith))
          (⊎_elim
          (λ (q : i ≡ k). rw (eq-eqb (j.states + i) (j.states + k) (omega arith), q, ← e) (x.firsts t b))
          (λ (q : i ≡ k → ⊥). rw (ne_eqb (j.states + i) (j.states + k) (λ r. q (omega arith))) (x.afters i (omega arith) g))
          (same_or i k));
      rest = λ y l. n.words y ∙ rw (ne_eqb y t (λ q. omega arith), ne_eqb y (j.states + k) (λ q. omega arith)) (x.rest y l);
    }

-- the two stores
pub linked : {states k t : ℕ} {ws : List ℕ} → t < states → states + k < length ws
    → Linked states k t ws (set (set ws (states + k) (get_or ws t 0)) t k)
linked {states} {k} {t} {ws} h l =
    let w = set ws (states + k) (get_or ws t 0) in
    let n : length w ≡ length ws = length-set ws (states + k) (get_or ws t 0) in
    record {
      as_long = length-set w t k ∙ n;
      words = λ y. stored w t k y (omega arith) ∙ rw (stored ws (states + k) (get_or ws t 0) y l);
    }
