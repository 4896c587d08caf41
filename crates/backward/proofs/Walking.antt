-- Going along the index, from a record that leads to a state to the next.
use Prim.Native.Nat.{ℕ, zero, suc, ◌+◌, ◌≤◌, ◌<◌, zero-le}
use mathlib.Core.Bool.{Bool, false, or-false}
use mathlib.Core.List.{List}
use mathlib.Core.Logic.{⊎_elim}
use mathlib.Core.Path.{◌≡◌, refl, sym, ap, ◌∙◌}
use native.Mathlib.Decide.{le_ind}
use native.Mathlib.Nat.{add-zero}
use native.Mathlib.Numerals.{add-one}
use native.Mathlib.Omega.{arith}
use lib.ListN.{get_or}
use Rattle.sets.specs.Sets.{one, count}
use Rattle.game.specs.Below.{some_below}
use Rattle.rules.specs.Job.{Job}
use Rattle.sets.proofs.Sizes.{count_ext}
use Rattle.game.proofs.Tests.{last_or_below}
use Rattle.backward.specs.Index.{Lists}
use Rattle.backward.proofs.Listing.{Skips, next_skips}

module _ {j : Job} {index : List ℕ} (x : Lists j index) where
  pub first_skips : (t : ℕ) → t < j.states → Skips j t 0 (get_or index t 0)
  first_skips t h = rw (x.indexed.firsts t h) (next_skips j t 0 zero-le)

  pub after_skips : (t k : ℕ) → k < j.records → (j.move k).outcome ≡ t → Skips j t (k + 1) (get_or index (j.states + k) 0)
  after_skips t k h e = rw (x.indexed.afters k zero-le h, e) (next_skips j t (k + 1) (omega arith))

-- ---- counts and searches over the records that are passed

pub count_next : (f : ℕ → Bool) (k : ℕ) → count f (k + 1) ≡ count f k + one (f k)
unfolding count
count_next f k = rw (add-one k)

pub count_over : (f : ℕ → Bool) (k h : ℕ) → k ≤ h → ((i : ℕ) → k ≤ i → i < h → f i ≡ false) → count f h ≡ count f k
count_over f k h l n =
    le_ind (λ i. i ≤ h → count f i ≡ count f k) (λ g. refl)
    (λ i m e g. sym (ap (count f) (add-one i)) ∙ count_next f i ∙ rw (n i m g) (add-zero (count f i) ∙ e (omega arith))) h l (omega arith)

-- two tests that differ at o alone
pub count_differ : (f g : ℕ → Bool) (o n : ℕ) → o < n → ((i : ℕ) → (i ≡ o → ⊥) → f i ≡ g i) → count f n + one (g o) ≡ count g n + one (f o)
unfolding count
count_differ f g o zero h same = absurd (omega arith)
count_differ f g o (suc n) h same = ⊎_elim last (λ (l : o < n). before l (count_differ f g o n l same)) (last_or_below h)
  where
    last : o ≡ n → count f n + one (f n) + one (g o) ≡ count g n + one (g n) + one (f o)
    last e =
        let c : count f n ≡ count g n = count_ext f g n (λ i l. same i (λ d. omega arith)) in
        rw (e, c) (omega arith)

    before : o < n → count f n + one (g o) ≡ count g n + one (f o) → count f n + one (f n) + one (g o) ≡ count g n + one (g n) + one (f o)
    before l r = rw (same n (λ d. omega arith)) (omega arith)

pub some_over : (f : ℕ → Bool) (k h : ℕ) → k ≤ h → ((i : ℕ) → k ≤ i → i < h → f i ≡ false) → some_below h f ≡ some_below k f
some_over f k h l n =
    le_ind (λ i. i ≤ h → some_below i f ≡ some_below k f) (λ g. refl)
    (λ i m e g. rw (n i m g, e (omega arith)) (or-false (some_below k f))) h l (omega arith)
