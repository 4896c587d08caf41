-- The totals of any list of jobs are those that adding its jobs one by one gives, there is only one such record, and another order of the
-- jobs changes nothing but which job is the first with the largest number.
use Prim.Native.Nat.{ℕ, zero, suc, ◌+◌, ◌*◌, ◌≤◌, ◌<◌}
use mathlib.Core.Bool.{Bool, true, false, cond}
use mathlib.Core.List.Memᴰ
use mathlib.Core.List.Permᴰ
use mathlib.Core.List.{List, [], ◌∷◌, ◌++◌, append_assoc, append-nil, Memᴰ, Permᴰ}
use mathlib.Core.Logic.{◌⊎◌, inl, inr, ⊎_elim, ◌≢◌}
use mathlib.Core.Path.{◌≡◌, refl, sym, ap, subst, ◌∙◌}
use native.Mathlib.Omega.{arith}
use native.Mathlib.Nat.{add-zero, le_refl, le_trans, mul-le-mul}
use native.Mathlib.Numerals.{add-one}
use borrow.Author.Tests.{ltb-true, ltb-false}
use lib.Dec.{ltb}
use lib.ListN.{length, get_or, set, length-append, length-set}
use lib.Seq.{get_or-set_same, get_or-set_other, ext_get_or}
use Rattle.sets.proofs.Bits.{same_or}
use Rattle.totals.specs.Classes.{In, WinsBy, HopesBy, Falls, winning, pending, losing, refused, line, winning_number, pending_number}
use Rattle.totals.specs.Lists.{HowMany, many_none, Sum, sum_none, First}
use Rattle.totals.specs.Totals.{count, no_totals, larger_number, larger, added}
use Rattle.totals.specs.Reported.{sum, LargestOf, nothing, number, Reported, Gathered}
use Rattle.totals.specs.declared.class.Class.{Class}
use Rattle.std.specs.Prelude.{Option, Some, None}
use Rattle.totals.specs.declared.tally.Largest.{Largest}
use Rattle.totals.specs.declared.tally.Totals.{Totals}
use Rattle.totals.proofs.Lists.{mem_last, mem_permuted, many_more, many_same, many_few, many_unique, many_permuted}
use Rattle.totals.proofs.Lists.{sum_more, sum_same, sum_few, sum_unique, sum_permuted, first_kept, first_new, first_found, first_unique}
use Rattle.totals.proofs.Falling.{line_below, falls_in, falls_alone, not_winning, not_pending, wins_same, hopes_same, wins_few, hopes_few}
use Rattle.totals.proofs.Falling.{refused_after, falls_exists}

-- ---- one job more

last_length : (bs : List (List ℕ)) (b : List ℕ) → length (bs ++ (b ∷ [])) ≡ length bs + 1
last_length bs b = length-append bs (b ∷ [])

-- one more in line i is one more in all
sum_set : (xs : List ℕ) (i : ℕ) → i < length xs → sum (set xs i (get_or xs i 0 + 1)) ≡ sum xs + 1
sum_set [] i h = absurd (omega arith)
sum_set (x ∷ xs) zero h = omega arith
sum_set (x ∷ xs) (suc i) h = omega (arith, sum_set xs i (omega arith))

module _ {bs : List (List ℕ)} {t : Totals} (r : Reported bs t) {b : List ℕ} {c : Class} (f : Falls b c) where
  counts_more : (k : ℕ) → k < 11 → HowMany (In k) (bs ++ (b ∷ [])) (count (added t c) k)
  counts_more k h = go (same_or k (line c))
    where
      here : line c < length t.counts
      here = omega (arith, line_below c, r.lines)

      go : (k ≡ line c) ⊎ (k ≡ line c → ⊥) → HowMany (In k) (bs ++ (b ∷ [])) (count (added t c) k)
      go (inl e) =
          subst (λ (i : ℕ). HowMany (In i) (bs ++ (b ∷ [])) (count (added t c) i)) (sym e)
          (rw (get_or-set_same t.counts (line c) (count t (line c) + 1) 0 here, add-one (count t (line c)))
          (many_more (r.counts (line c) (line_below c)) (falls_in f)))
      go (inr d) =
          rw (get_or-set_other t.counts (line c) k (count t (line c) + 1) 0 d)
          (many_same (r.counts k h) (λ i. d (falls_alone f k h i)))

  winning_more : Sum WinsBy (bs ++ (b ∷ [])) (t.winning_sum + winning_number c)
  winning_more = go f
    where
      other : {d : Class} → Falls b d → line d ≢ 0 → Sum WinsBy (bs ++ (b ∷ [])) (t.winning_sum + 0)
      other g n = rw (add-zero t.winning_sum) (sum_same r.winning_sum (not_winning g n))

      go : {d : Class} → Falls b d → Sum WinsBy (bs ++ (b ∷ [])) (t.winning_sum + winning_number d)
      go (winning w) = sum_more r.winning_sum w
      go (pending w) = other (pending w) (λ e. omega arith)
      go (losing w) = other (losing w) (λ e. omega arith)
      go (refused {n = n} w d) = other (refused w d) (λ e. omega (arith, refused_after n))

  pending_more : Sum HopesBy (bs ++ (b ∷ [])) (t.pending_sum + pending_number c)
  pending_more = go f
    where
      other : {d : Class} → Falls b d → line d ≢ 1 → Sum HopesBy (bs ++ (b ∷ [])) (t.pending_sum + 0)
      other g n = rw (add-zero t.pending_sum) (sum_same r.pending_sum (not_pending g n))

      go : {d : Class} → Falls b d → Sum HopesBy (bs ++ (b ∷ [])) (t.pending_sum + pending_number d)
      go (winning w) = other (winning w) (λ e. omega arith)
      go (pending w) = sum_more r.pending_sum w
      go (losing w) = other (losing w) (λ e. omega arith)
      go (refused {n = n} w d) = other (refused w d) (λ e. omega (arith, refused_after n))

-- ---- the largest

module _ (bs : List (List ℕ)) (b : List ℕ) where
  -- a job that does not win changes nothing
  largest_same : {l : Option Largest} → LargestOf bs l → ((m : ℕ) → WinsBy m b → ⊥) → LargestOf (bs ++ (b ∷ [])) l
  largest_same (nothing h) q =
      nothing (λ n a m w. ⊎_elim (λ k. h n a k w) (λ (e : a ≡ b). q n (subst (WinsBy n) e w)) (mem_last bs b m))
  largest_same (number {n} f h) q =
      number (first_kept (b ∷ []) f)
      (λ m a k w. ⊎_elim (λ j. h m a j w) (λ (e : a ≡ b). absurd (q m (subst (WinsBy m) e w))) (mem_last bs b k))

  -- of jobs whose numbers are at most n, where b has the number k: no number is above both
  bounded : (n k most : ℕ) → WinsBy k b → ((m : ℕ) (a : List ℕ) → Memᴰ a bs → WinsBy m a → m ≤ n) → n ≤ most → k ≤ most
      → (m : ℕ) (a : List ℕ) → Memᴰ a (bs ++ (b ∷ [])) → WinsBy m a → m ≤ most
  bounded n k most v h nm km m a i w =
      ⊎_elim (λ j. omega (arith, h m a j w)) (λ (e : a ≡ b). omega (arith, wins_same m k (subst (WinsBy m) e w) v)) (mem_last bs b i)

  largest_wins : {l : Option Largest} (k : ℕ) → LargestOf bs l → WinsBy k b → LargestOf (bs ++ (b ∷ [])) (larger_number l (length bs) k)
  largest_wins k (nothing h) v =
      number (first_new bs (λ a m w. h k a m w) v) (bounded 0 k k v (λ m a i w. absurd (h m a i w)) (omega arith) (omega arith))
  largest_wins k (number {n} {i} f h) v = go (ltb n k) refl
    where
      go : (x : Bool) → ltb n k ≡ x
          → LargestOf (bs ++ (b ∷ [])) (cond x (Some (record { number = k; job = length bs })) (Some (record { number = n; job = i })))
      go true e =
          let less : n < k = ltb-true n k e in
          number (first_new bs (λ a m w. omega (arith, h k a m w)) v) (bounded n k k v h (omega arith) (omega arith))
      go false e = number (first_kept (b ∷ []) f) (bounded n k n v h (omega arith) (ltb-false n k e))

module _ {bs : List (List ℕ)} {t : Totals} (r : Reported bs t) {b : List ℕ} where
  largest_more : {c : Class} → Falls b c → LargestOf (bs ++ (b ∷ [])) (larger t.largest t.jobs c)
  largest_more (winning {n = n} w) = rw r.jobs (largest_wins bs b n r.largest w)
  largest_more (pending w) = largest_same bs b r.largest (not_winning (pending w) (λ e. omega arith))
  largest_more (losing w) = largest_same bs b r.largest (not_winning (losing w) (λ e. omega arith))
  largest_more (refused {n = n} w d) =
      largest_same bs b r.largest (not_winning (refused w d) (λ e. omega (arith, refused_after n)))

  -- The step: where t are the totals of some jobs and b falls in the class c, the totals with b too are `added t c`.
  pub reported_more : {c : Class} → Falls b c → Reported (bs ++ (b ∷ [])) (added t c)
  reported_more {c} f = record {
    jobs = omega (arith, r.jobs, last_length bs b);
    lines = length-set t.counts (line c) (count t (line c) + 1) ∙ r.lines;
    counts = counts_more r f;
    all = omega (arith, sum_set t.counts (line c) (omega (arith, line_below c, r.lines)), r.all, last_length bs b);
    winning_sum = winning_more r f;
    pending_sum = pending_more r f;
    largest = largest_more f;
  }

no_count : (k : ℕ) → 0 ≡ count no_totals k
no_count zero = refl
no_count (suc zero) = refl
no_count (suc (suc zero)) = refl
no_count (suc (suc (suc zero))) = refl
no_count (suc (suc (suc (suc zero)))) = refl
no_count (suc (suc (suc (suc (suc zero))))) = refl
no_count (suc (suc (suc (suc (suc (suc zero)))))) = refl
no_count (suc (suc (suc (suc (suc (suc (suc zero))))))) = refl
no_count (suc (suc (suc (suc (suc (suc (suc (suc zero)))))))) = refl
no_count (suc (suc (suc (suc (suc (suc (suc (suc (suc zero))))))))) = refl
no_count (suc (suc (suc (suc (suc (suc (suc (suc (suc (suc zero)))))))))) = refl
no_count (suc (suc (suc (suc (suc (suc (suc (suc (suc (suc (suc k))))))))))) = refl

pub reported_none : Reported [] no_totals
reported_none = record {
  jobs = refl;
  lines = refl;
  counts = λ k h. subst (HowMany (In k) []) (no_count k) many_none;
  all = refl;
  winning_sum = sum_none;
  pending_sum = sum_none;
  largest = nothing (λ n b m w. absurd (Memᴰ.not-nil m));
}

-- ---- any list of jobs

-- each job of the list falls in the class of the other list
pub data AllFall : List (List ℕ) → List Class → Type 0 where
  no_job : AllFall [] []
  next_job : {b : List ℕ} {bs : List (List ℕ)} {c : Class} {cs : List Class} → Falls b c → AllFall bs cs → AllFall (b ∷ bs) (c ∷ cs)

-- the totals t, with these classes added one by one
abbrev pub all_added : Totals → List Class → Totals
all_added t [] = t
all_added t (c ∷ cs) = all_added (added t c) cs

added_on : (xs : List (List ℕ)) {bs : List (List ℕ)} {cs : List Class} {t : Totals} → Reported xs t → AllFall bs cs
    → Reported (xs ++ bs) (all_added t cs)
added_on xs {t = t} r no_job = subst (λ (ys : List (List ℕ)). Reported ys t) (sym (append-nil xs)) r
added_on xs {t = t} r (next_job {b} {bs} {c} {cs} f fs) =
    subst (λ (ys : List (List ℕ)). Reported ys (all_added (added t c) cs)) (append_assoc xs (b ∷ []) bs)
    (added_on (xs ++ (b ∷ [])) (reported_more r f) fs)

-- Adding the classes of any list of jobs one by one to the totals of none gives the totals of the list.
pub totals_added : {bs : List (List ℕ)} {cs : List Class} → AllFall bs cs → Reported bs (all_added no_totals cs)
totals_added fs = added_on [] reported_none fs

-- and every list of jobs has such classes, so it has totals
classes_exist : (bs : List (List ℕ)) → (cs : List Class) × AllFall bs cs
classes_exist [] = ([], no_job)
classes_exist (b ∷ bs) =
    let (c, f) = falls_exists b in
    let (cs, fs) = classes_exist bs in
    (c ∷ cs, next_job f fs)

pub totals_exist : (bs : List (List ℕ)) → (t : Totals) × Reported bs t
totals_exist bs = let (cs, fs) = classes_exist bs in (all_added no_totals cs, totals_added fs)

-- ---- any other order

-- the number of a largest, if there is one
abbrev pub number_of : Option Largest → List ℕ
number_of None = []
number_of (Some l) = l.number ∷ []

largest_number : {bs cs : List (List ℕ)} {l k : Option Largest} → Permᴰ bs cs → LargestOf bs l → LargestOf cs k → number_of l ≡ number_of k
largest_number p (nothing h) (nothing g) = refl
largest_number p (nothing h) (number {n} f g) =
    let (b, m, w) = first_found f in absurd (h n b (mem_permuted (Permᴰ.symm p) m) w)
largest_number p (number {n} f h) (nothing g) = let (b, m, w) = first_found f in absurd (g n b (mem_permuted p m) w)
largest_number p (number {n = m} f h) (number {n = n} g k) =
    let (b, i, v) = first_found f in
    let (c, j, w) = first_found g in
    let e : m ≡ n = omega (arith, k m b (mem_permuted p i) v, h n c (mem_permuted (Permᴰ.symm p) j) w) in
    λ x. e x ∷ []

-- what is the same in any order
pub record Alike (t u : Totals) : Type 0 where
  pub jobs : t.jobs ≡ u.jobs
  pub counts : t.counts ≡ u.counts
  pub winning_sum : t.winning_sum ≡ u.winning_sum
  pub pending_sum : t.pending_sum ≡ u.pending_sum
  pub number : number_of t.largest ≡ number_of u.largest

-- Any reordering of the jobs leaves everything but the first job with the largest number as it is.
pub reordered : {bs cs : List (List ℕ)} {t u : Totals} → Permᴰ bs cs → Reported bs t → Reported cs u → Alike t u
reordered {bs} {cs} {t} {u} p r s = record {
  jobs = sym (r.all ∙ sym r.jobs) ∙ ap sum same ∙ (s.all ∙ sym s.jobs);
  counts = same;
  winning_sum = sum_unique (λ x m n v w. wins_same m n v w) (sum_permuted p r.winning_sum) s.winning_sum;
  pending_sum = sum_unique (λ x m n v w. hopes_same m n v w) (sum_permuted p r.pending_sum) s.pending_sum;
  number = largest_number p r.largest s.largest;
}
  where
    same : t.counts ≡ u.counts
    same =
        ext_get_or 0 t.counts u.counts (r.lines ∙ sym s.lines)
        (λ k h. many_unique (many_permuted p (r.counts k (omega (arith, r.lines)))) (s.counts k (omega (arith, r.lines))))

-- ---- one record only

largest_unique : {bs : List (List ℕ)} {l k : Option Largest} → LargestOf bs l → LargestOf bs k → l ≡ k
largest_unique (nothing h) (nothing g) = refl
largest_unique (nothing h) (number {n} f g) = let (b, m, w) = first_found f in absurd (h n b m w)
largest_unique (number {n} f h) (nothing g) = let (b, m, w) = first_found f in absurd (g n b m w)
largest_unique {bs} (number {n = m} {i} f h) (number {n = n} {i = j} g k) =
    let (b, x, v) = first_found f in
    let (c, y, w) = first_found g in
    let e : m ≡ n = omega (arith, k m b x v, h n c y w) in
    let o : i ≡ j = first_unique (subst (λ (z : ℕ). First (WinsBy z) bs i) e f) g in
    λ z. Some (record { number = e z; job = o z })

-- Two records of totals of one list are the same.
pub reported_unique : {bs : List (List ℕ)} {t u : Totals} → Reported bs t → Reported bs u → t ≡ u
reported_unique {bs} r s =
    let a = reordered (Permᴰ.refl bs) r s in
    let l = largest_unique r.largest s.largest in
    λ i. record {
      jobs = a.jobs i;
      counts = a.counts i;
      winning_sum = a.winning_sum i;
      pending_sum = a.pending_sum i;
      largest = l i;
    }

-- ---- nothing overflows: what at most n jobs come to

module _ {t : Totals} {n : ℕ} (g : Gathered t n) where
  pub few_jobs : t.jobs ≤ n
  few_jobs = omega (arith, g.1.jobs, g.2)

  pub few_counted : (k : ℕ) → k < 11 → count t k ≤ n
  few_counted k h = omega (arith, many_few (g.1.counts k h), g.2)

  pub few_winning : t.winning_sum ≤ n * 16383
  few_winning = le_trans (sum_few 16383 (λ m b w. wins_few m w) g.1.winning_sum) (mul-le-mul g.2 (le_refl 16383))

  pub few_pending : t.pending_sum ≤ n * 16383
  few_pending = le_trans (sum_few 16383 (λ m b w. hopes_few m w) g.1.pending_sum) (mul-le-mul g.2 (le_refl 16383))
