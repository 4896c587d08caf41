-- Looking for the last number below n that passes a test, from above, and which records need no look.
use Prim.Native.Nat.{ℕ, zero, suc, ◌≤◌, ◌<◌}
use mathlib.Core.Bool.{Bool, true, false, or-false}
use mathlib.Core.List.{List}
use mathlib.Core.Logic.{◌⊎◌, inl, inr}
use mathlib.Core.Path.{◌≡◌, refl, sym, ◌∙◌}
use native.Mathlib.Nat.{eq-or-lt_of_le}
use native.Mathlib.Omega.{arith}
use Rattle.game.specs.Below.{some_below, last_below}
use Rattle.game.proofs.Search.{clash, if_not_true}
use Rattle.game.proofs.Tests.{some_met}
use Rattle.rules.specs.Job.{Job, is_from}
use Rattle.telling.specs.Ranges.{Together}
use Rattle.telling.specs.Spoilt.{spoils}
use Rattle.telling.proofs.Worst.{spoils_iff}

-- of the numbers below n none from k on passes
pub record Sought (n : ℕ) (f : ℕ → Bool) (k : ℕ) : Type 0 where
  pub few : k ≤ n
  pub some : some_below n f ≡ some_below k f
  pub last : last_below n f ≡ last_below k f

pub sought_begin : (n : ℕ) (f : ℕ → Bool) → Sought n f n
sought_begin n f = record { few = omega arith; some = refl; last = refl }

pub sought_down : {n : ℕ} {f : ℕ → Bool} (k : ℕ) → Sought n f (suc k) → f k ≡ false → Sought n f k
sought_down {n} {f} k s e =
    record {
      few = omega (arith, s.few);
      some = s.some ∙ rw e (or-false (some_below k f));
      last = s.last ∙ rw e;
    }

-- none from m on passes
pub sought_from : (n : ℕ) (f : ℕ → Bool) (m : ℕ) → m ≤ n → ((k : ℕ) → m ≤ k → k < n → f k ≡ false) → Sought n f m
sought_from zero f m h none = let z : m ≡ 0 = omega arith in rw z (sought_begin 0 f)
sought_from (suc n) f m h none = go (eq-or-lt_of_le h) (λ g. sought_from n f m g (λ k a b. none k a (omega arith)))
  where
    go : (m ≡ suc n) ⊎ (m < suc n) → (m ≤ n → Sought n f m) → Sought (suc n) f m
    go (inl e) rest = rw e (sought_begin (suc n) f)
    go (inr l) rest =
        let s = rest (omega arith) in
        let d = sought_down n (sought_begin (suc n) f) (none n (omega arith) (omega arith)) in
        record { few = h; some = d.some ∙ s.some; last = d.last ∙ s.last }

pub sought_found : {n : ℕ} {f : ℕ → Bool} (k : ℕ) → Sought n f (suc k) → f k ≡ true → (k < n) × (f k ≡ true) × (k ≡ last_below n f)
sought_found {n} {f} k s e = (omega (arith, s.few), e, sym (s.last ∙ rw e))

pub sought_none : {n : ℕ} {f : ℕ → Bool} {k : ℕ} → Sought n f k → ((i : ℕ) → i < k → f i ≡ false) → some_below n f ≡ false
sought_none {n} {f} {k} s none =
    s.some ∙ if_not_true (some_below k f) (λ e. let (i, h, t) = some_met f k e in clash t (none i h))

-- ---- records that lie together

-- a record that does not lie with those of the state and action does not spoil it
pub not_among : (j : Job) (p : List ℕ) (s q a v : ℕ) {low high : ℕ} → Together j (λ m. is_from m s a) low high
    → (k : ℕ) → k < j.records → (low ≤ k → k < high → ⊥) → spoils j p s q a v k ≡ false
not_among j p s q a v t k h out =
    if_not_true (spoils j p s q a v k)
    (λ e.
    let (low, high) = t.all k h ((spoils_iff j p s q a v k).0 e).0 in
    out low high)
