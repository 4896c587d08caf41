-- The call that checks a plan: that its promise determines the figures, which numbers it gives, what its figures are besides, and what it
-- buys.
use Prim.Native.Nat.{ℕ, ◌≤◌, ◌<◌}
use mathlib.Core.Bool.{true}
use mathlib.Core.List.{List, []}
use mathlib.Core.Logic.{◌⊎◌, inl, inr, ◌↔◌, ◌≢◌}
use mathlib.Core.Path.{◌≡◌, refl, ap}
use native.Mathlib.Omega.{arith}
use lib.ListN.{length, replicate}
use Rattle.game.specs.Allowed.{Allowed, lost, met, wins, hopes}
use Rattle.game.specs.Game.{Arena, Play, last, Inside, Way, run, Obeys, Follows, says}
use Rattle.game.specs.Demands.{ValueTold, WinningKept, PendingKept}
use Rattle.game.specs.declared.entry.Entry.{Entry}
use Rattle.rules.specs.Job.{place, arena}
use Rattle.rules.specs.Fault.{Fault, only, with_record}
use Rattle.rules.specs.Bytes.{said}
use Rattle.rules.specs.Plan.{room}
use Rattle.rules.specs.Keeps.{Keeps}
use Rattle.rules.specs.Calls.{Planning, is_place, advice_of, advised}
use Rattle.rules.specs.Examples.{plate}
use Rattle.rules.specs.declared.place.Place.{Place}
use Rattle.game.proofs.Tests.{and_iff, ltb_iff}
use Rattle.rules.proofs.Figures.{known_by}
use Rattle.rules.proofs.Numbers.{Told}
use Rattle.rules.proofs.Planned.{entry_of}
use Rattle.checking.specs.Checking.{AllowedAt, Checking, refused, no_room, wrong, passed, Checks}
use Rattle.checking.proofs.Checked.{checking_unique, checked_exactly, WrongAt, wrong_at, own_always_passes}
use Rattle.checking.proofs.Demands.{passed_values, passed_followable, passed_on, passed_wins, passed_hopes}
use Rattle.cabinet.specs.Checks.{figures_checked}
use Rattle.cabinet.specs.declared.checks.CheckedFigures.{CheckedFigures}
use Rattle.cabinet.proofs.Advising.{advice_allowed}
use Rattle.cabinet.proofs.Ranges.{OfJob, alone, of_bytes, of_success, field_out, order_out}

-- what the call answers
abbrev pub CheckCalled : (b p : List ℕ) → CheckedFigures → Type 0
CheckCalled b p r = Checks b p (figures_checked r)

figures_checked_known : (f f' : CheckedFigures) → figures_checked f ≡ figures_checked f' → f ≡ f'
figures_checked_known =
    known_by figures_checked
    (λ f. record { refusal = f.fault.number; state = f.state; goal = f.goal; «record» = f.fault.«record» })
    (λ f. refl)

pub check_unique : {b p : List ℕ} (r r' : CheckedFigures) → CheckCalled b p r → CheckCalled b p r' → r ≡ r'
check_unique r r' x y =
    let (f, s, q) = checking_unique x y in figures_checked_known r r' (λ i. record { fault = f i; state = s i; goal = q i })

-- ---- 0, or what refuses a job's bytes, 7 or 16, and no other; 12 and 13 alone name a record, and 16 alone a place, one of the job's

abbrev pub OfChecking : ℕ → Type 0
OfChecking n = OfJob n ⊎ ((n ≡ 7) ⊎ (n ≡ 16))

pub check_range : {b p : List ℕ} (r : CheckedFigures) → CheckCalled b p r → Told OfChecking (figures_checked r).fault
check_range r c = go c
  where
    go : {b p : List ℕ} {f : Fault} {s q : ℕ} → Checking b p f s q → Told OfChecking f
    go {b} (refused n) = of_bytes b (λ n h. inl h)
    go (no_room e l) = alone 7 (inr (inl refl))
    go (wrong e l hs hq w f) = alone 16 (inr (inr refl))
    go (passed e l f) = alone 0 (inl of_success)

pub check_clear : {b p : List ℕ} (r : CheckedFigures) → CheckCalled b p r → r.refusal ≢ 16 → (r.state ≡ 0) × (r.goal ≡ 0)
check_clear r c = go c
  where
    go : {b p : List ℕ} {f : Fault} {s q : ℕ} → Checking b p f s q → f.number ≢ 16 → (s ≡ 0) × (q ≡ 0)
    go (refused n) d = (refl, refl)
    go (no_room e l) d = (refl, refl)
    go (wrong e l hs hq w f) d = absurd (d refl)
    go (passed e l f) d = (refl, refl)

pub check_inside : {b p : List ℕ} (r : CheckedFigures) → CheckCalled b p r → r.refusal ≡ 16 → WrongAt b p r.state r.goal
check_inside r c = wrong_at c

-- ---- each of them is given: 0 on every plan of ours; of One plate 7, and 16 where every byte of the plan is 0; of One plate with a bad
-- record 12 and 13

shapeless : {G : Arena} {p : G.Place} {x : Entry} → Allowed G p x → x ≡ says 0 0 0 → ⊥
shapeless (lost l) e = let z = ap (λ (x : Entry). x.action) e in omega arith
shapeless (met y) e = let z = ap (λ (x : Entry). x.action) e in omega arith
shapeless (wins u w s) e = let z = ap (λ (x : Entry). x.value) e in omega arith
shapeless (hopes h n s) e = let z = ap (λ (x : Entry). x.value) e in omega arith

pub check_given : Checking plate [] (only 7) 0 0
    × Checking plate (replicate 48 0) (only 16) 0 0
    × Checking field_out [] (with_record 12 3) 0 0
    × Checking order_out [] (with_record 13 5) 0 0
check_given = (
  no_room refl (omega arith),
  wrong {s = 0} {q = 0} refl (omega arith) (omega arith) (omega arith) (λ a. shapeless a refl) (λ t r ht hr l. absurd (omega arith)),
  refused (λ e. omega arith),
  refused (λ e. omega arith),
)

-- ---- what it says and what it buys

-- The answer is 0 exactly when the job keeps the rules, the plan is all there, and each entry is allowed on its own account.
pub check_exactly : {b p : List ℕ} (r : CheckedFigures) → CheckCalled b p r
    → (r.refusal ≡ 0) ↔ (Keeps b × (room (said b) ≤ length p)
    × ((s q : ℕ) → s < (said b).states → q < (said b).goals → AllowedAt b p s q))
check_exactly r c = checked_exactly c

-- A plan that planning left always passes.
pub own_plan_passes : {b before after : List ℕ} (r : CheckedFigures) → Planning b before (only 0) after → CheckCalled b after r
    → r.refusal ≡ 0
own_plan_passes r d c = let e = (own_always_passes d c).0 in (λ i. (e i).number)

-- A plan that passes says of each place what the place is, and can be followed; and whoever follows it, after any play, keeps the third
-- demand, as with a plan of our own.
module _ {b p : List ℕ} (r : CheckedFigures) (c : CheckCalled b p r) (z : r.refusal ≡ 0) where
  pub check_values : (t : Place) → Inside (arena (said b)) t → ValueTold (arena (said b)) t (entry_of b p t)
  check_values = passed_values c z

  pub check_ways : (h : Play Place) → Inside (arena (said b)) (last h) → (σ : Way (arena (said b)))
      × Follows (arena (said b)) (entry_of b p) σ h
  check_ways = passed_followable c z

  module _ (σ : Way (arena (said b))) (h : Play Place) (follows : Follows (arena (said b)) (entry_of b p) σ h)
      (i : Inside (arena (said b)) (last h)) where
    pub check_on : (o : ℕ → Place) → Obeys (arena (said b)) σ o h → (n : ℕ)
        → Follows (arena (said b)) (entry_of b p) σ (run (arena (said b)) σ o h n)
        × Inside (arena (said b)) (last (run (arena (said b)) σ o h n))
    check_on = passed_on c z σ h follows i

    pub check_winning : (entry_of b p (last h)).value ≡ 2 → WinningKept (arena (said b)) (entry_of b p) σ h
    check_winning = passed_wins c z σ h follows i

    pub check_pending : (entry_of b p (last h)).value ≡ 1 → PendingKept (arena (said b)) (entry_of b p) σ h
    check_pending = passed_hopes c z σ h follows i

  -- Advice on it is never refused at a place, and hands out its entries.
  pub check_advice : (s q : ℕ) → is_place (said b) s q ≡ true → advised b p s q ≡ advice_of (entry_of b p (place s q))
  check_advice s q h =
      let (keeps, long, allowed) = (checked_exactly c).0 z in
      let (hs, hq) = (and_iff (ltb_iff s (said b).states) (ltb_iff q (said b).goals)).0 h in
      advice_allowed b p keeps long s q h (allowed s q hs hq)
