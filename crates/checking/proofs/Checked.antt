-- The check has one answer, yes exactly when each entry is allowed, and our own plans always pass.
use Prim.Native.Nat.{ℕ, ◌+◌, ◌*◌, ◌/◌, ◌%◌, ◌≤◌, ◌<◌}
use mathlib.Core.List.{List}
use mathlib.Core.Logic.{inl, inr, ◌↔◌}
use mathlib.Core.Path.{◌≡◌, refl, sym, ◌∙◌, ap}
use native.Mathlib.Omega.{arith}
use lib.Arith.{digits_div, digits_mod}
use lib.ListN.{length}
use Rattle.game.proofs.Following.{right_allowed}
use Rattle.rules.specs.Job.{place, arena}
use Rattle.rules.specs.Fault.{Fault, only}
use Rattle.rules.specs.Bytes.{said}
use Rattle.rules.specs.Plan.{room}
use Rattle.rules.specs.Keeps.{Keeps}
use Rattle.rules.specs.Calls.{Planning}
use Rattle.rules.proofs.Kept.{kept}
use Rattle.rules.proofs.Numbers.{Among, told}
use Rattle.rules.proofs.Arenas.{inside_iff}
use Rattle.rules.proofs.Planned.{planned_exactly, planned_right, planned_long}
use Rattle.checking.specs.Checking.{AllowedAt, AllowedBefore, Checking, refused, no_room, wrong, passed}

-- ---- the check has one answer

same_place : (g s q t r : ℕ) → q < g → r < g → s * g + q ≡ t * g + r → (s ≡ t) × (q ≡ r)
same_place g s q t r hq hr e = (
  sym (digits_div s hq) ∙ ap (λ (x : ℕ). x / g) e ∙ digits_div t hr,
  sym (digits_mod s hq) ∙ ap (λ (x : ℕ). x % g) e ∙ digits_mod t hr,
)

pub checking_unique : {b p : List ℕ} {f f' : Fault} {s q s' q' : ℕ} → Checking b p f s q → Checking b p f' s' q' → (f ≡ f') × (s ≡ s') × (q ≡ q')
checking_unique (refused n) (refused n') = (refl, refl, refl)
checking_unique (refused n) (no_room e l) = absurd (n e)
checking_unique (refused n) (wrong e l hs hq w f) = absurd (n e)
checking_unique (refused n) (passed e l f) = absurd (n e)
checking_unique (no_room e l) (refused n) = absurd (n e)
checking_unique (no_room e l) (no_room e' l') = (refl, refl, refl)
checking_unique (no_room e l) (wrong e' l' hs hq w f) = absurd (omega arith)
checking_unique (no_room e l) (passed e' l' f) = absurd (omega arith)
checking_unique (wrong e l hs hq w f) (refused n) = absurd (n e)
checking_unique (wrong e l hs hq w f) (no_room e' l') = absurd (omega arith)
checking_unique {b} (wrong {s} {q} e l hs hq w f) (wrong {s = t} {q = r} e' l' ht hr w' f') =
    let g = (said b).goals in
    let down : t * g + r < s * g + q → ⊥ = λ h. w' (f t r ht hr h) in
    let up : s * g + q < t * g + r → ⊥ = λ h. w (f' s q hs hq h) in
    let same = same_place g s q t r hq hr (omega arith) in
    (refl, same.0, same.1)
checking_unique (wrong {s} {q} e l hs hq w f) (passed e' l' f') = absurd (w (f' s q hs hq))
checking_unique (passed e l f) (refused n) = absurd (n e)
checking_unique (passed e l f) (no_room e' l') = absurd (omega arith)
checking_unique (passed e l f) (wrong {s} {q} e' l' hs hq w f') = absurd (w (f s q hs hq))
checking_unique (passed e l f) (passed e' l' f') = (refl, refl, refl)

-- Yes exactly when the job keeps the rules, the plan is all there, and each entry is allowed.
pub checked_exactly : {b p : List ℕ} {f : Fault} {s q : ℕ} → Checking b p f s q
    → (f.number ≡ 0) ↔ (Keeps b × (room (said b) ≤ length p)
    × ((s q : ℕ) → s < (said b).states → q < (said b).goals → AllowedAt b p s q))
checked_exactly {b} (refused n) = (λ z. absurd (n z), λ t. absurd (n ((kept b).1 t.0)))
checked_exactly (no_room e l) = (λ z. absurd (omega arith), λ t. absurd (omega (arith, t.1)))
checked_exactly (wrong {s} {q} e l hs hq w f) = (λ z. absurd (omega arith), λ t. absurd (w (t.2 s q hs hq)))
checked_exactly {b} (passed e l f) = (λ z. ((kept b).0 e, l, f), λ t. refl)

-- 16 names a place of the job, whose entry is not allowed; the job keeps the rules, and the plan is all there.
pub record WrongAt (b p : List ℕ) (s q : ℕ) : Type 0 where
  pub keeps : Keeps b
  pub whole : room (said b) ≤ length p
  pub state : s < (said b).states
  pub goal : q < (said b).goals
  pub not_allowed : AllowedAt b p s q → ⊥
  pub before : AllowedBefore b p s q

pub wrong_at : {b p : List ℕ} {f : Fault} {s q : ℕ} → Checking b p f s q → f.number ≡ 16 → WrongAt b p s q
wrong_at {b} (refused n) z = absurd (job_not_16 (told b).among z)
  where
    job_not_16 : {n : ℕ} → Among n → n ≡ 16 → ⊥
    job_not_16 (inl h) e = omega arith
    job_not_16 (inr (inl h)) e = omega arith
    job_not_16 (inr (inr h)) e = omega arith
wrong_at (no_room e l) z = absurd (omega arith)
wrong_at {b} (wrong e l hs hq w f) z = record { keeps = (kept b).0 e; whole = l; state = hs; goal = hq; not_allowed = w; before = f }
wrong_at (passed e l f) z = absurd (omega arith)

-- and 16 is given with that place wherever there is one
pub wrong_given : {b p : List ℕ} {f : Fault} {s q t r : ℕ} → Checking b p f s q → WrongAt b p t r → (f ≡ only 16) × (s ≡ t) × (q ≡ r)
wrong_given {b} c w = checking_unique c (wrong ((kept b).1 w.keeps) w.whole w.state w.goal w.not_allowed w.before)

-- Our own plans always pass, and nothing else is answered of them.
pub own_passes : {b before after : List ℕ} → Planning b before (only 0) after → Checking b after (only 0) 0 0
own_passes {b} p =
    let (k, l) = (planned_exactly p).0 refl in
    passed ((kept b).1 k) (planned_long p refl) (λ s q hs hq.
    right_allowed (arena (said b)) (planned_right p refl (place s q) ((inside_iff (said b) (place s q)).1 (hs, hq))))

pub own_always_passes : {b before after : List ℕ} {f : Fault} {s q : ℕ} → Planning b before (only 0) after → Checking b after f s q
    → (f ≡ only 0) × (s ≡ 0) × (q ≡ 0)
own_always_passes p c = checking_unique c (own_passes p)
