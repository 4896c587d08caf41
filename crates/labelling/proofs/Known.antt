-- Two results that one promise allows are the same: tallies, and the action that is chosen from one.
use Prim.Native.Nat.{ℕ, ◌<◌}
use mathlib.Core.Bool.{Bool, true, not, ◌&&◌, ◌||◌, true≢false}
use mathlib.Core.Path.{◌≡◌, refl, sym, ap, ◌∙◌}
use native.Mathlib.Omega.{arith}
use lib.Dec.{eqb, ltb}
use Rattle.sets.specs.Sets.{bit}
use Rattle.std.specs.Prelude.{Option, Some, None}
use Rattle.sets.proofs.Determined.{actions_unique}
use Rattle.rules.specs.Job.{Job, arena}
use Rattle.rules.specs.declared.place.Place.{Place}
use Rattle.game.proofs.Lists.{some}
use Rattle.labelling.specs.declared.scan.Tally.{Tally}
use Rattle.labelling.specs.Scan.{Tallied, Scanned, LowestPassing}

same_tally : (f g h : ℕ → Bool) {x y : Tally}
    → ((a : ℕ) → bit x.opens.bits a ≡ f a) → ((a : ℕ) → bit x.held.bits a ≡ g a) → ((a : ℕ) → bit x.spoilt.bits a ≡ h a)
    → ((a : ℕ) → bit y.opens.bits a ≡ f a) → ((a : ℕ) → bit y.held.bits a ≡ g a) → ((a : ℕ) → bit y.spoilt.bits a ≡ h a)
    → x ≡ y
same_tally f g h {x} {y} o d s o' d' s' =
    let e = actions_unique f x.opens y.opens o o' in
    let i = actions_unique g x.held y.held d d' in
    let k = actions_unique h x.spoilt y.spoilt s s' in
    λ j. record { opens = e j; held = i j; spoilt = k j }

pub scanned_unique : {j : Job} {f : Place → Bool} {p : Place} {x y : Tally} → Scanned j f p x → Scanned j f p y → x ≡ y
scanned_unique {j} {f} {p} s t =
    same_tally (λ a. some (λ q. true) ((arena j).leads p a)) (λ a. some f ((arena j).leads p a)) (λ a. some (λ q. not (f q)) ((arena j).leads p a))
    s.opens s.held s.spoilt t.opens t.held t.spoilt

pub tallied_unique : {x r r' : Tally} {a : ℕ} {inside : Bool} → Tallied x a inside r → Tallied x a inside r' → r ≡ r'
tallied_unique {x} {a = a} {inside} s t =
    same_tally (λ k. ltb a 16 && eqb k a || bit x.opens.bits k) (λ k. inside && (ltb a 16 && eqb k a) || bit x.held.bits k)
    (λ k. not inside && (ltb a 16 && eqb k a) || bit x.spoilt.bits k)
    s.opens s.held s.spoilt t.opens t.held t.spoilt

pub passing_unique : (f : ℕ → Bool) (r s : Option ℕ) → LowestPassing f r → LowestPassing f s → r ≡ s
passing_unique f (Some a) (Some c) x y =
    let up : a < c → ⊥ = λ l. true≢false (sym x.1 ∙ y.2 a l) in
    let down : c < a → ⊥ = λ l. true≢false (sym y.1 ∙ x.2 c l) in
    let e : a ≡ c = omega arith in
    ap Some e
passing_unique f (Some a) None x y = absurd (true≢false (sym x.1 ∙ y a))
passing_unique f None (Some c) x y = absurd (true≢false (sym y.1 ∙ x c))
passing_unique f None None x y = refl
