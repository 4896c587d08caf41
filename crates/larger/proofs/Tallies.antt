-- The tests of a round on larger places, by the records of the place alone: which actions are open, and which have an outcome in the set or
-- outside it, with the slips that are left and with one fewer.
use Prim.Native.Nat.{ℕ, suc, ◌<◌}
use mathlib.Core.Bool.{Bool, true, false, not, ◌&&◌, ◌||◌}
use mathlib.Core.Logic.Iff
use mathlib.Core.Logic.{◌⊎◌, inl, inr, ◌↔◌}
use mathlib.Core.Path.{◌≡◌, refl}
use native.Mathlib.Omega.{arith}
use borrow.Author.Tests.{not-true, eq-eqb, ne_eqb}
use lib.Dec.{eqb}
use Rattle.game.specs.Game.{Arena, Listed, Open, Lawful}
use Rattle.game.specs.Below.{some_below}
use Rattle.game.proofs.Lists.{some, sure, some_found, some_true, sure_at, sure_true}
use Rattle.game.proofs.Search.{clash, if_not_true, if_not_false}
use Rattle.game.proofs.Tests.{same_test, and_iff, or_iff, some_iff}
use Rattle.larger.specs.Larger.{Larger, larger, slipping}
use Rattle.larger.proofs.Slipping.{Done, as_named, by_slip, slipping_iff}

module _ (G : Arena) (L : Lawful G) (K : ℕ) (f : Larger G.Place → Bool) (p : G.Place) (a : ℕ) where
  -- the outcomes with k slips left that are in the set
  abbrev pub within : ℕ → G.Place → Bool
  within k t = f (larger k t)

  -- no slips left
  pub sure_last : sure f ((slipping G K).leads (larger 0 p) a) ≡ sure (within 0) (G.leads p a)
  sure_last = same_test there back
    where
      there : sure f ((slipping G K).leads (larger 0 p) a) ≡ true → sure (within 0) (G.leads p a) ≡ true
      there e =
          let (o, all) = sure_at f ((slipping G K).leads (larger 0 p) a) e in
          let (w, d, h) = (slipping_iff G L K (larger 0 p) o.0 a).0 o.1 in
          sure_true _ _ w (λ t m. all (larger 0 t) ((slipping_iff G L K (larger 0 p) (larger 0 t) a).1 (w, a, as_named refl refl m)))

      back : sure (within 0) (G.leads p a) ≡ true → sure f ((slipping G K).leads (larger 0 p) a) ≡ true
      back e =
          let (o, all) = sure_at (within 0) (G.leads p a) e in
          sure_true _ _ (larger 0 o.0, (slipping_iff G L K (larger 0 p) (larger 0 o.0) a).1 (o, a, as_named refl refl o.1))
          (λ u m. let (w, d, h) = (slipping_iff G L K (larger 0 p) u a).0 m in at u d h all)
        where
          at : (u : Larger G.Place) (d : ℕ) → Done G p 0 a u.slips d u.at
              → ((t : G.Place) → Listed G p a t → within 0 t ≡ true) → f u ≡ true
          at u d (as_named q r m) all = rw (← q) (all u.at m)
          at u d (by_slip q n m) all = absurd (omega arith)

  pub some_last : some f ((slipping G K).leads (larger 0 p) a) ≡ some (within 0) (G.leads p a)
  some_last = same_test there back
    where
      there : some f ((slipping G K).leads (larger 0 p) a) ≡ true → some (within 0) (G.leads p a) ≡ true
      there e =
          let (u, m, y) = some_found f ((slipping G K).leads (larger 0 p) a) e in
          let (w, d, h) = (slipping_iff G L K (larger 0 p) u a).0 m in
          at u d h y
        where
          at : (u : Larger G.Place) (d : ℕ) → Done G p 0 a u.slips d u.at → f u ≡ true → some (within 0) (G.leads p a) ≡ true
          at u d (as_named q r m) y = some_true _ _ u.at m (rw q y)
          at u d (by_slip q n m) y = absurd (omega arith)

      back : some (within 0) (G.leads p a) ≡ true → some f ((slipping G K).leads (larger 0 p) a) ≡ true
      back e =
          let (t, m, y) = some_found (within 0) (G.leads p a) e in
          some_true _ _ (larger 0 t) ((slipping_iff G L K (larger 0 p) (larger 0 t) a).1 ((t, m), a, as_named refl refl m)) y

  module _ (k : ℕ) where
    -- another action than a has an outcome outside the set, or in it, after a slip
    abbrev pub spoilt_by_slip : Bool
    spoilt_by_slip = some_below G.actions (λ d. not (eqb d a) && some (λ t. not (within k t)) (G.leads p d))

    abbrev pub held_by_slip : Bool
    held_by_slip = some_below G.actions (λ d. not (eqb d a) && some (within k) (G.leads p d))

    other_iff : (g : G.Place → Bool) → (some_below G.actions (λ d. not (eqb d a) && some g (G.leads p d)) ≡ true)
        ↔ ((d : ℕ) × (d < G.actions) × ((not (eqb d a) ≡ true) × (some g (G.leads p d) ≡ true)))
    other_iff g = some_iff (λ d. not (eqb d a) && some g (G.leads p d)) (λ d. and_iff Iff.rfl Iff.rfl) G.actions

    other : {d : ℕ} → not (eqb d a) ≡ true → d ≡ a → ⊥
    other {d} n q = clash (eq-eqb d a q) (not-true _ n)

    -- Slips left: a is sure where its own outcomes are in the set, and those of every other open action, with one slip fewer.
    pub sure_slip : sure f ((slipping G K).leads (larger (suc k) p) a) ≡ (sure (within (suc k)) (G.leads p a) && not spoilt_by_slip)
    sure_slip = same_test there back
      where
        there : sure f ((slipping G K).leads (larger (suc k) p) a) ≡ true
            → (sure (within (suc k)) (G.leads p a) && not spoilt_by_slip) ≡ true
        there e =
            let (o, all) = sure_at f ((slipping G K).leads (larger (suc k) p) a) e in
            let (w, d, h) = (slipping_iff G L K (larger (suc k) p) o.0 a).0 o.1 in
            let own = sure_true (within (suc k)) (G.leads p a) w
            (λ t m. all (larger (suc k) t) ((slipping_iff G L K (larger (suc k) p) (larger (suc k) t) a).1 (w, a, as_named refl refl m))) in
            let none : spoilt_by_slip ≡ false =
            if_not_true _ (λ y.
            let (d, l, s) = (other_iff (λ t. not (within k t))).0 y in
            let (t, m, z) = some_found (λ t. not (within k t)) (G.leads p d) s.1 in
            clash
            (all (larger k t) ((slipping_iff G L K (larger (suc k) p) (larger k t) a).1 (w, d, by_slip refl (other s.0) m)))
            (not-true _ z)) in
            (and_iff Iff.rfl Iff.rfl).1 (own, rw none)

        back : (sure (within (suc k)) (G.leads p a) && not spoilt_by_slip) ≡ true
            → sure f ((slipping G K).leads (larger (suc k) p) a) ≡ true
        back e =
            let (own, none) = (and_iff {x = sure (within (suc k)) (G.leads p a)} {y = not spoilt_by_slip} Iff.rfl Iff.rfl).0 e in
            let (o, all) = sure_at (within (suc k)) (G.leads p a) own in
            sure_true _ _
            (larger (suc k) o.0, (slipping_iff G L K (larger (suc k) p) (larger (suc k) o.0) a).1 (o, a, as_named refl refl o.1))
            (λ u m. let (w, d, h) = (slipping_iff G L K (larger (suc k) p) u a).0 m in at u d h all (not-true _ none))
          where
            at : (u : Larger G.Place) (d : ℕ) → Done G p (suc k) a u.slips d u.at
                → ((t : G.Place) → Listed G p a t → within (suc k) t ≡ true) → spoilt_by_slip ≡ false → f u ≡ true
            at u d (as_named q r m) all none = rw (← q) (all u.at m)
            at u d (by_slip q n m) all none =
                let r : u.slips ≡ k = omega arith in
                let y : f (larger k u.at) ≡ true = if_not_false _ (λ z.
                clash ((other_iff (λ t. not (within k t))).1
                (d, L.counted p u.at d m, (rw (ne_eqb d a n), some_true _ _ u.at m (rw z)))) none) in
                rw r y

    -- and it is hopeful where an outcome of its own is in the set, or it is open and one of another action is, with one slip fewer.
    pub some_slip : some f ((slipping G K).leads (larger (suc k) p) a)
        ≡ (some (within (suc k)) (G.leads p a) || some (λ t. true) (G.leads p a) && held_by_slip)
    some_slip = same_test there back
      where
        there : some f ((slipping G K).leads (larger (suc k) p) a) ≡ true
            → (some (within (suc k)) (G.leads p a) || some (λ t. true) (G.leads p a) && held_by_slip) ≡ true
        there e =
            let (u, m, y) = some_found f ((slipping G K).leads (larger (suc k) p) a) e in
            let (w, d, h) = (slipping_iff G L K (larger (suc k) p) u a).0 m in
            (or_iff Iff.rfl (and_iff Iff.rfl Iff.rfl)).1 (at u d h w y)
          where
            at : (u : Larger G.Place) (d : ℕ) → Done G p (suc k) a u.slips d u.at → Open G p a → f u ≡ true
                → (some (within (suc k)) (G.leads p a) ≡ true) ⊎ ((some (λ t. true) (G.leads p a) ≡ true) × (held_by_slip ≡ true))
            at u d (as_named q r m) w y = inl (some_true _ _ u.at m (rw q y))
            at u d (by_slip q n m) w y =
                let r : u.slips ≡ k = omega arith in
                inr (
                  some_true _ _ w.0 w.1 refl,
                  (other_iff (within k)).1 (d, L.counted p u.at d m, (rw (ne_eqb d a n), some_true _ _ u.at m (rw (← r) y))),
                )

        back : (some (within (suc k)) (G.leads p a) || some (λ t. true) (G.leads p a) && held_by_slip) ≡ true
            → some f ((slipping G K).leads (larger (suc k) p) a) ≡ true
        back e = at ((or_iff Iff.rfl (and_iff Iff.rfl Iff.rfl)).0 e)
          where
            at : (some (within (suc k)) (G.leads p a) ≡ true) ⊎ ((some (λ t. true) (G.leads p a) ≡ true) × (held_by_slip ≡ true))
                → some f ((slipping G K).leads (larger (suc k) p) a) ≡ true
            at (inl y) =
                let (t, m, z) = some_found (within (suc k)) (G.leads p a) y in
                some_true _ _ (larger (suc k) t)
                ((slipping_iff G L K (larger (suc k) p) (larger (suc k) t) a).1 ((t, m), a, as_named refl refl m)) z
            at (inr (o, y)) =
                let (v, w, x) = some_found (λ t. true) (G.leads p a) o in
                let (d, l, s) = (other_iff (within k)).0 y in
                let (t, m, z) = some_found (within k) (G.leads p d) s.1 in
                some_true _ _ (larger k t)
                ((slipping_iff G L K (larger (suc k) p) (larger k t) a).1 ((v, w), d, by_slip refl (other s.0) m)) z
