-- What best effort is worth: a plan that does not act at pending places does as well from winning ones, and is bettered at pending ones.
use Prim.Native.Nat.{ℕ, suc, ◌≤◌}
use mathlib.Core.Bool.{Bool, true, false}
use mathlib.Core.Logic.{◌⊎◌, inr}
use mathlib.Core.Path.{◌≡◌, refl, ◌∙◌}
use native.Mathlib.Omega.{arith}
use borrow.Author.Tests.{eq-eqb, ne_eqb}
use lib.Dec.{eqb}
use Rattle.game.specs.Game.{Arena, Play, then, last, stop, act, Inside, Listed, Open, Unmet, Lawful, Way, Follows, Winning}
use Rattle.game.specs.Game.{Pending, Least}
use Rattle.game.specs.Allowed.{Allowed}
use Rattle.game.specs.Behaviour.{Behaviour, Meets, Better, lazy}
use Rattle.game.specs.declared.entry.Entry.{Entry}
use Rattle.game.proofs.Lists.{sure_at}
use Rattle.game.proofs.Search.{if_not_true}
use Rattle.game.proofs.Rounds.{size, win, win_accepted}
use Rattle.game.proofs.Plays.{some_obeys}
use Rattle.game.proofs.Values.{wins_iff, winning_iff, accepted_winning, guided_meets}
use Rattle.game.proofs.Right.{sure_iff}
use Rattle.game.proofs.Following.{follow, follow_named, follows_then, wins_says, open_named, allowed_named}
use Rattle.game.proofs.Demands.{value_told}
use Rattle.game.proofs.Facing.{outcomes, outcomes_obey, against_run}
use Rattle.game.proofs.Undominated.{better_than_stopping}

module _ (G : Arena) (L : Lawful G) (few : G.actions ≤ 255) (e : G.Place → Entry)
    (allowed : (p : G.Place) → Inside G p → Allowed G p (e p)) where
  -- The lazy plan is one that can be followed, from every place inside:
  pub lazy_follows : (h : Play G.Place) → Inside G (last h) → Follows G (lazy e) (follow G (lazy e)) h
  lazy_follows = follow_named G L few (lazy e) named
    where
      named : (p : G.Place) → Inside G p → Open G p (lazy e p).action ⊎ ((lazy e p).action ≡ 255)
      named p j = go (eqb (e p).value 1) refl
        where
          go : (x : Bool) → eqb (e p).value 1 ≡ x → Open G p (lazy e p).action ⊎ ((lazy e p).action ≡ 255)
          go true z = inr (rw z)
          go false z = rw z (allowed_named G L few (allowed p j))

  module _ (τ : Way G) where
    -- where more moves are needed to force the goal, it does as the plan does
    as_planned : (k : Play G.Place) (n : ℕ) → Follows G (lazy e) τ k × Inside G (last k) → Least (λ m. win G m (last k) ≡ true) (suc n)
        → (a : ℕ) × (τ.choose k ≡ act a)
        × ((t : G.Place) → Listed G (last k) a t → (Follows G (lazy e) τ (then k a t) × Inside G t) × (win G n t ≡ true))
    as_planned k n (f, j) l =
        let (v, s) = wins_says G L (last k) n (allowed (last k) j) ((wins_iff G L (suc n) (last k)).1 l) in
        let a = (e (last k)).action in
        let u : Unmet G (last k) = if_not_true _ (λ y. let x : suc n ≤ 0 = l.1 0 (win_accepted G 0 (last k) y) in omega arith) in
        let (o, b) = some_obeys G τ k in
        let c : τ.choose k ≡ act a = f o b 0 u ∙ rw (ne_eqb (e (last k)).value 1 (λ (q : (e (last k)).value ≡ 1). omega arith), open_named G L few s.0) in (
          a,
          c,
          λ t m. (
            (follows_then G (lazy e) τ k f u c m, L.closed (last k) t a j m),
            (sure_at _ _ ((sure_iff G L (last k) n a).0 s)).1 t m,
          ),
        )

    module _ (h : Play G.Place) (follows : Follows G (lazy e) τ h) (i : Inside G (last h)) where
      -- from a winning place it meets the goal against every behaviour;
      pub lazy_wins : Winning G (last h) → (b : Behaviour G) → Meets G τ b h
      lazy_wins w b = (
        size G,
        rw (against_run G τ b h (size G))
            (guided_meets G L τ (λ k. Follows G (lazy e) τ k × Inside G (last k)) as_planned (size G) h (follows, i)
            ((winning_iff G L (last h) i).0 w) (outcomes G τ b h) (outcomes_obey G τ b h)),
      )

      -- and at a pending place whoever follows the plan does at least as well against every behaviour, and better against one.
      pub lazy_bettered : Pending G (last h) → (σ : Way G) → Follows G e σ h → Better G σ τ h
      lazy_bettered p σ f =
          let u : Unmet G (last h) = if_not_true _ (λ y. p.0 (accepted_winning G L (last h) y)) in
          let (o, b) = some_obeys G τ h in
          let c : τ.choose h ≡ stop =
          follows o b 0 u ∙ rw (eq-eqb (e (last h)).value 1 ((value_told G L (allowed (last h) i)).pending.1 p)) in
          better_than_stopping G L few e allowed σ h f i u p.1 τ c
