-- The rounds: where the goal can be forced within n moves, and from where a set of places can be come to within n moves.
use Prim.Native.Nat.{ℕ, zero, suc, ◌≤◌, ◌<◌, zero-le}
use mathlib.Core.Bool.{Bool, true, false}
use mathlib.Core.Logic.{◌⊎◌, inl, inr, ⊎_elim}
use mathlib.Core.Path.{◌≡◌, refl}
use native.Mathlib.Omega.{arith}
use native.Mathlib.Nat.{le_of_suc-le-suc}
use lib.ListN.{length}
use Rattle.game.specs.Below.{some_below}
use Rattle.game.proofs.Lists.{some, sure, some_found, some_true, sure_at, sure_true, sure_fails}
use Rattle.game.proofs.Search.{clash, stays, new, not_yet, if_not_true}
use Rattle.game.proofs.Climbs.{first_below, settled, closed, ladder}
use Rattle.game.proofs.Tests.{some_stops, some_met}
use Rattle.game.specs.Game.{Arena, Inside, Listed, Open, Accepted, Lawful, Least}

-- round 0: the goal is met; round n + 1: it is met, or some open action leads to round n only
unfoldable pub win : (G : Arena) → ℕ → G.Place → Bool
win G zero p = G.accepted p
win G (suc n) p = elim (G.accepted p) [ true ↦ true | false ↦ some_below G.actions (λ a. sure (λ t. win G n t) (G.leads p a)) ]

-- round 0: the places of S; round n + 1: round n, or some action may lead to round n
unfoldable pub hope : (G : Arena) (S : G.Place → Bool) → ℕ → G.Place → Bool
hope G S zero p = S p
hope G S (suc n) p = elim (hope G S n p) [ true ↦ true | false ↦ some_below G.actions (λ a. some (λ t. hope G S n t) (G.leads p a)) ]

-- how many places count: rounds enough
abbrev pub size : Arena → ℕ
size G = length G.all

-- the winning places, and the rounds of hope that begin at them
abbrev pub won : (G : Arena) → G.Place → Bool
won G = win G (size G)

abbrev pub hoped : (G : Arena) → ℕ → G.Place → Bool
hoped G = hope G (won G)

module _ (G : Arena) where
  -- a way into round n + 1
  abbrev pub Into : ℕ → G.Place → Type 0
  Into n p = (a : ℕ) × Open G p a × ((t : G.Place) → Listed G p a t → win G n t ≡ true)

  pub win_accepted : (n : ℕ) (p : G.Place) → Accepted G p → win G n p ≡ true
  unfolding win
  win_accepted zero p e = e
  win_accepted (suc n) p e = rw (e, win)

  pub win_step : (n : ℕ) (p : G.Place) → win G (suc n) p ≡ true → Accepted G p ⊎ Into n p
  unfolding win
  win_step n p e = go (G.accepted p) refl
    where
      go : (b : Bool) → G.accepted p ≡ b → Accepted G p ⊎ Into n p
      go true z = inl z
      go false z =
          let f = some_met (λ a. sure (win G n) (G.leads p a)) G.actions (rw (z, win) at e) in
          let s = sure_at _ _ f.2 in
          inr (f.0, s.0, s.1)

  module _ (L : Lawful G) where
    pub into_win : (n : ℕ) (p : G.Place) → Into n p → win G (suc n) p ≡ true
    unfolding win
    into_win n p i = go (G.accepted p) refl
      where
        go : (b : Bool) → G.accepted p ≡ b → win G (suc n) p ≡ true
        go true z = rw (z, win)
        go false z = rw (z, win) (some_stops _ _ i.0 (L.counted p _ _ i.1.1) (sure_true _ _ i.1 i.2))

    pub win_up : (n : ℕ) (p : G.Place) → win G n p ≡ true → win G (suc n) p ≡ true
    win_up zero p e = win_accepted 1 p (unfold win in e)
    win_up (suc n) p e = ⊎_elim (win_accepted _ p) (λ i. into_win (suc n) p (i.0, i.1, λ t l. win_up n t (i.2 t l))) (win_step n p e)

    pub win_mono : (m n : ℕ) (p : G.Place) → m ≤ n → win G m p ≡ true → win G n p ≡ true
    win_mono m n p h e = stays (λ k. win G k p) (λ k. win_up k p) m n h e

    -- Where the goal is first forced within n + 1 moves, each action that keeps that promise may lead to a place where n moves are needed.
    pub win_down : (n : ℕ) (p : G.Place) → Least (λ k. win G k p ≡ true) (suc n) → (i : Into n p)
        → (t : G.Place) × Listed G p i.0 t × Least (λ k. win G k t ≡ true) n
    win_down zero p l i = let o = i.1 in (o.0, o.1, (i.2 o.0 o.1, λ m q. zero-le))
    win_down (suc n) p l i =
        let s : sure (λ t. win G n t) (G.leads p i.0) ≡ false =
        if_not_true _ (λ e. let h : suc (suc n) ≤ suc n = l.1 (suc n) (into_win n p (i.0, i.1, (sure_at _ _ e).1)) in omega arith)
        in
        let t = sure_fails _ _ i.1 s in
        (t.0, t.1, new (λ k. win G k t.0) (λ k. win_up k t.0) n t.2 (i.2 t.0 t.1))

    -- so every such place has an action of that kind
    pub win_into : (n : ℕ) (p : G.Place) → Least (λ k. win G k p ≡ true) (suc n) → Into n p
    win_into n p l =
        ⊎_elim (λ e. let h : suc n ≤ zero = l.1 zero (win_accepted zero p e) in absurd (omega arith)) (λ i. i) (win_step n p l.0)

    win_down_inside : (n : ℕ) (p : G.Place) → Inside G p → Least (λ k. win G k p ≡ true) (suc n)
        → (t : G.Place) × Inside G t × Least (λ k. win G k t ≡ true) n
    win_down_inside n p m l = let t = win_down n p l (win_into n p l) in (t.0, L.closed p t.0 _ m t.1, t.2)

    -- inside, the rounds end before the places do
    pub win_below : (n : ℕ) (p : G.Place) → Inside G p → Least (λ k. win G k p ≡ true) n → n < size G
    win_below n p m l = first_below (win G) win_up G.all win_down_inside n p m l

    pub win_settled : (n : ℕ) (p : G.Place) → Inside G p → win G n p ≡ true → won G p ≡ true
    win_settled n p m e = settled (win G) win_up G.all win_down_inside n p m e

    pub win_ladder : (n : ℕ) (p : G.Place) → Inside G p → Least (λ k. win G k p ≡ true) n → (k : ℕ) → k ≤ n
        → (t : G.Place) × Inside G t × Least (λ i. win G i t ≡ true) k
    win_ladder n p m l k h = ladder (win G) win_up G.all win_down_inside n p m l k h

    -- a round that adds no place inside is the last
    pub win_closed : (n : ℕ) → ((t : G.Place) → Inside G t → win G (suc n) t ≡ true → win G n t ≡ true) → (m : ℕ) (p : G.Place)
        → Inside G p
        → win G m p ≡ true → win G n p ≡ true
    win_closed n h m p i e = closed (win G) win_up G.all win_down_inside n h m p i e

  module _ (S : G.Place → Bool) where
    pub hope_up : (n : ℕ) (p : G.Place) → hope G S n p ≡ true → hope G S (suc n) p ≡ true
    unfolding hope
    hope_up n p e = rw (e, hope)

    pub hope_mono : (m n : ℕ) (p : G.Place) → m ≤ n → hope G S m p ≡ true → hope G S n p ≡ true
    hope_mono m n p h e = stays (λ k. hope G S k p) (λ k. hope_up k p) m n h e

    pub hope_step : (n : ℕ) (p : G.Place) → hope G S (suc n) p ≡ true
        → (hope G S n p ≡ true) ⊎ ((a : ℕ) × (t : G.Place) × Listed G p a t × (hope G S n t ≡ true))
    unfolding hope
    hope_step n p e = go (hope G S n p) refl
      where
        go : (b : Bool) → hope G S n p ≡ b → (hope G S n p ≡ true) ⊎ ((a : ℕ) × (t : G.Place) × Listed G p a t × (hope G S n t ≡ true))
        go true z = inl z
        go false z =
            let f = some_met (λ a. some (hope G S n) (G.leads p a)) G.actions (rw (z, hope) at e) in
            let s = some_found _ _ f.2 in
            inr (f.0, s.0, s.1, s.2)

    pub hope_into : (n : ℕ) (p : G.Place) → Least (λ k. hope G S k p ≡ true) (suc n)
        → (a : ℕ) × (t : G.Place) × Listed G p a t × (hope G S n t ≡ true)
    hope_into n p l = ⊎_elim (λ e. absurd (clash e (not_yet (λ k. hope G S k p) n l))) (λ i. i) (hope_step n p l.0)

    module _ (L : Lawful G) where
      pub into_hope : (n : ℕ) (p t : G.Place) (a : ℕ) → Listed G p a t → hope G S n t ≡ true → hope G S (suc n) p ≡ true
      unfolding hope
      into_hope n p t a m e = go (hope G S n p) refl
        where
          go : (b : Bool) → hope G S n p ≡ b → hope G S (suc n) p ≡ true
          go true z = rw (z, hope)
          go false z = rw (z, hope) (some_stops _ _ a (L.counted p t a m) (some_true _ _ t m e))

      pub hope_down : (n : ℕ) (p t : G.Place) (a : ℕ) → Least (λ k. hope G S k p ≡ true) (suc n) → Listed G p a t → hope G S n t ≡ true
          → Least (λ k. hope G S k t ≡ true) n
      hope_down n p t a l m e = (e, λ k q. le_of_suc-le-suc (l.1 (suc k) (into_hope k p t a m q)))

      hope_down_inside : (n : ℕ) (p : G.Place) → Inside G p → Least (λ k. hope G S k p ≡ true) (suc n)
          → (t : G.Place) × Inside G t × Least (λ k. hope G S k t ≡ true) n
      hope_down_inside n p m l =
          let i = hope_into n p l in (i.1, L.closed p i.1 i.0 m i.2, hope_down n p i.1 i.0 l i.2 i.3)

      pub hope_below : (n : ℕ) (p : G.Place) → Inside G p → Least (λ k. hope G S k p ≡ true) n → n < size G
      hope_below n p m l = first_below (hope G S) hope_up G.all hope_down_inside n p m l

      pub hope_settled : (n : ℕ) (p : G.Place) → Inside G p → hope G S n p ≡ true → hope G S (size G) p ≡ true
      hope_settled n p m e = settled (hope G S) hope_up G.all hope_down_inside n p m e

      pub hope_closed : (n : ℕ) → ((t : G.Place) → Inside G t → hope G S (suc n) t ≡ true → hope G S n t ≡ true) → (m : ℕ) (p : G.Place)
          → Inside G p → hope G S m p ≡ true → hope G S n p ≡ true
      hope_closed n h m p i e = closed (hope G S) hope_up G.all hope_down_inside n h m p i e
