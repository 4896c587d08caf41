-- How large the numbers can be.
use Prim.Native.Nat.{ℕ, zero, suc, ◌+◌, ◌≤◌, ◌<◌}
use mathlib.Core.Bool.{Bool, true, false, cond, false≢true}
use mathlib.Core.List.{List, Memᴰ}
use mathlib.Core.Path.{◌≡◌, refl}
use native.Mathlib.Omega.{arith}
use lib.ListN.{length}
use Rattle.game.proofs.Lists.{how_many, how_many_length}
use Rattle.game.proofs.Search.{if_not_true, not_yet}
use Rattle.game.proofs.Climbs.{climb}
use Rattle.game.specs.Game.{Arena, Inside, Unmet, Lawful, Winning, WinsIn, HopesIn}
use Rattle.game.proofs.Rounds.{size, won, win, win_accepted, win_up, win_below, win_ladder, hope_below}
use Rattle.game.proofs.Values.{wins_iff, win_winning}
use Rattle.game.proofs.Hopes.{hopes_iff}

module _ (G : Arena) (L : Lawful G) where
  -- of round k, with the goal still to meet
  ahead : ℕ → G.Place → Bool
  ahead k t = cond (G.accepted t) false (win G k t)

  ahead_up : (k : ℕ) (t : G.Place) → ahead k t ≡ true → ahead (suc k) t ≡ true
  unfolding ahead
  ahead_up k t e = go (G.accepted t) refl e
    where
      go : (b : Bool) → G.accepted t ≡ b → cond b false (win G k t) ≡ true → ahead (suc k) t ≡ true
      go true z y = absurd (false≢true y)
      go false z y = rw z (win_up G L k t y)

  ahead_is : (k : ℕ) (t : G.Place) → Unmet G t → ahead k t ≡ win G k t
  unfolding ahead
  ahead_is k t u = rw u

  -- The number of a winning place is at most how many places are inside, winning and not accepted.
  pub wins_within : (n : ℕ) (p : G.Place) → Inside G p → WinsIn G p n → (ws : List G.Place)
      → ((t : G.Place) → Inside G t → Winning G t → Unmet G t → Memᴰ t ws) → n ≤ length ws
  wins_within n p i w ws h =
      let most : how_many (ahead zero) ws + n ≤ how_many (ahead n) ws = climb ahead ahead_up ws n step in
      let fits : how_many (ahead n) ws ≤ length ws = how_many_length (ahead n) ws in
      omega arith
    where
      step : (k : ℕ) → k < n → (t : G.Place) × Memᴰ t ws × (ahead k t ≡ false) × (ahead (suc k) t ≡ true)
      step k d =
          let t = win_ladder G L n p i ((wins_iff G L n p).0 w) (suc k) d in
          let l = t.2 in
          let u : Unmet G t.0 = if_not_true _ (λ y. let x : suc k ≤ 0 = l.1 0 (win_accepted G 0 t.0 y) in omega arith) in (
            t.0,
            h t.0 t.1 (win_winning G L (suc k) t.0 l.0) u,
            rw (ahead_is k t.0 u) (not_yet (λ j. win G j t.0) k l),
            rw (ahead_is (suc k) t.0 u) l.0,
          )

  pub wins_below : (n : ℕ) (p : G.Place) → Inside G p → WinsIn G p n → n < size G
  wins_below n p i w = win_below G L n p i ((wins_iff G L n p).0 w)

  pub hopes_below : (n : ℕ) (p : G.Place) → Inside G p → HopesIn G p n → n < size G
  hopes_below n p i h = hope_below G (won G) L n p i ((hopes_iff G L n p i).0 h)
