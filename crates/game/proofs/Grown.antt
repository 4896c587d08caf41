-- Two arenas of which the second has outcomes for more pairs of a place and an action, and no more where the first has any: what is winning in
-- the first is winning in the second, with a number no larger.
use Prim.Native.Nat.{ℕ, zero, suc, ◌≤◌}
use mathlib.Core.Bool.{true}
use mathlib.Core.Logic.{⊎_elim}
use mathlib.Core.Path.{◌≡◌}
use Rattle.game.specs.Game.{Arena, Inside, Listed, Open, Accepted, Lawful, Winning, WinsIn}
use Rattle.game.proofs.Search.{has_lowest}
use Rattle.game.proofs.Rounds.{size, Into, win, win_accepted, win_step, into_win}
use Rattle.game.proofs.Values.{wins_iff, winning_iff, win_winning}

-- each place p inside G goes with the place f p of H
pub record Grown (G H : Arena) (f : G.Place → H.Place) : Type 0 where
  pub accepted : (p : G.Place) → Inside G p → Accepted G p → Accepted H (f p)
  -- an action that is open stays open, and has no outcome that it had not
  pub still_open : (p : G.Place) (a : ℕ) → Inside G p → Open G p a → Open H (f p) a
  pub no_more : (p : G.Place) (u : H.Place) (a : ℕ) → Inside G p → Open G p a → Listed H (f p) a u
      → (t : G.Place) × Listed G p a t × (f t ≡ u)

module _ (G H : Arena) (LG : Lawful G) (LH : Lawful H) (f : G.Place → H.Place) (s : Grown G H f) where
  win_grown : (n : ℕ) (p : G.Place) → Inside G p → win G n p ≡ true → win H n (f p) ≡ true
  unfolding win
  win_grown zero p i e = s.accepted p i e
  win_grown (suc n) p i e =
      ⊎_elim (λ y. win_accepted H (suc n) (f p) (s.accepted p i y)) (λ (j : Into G n p).
      into_win H LH n (f p) (
        j.0,
        s.still_open p j.0 i j.1,
        λ u m.
            let t = s.no_more p u j.0 i j.1 m in
            rw (← t.2) (win_grown n t.0 (LG.closed p t.0 j.0 i t.1) (j.2 t.0 t.1)),
      ))
      (win_step G n p e)

  pub winning_grown : (p : G.Place) → Inside G p → Winning G p → Winning H (f p)
  winning_grown p i w = win_winning H LH (size G) (f p) (win_grown (size G) p i ((winning_iff G LG p i).0 w))

  pub wins_grown : (n : ℕ) (p : G.Place) → Inside G p → WinsIn G p n → (m : ℕ) × WinsIn H (f p) m × (m ≤ n)
  wins_grown n p i w =
      let l = has_lowest (λ k. win H k (f p)) n (win_grown n p i ((wins_iff G LG n p).0 w).0) in
      (l.0, (wins_iff H LH l.0 (f p)).1 l.2, l.1)
