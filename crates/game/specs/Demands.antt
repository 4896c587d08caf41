-- What is promised of entries that are followed from a place: the third demand.
use Rattle.std.specs.Prelude.{ℕ, ◌+◌, ◌≤◌, ◌<◌, ◌↔◌, ◌≡◌, length}
use mathlib.Core.List.{List, Memᴰ}
use Rattle.game.specs.Game.{Arena, Play, last, made, Inside, Accepted, Unmet, Way, run, Obeys, Winning, Pending, Losing}
use Rattle.game.specs.declared.entry.Entry.{Entry}

-- the value of an entry tells what the place is
pub record ValueTold (G : Arena) (p : G.Place) (x : Entry) : Type 0 where
  pub winning : (x.value ≡ 2) ↔ Winning G p
  pub pending : (x.value ≡ 1) ↔ Pending G p
  pub losing : (x.value ≡ 0) ↔ Losing G p

-- h is the play so far: what is promised holds from its last place on, whatever came before.
module _ (G : Arena) (e : G.Place → Entry) (σ : Way G) (h : Play G.Place) where
  -- From a winning place: the goal is met within the number whatever the outcomes; whoever chooses, some outcomes need all of it; no way of
  -- choosing guarantees fewer; and it never exceeds the count of winning places where the goal is not yet met.
  pub record WinningKept : Type 0 where
    pub met_within : (o : ℕ → G.Place) → Obeys G σ o h → Accepted G (last (run G σ o h (e (last h)).number))
    pub all_needed : (τ : Way G) → (o : ℕ → G.Place) × Obeys G τ o h × ((m : ℕ) → m < (e (last h)).number → Unmet G (last (run G τ o h m)))
    pub none_fewer : (τ : Way G) (n : ℕ) → ((o : ℕ → G.Place) → Obeys G τ o h → Accepted G (last (run G τ o h n)))
        → (e (last h)).number ≤ n
    pub at_most : (ts : List G.Place) → ((t : G.Place) → Inside G t → Winning G t → Unmet G t → Memᴰ t ts)
        → (e (last h)).number ≤ length ts

  -- From a pending place: some outcomes reach a winning place by exactly the number of moves, and under no choice can fewer do so.
  pub record PendingKept : Type 0 where
    pub reached_by : (o : ℕ → G.Place) × Obeys G σ o h × Winning G (last (run G σ o h (e (last h)).number))
        × (made (run G σ o h (e (last h)).number) ≡ made h + (e (last h)).number)
    pub none_fewer : (τ : Way G) (o : ℕ → G.Place) (n : ℕ) → Obeys G τ o h → Winning G (last (run G τ o h n)) → (e (last h)).number ≤ n
