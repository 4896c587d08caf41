-- The third demand, over a buffer whose entries are allowed: one that planning left, or a plan from elsewhere that was checked.
use Prim.Native.Nat.{ℕ, ◌≤◌}
use mathlib.Core.List.{List}
use mathlib.Core.Path.{◌≡◌}
use native.Mathlib.Omega.{arith}
use Rattle.game.specs.Game.{Play, last, Inside, Way, run, Obeys, Follows}
use Rattle.game.specs.Allowed.{Allowed}
use Rattle.game.specs.Demands.{ValueTold, WinningKept, PendingKept}
use Rattle.game.proofs.Hopes.{run_inside}
use Rattle.game.proofs.Following.{follow, follow_follows, follows_on}
use Rattle.game.proofs.Demands.{value_told, winning_kept, pending_kept}
use Rattle.rules.specs.Job.{arena}
use Rattle.rules.specs.Bytes.{said}
use Rattle.rules.specs.Keeps.{Keeps}
use Rattle.rules.specs.declared.place.Place.{Place}
use Rattle.rules.proofs.Arenas.{arena_lawful}
use Rattle.rules.proofs.Planned.{entry_of}

module _ (b plan : List ℕ) (keeps : Keeps b)
    (allowed : (p : Place) → Inside (arena (said b)) p → Allowed (arena (said b)) p (entry_of b plan p)) where
  -- each value is the place's
  pub values_told : (p : Place) → Inside (arena (said b)) p → ValueTold (arena (said b)) p (entry_of b plan p)
  values_told p i = value_told (arena (said b)) (arena_lawful b keeps) (allowed p i)

  few : (said b).actions ≤ 255
  few = let h = keeps.few_actions in omega arith

  -- The plan can be followed from every place; and whoever follows it, after any play, keeps the third demand.
  pub followable : (h : Play Place) → Inside (arena (said b)) (last h) → (σ : Way (arena (said b)))
      × Follows (arena (said b)) (entry_of b plan) σ h
  followable h i = (
    follow (arena (said b)) (entry_of b plan),
    follow_follows (arena (said b)) (arena_lawful b keeps) few (entry_of b plan) allowed h i,
  )

  module _ (σ : Way (arena (said b))) (h : Play Place) (follows : Follows (arena (said b)) (entry_of b plan) σ h)
      (i : Inside (arena (said b)) (last h)) where
    -- in mid-run it is followed still
    pub followed_on : (o : ℕ → Place) → Obeys (arena (said b)) σ o h → (n : ℕ)
        → Follows (arena (said b)) (entry_of b plan) σ (run (arena (said b)) σ o h n)
        × Inside (arena (said b)) (last (run (arena (said b)) σ o h n))
    followed_on o obeys n = (
      follows_on (arena (said b)) (entry_of b plan) σ n h o obeys follows,
      run_inside (arena (said b)) (arena_lawful b keeps) σ n h o i obeys,
    )

    pub followed_wins : (entry_of b plan (last h)).value ≡ 2 → WinningKept (arena (said b)) (entry_of b plan) σ h
    followed_wins = winning_kept (arena (said b)) (arena_lawful b keeps) few (entry_of b plan) allowed σ h follows i

    pub followed_hopes : (entry_of b plan (last h)).value ≡ 1 → PendingKept (arena (said b)) (entry_of b plan) σ h
    followed_hopes = pending_kept (arena (said b)) (arena_lawful b keeps) few (entry_of b plan) allowed σ h follows i
