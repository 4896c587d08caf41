-- The third demand, over what planning promises.
use Prim.Native.Nat.{ℕ}
use mathlib.Core.List.{List}
use mathlib.Core.Path.{◌≡◌, refl}
use Rattle.game.specs.Allowed.{Allowed}
use Rattle.game.specs.Game.{Play, last, Inside, Way, run, Obeys, Follows}
use Rattle.rules.specs.Job.{arena}
use Rattle.rules.specs.Fault.{only}
use Rattle.rules.specs.Bytes.{said}
use Rattle.rules.specs.Keeps.{Keeps}
use Rattle.rules.specs.Calls.{Planning}
use Rattle.game.specs.Demands.{ValueTold, WinningKept, PendingKept}
use Rattle.rules.specs.declared.place.Place.{Place}
use Rattle.rules.proofs.Planned.{entry_of, planned_exactly, planned_right}
use Rattle.rules.proofs.Followed as followed
use Rattle.game.proofs.Following.{right_allowed}

module _ {b before after : List ℕ} (done : Planning b before (only 0) after) where
  keeps : Keeps b
  keeps = ((planned_exactly done).0 refl).0

  allowed : (p : Place) → Inside (arena (said b)) p → Allowed (arena (said b)) p (entry_of b after p)
  allowed p i = right_allowed (arena (said b)) (planned_right done refl p i)

  -- each value is the place's
  pub values_told : (p : Place) → Inside (arena (said b)) p → ValueTold (arena (said b)) p (entry_of b after p)
  values_told = followed.values_told b after keeps allowed

  -- A plan can be followed from every place; and whoever follows it, after any play, keeps the third demand.
  pub followable : (h : Play Place) → Inside (arena (said b)) (last h) → (σ : Way (arena (said b)))
      × Follows (arena (said b)) (entry_of b after) σ h
  followable = followed.followable b after keeps allowed

  module _ (σ : Way (arena (said b))) (h : Play Place) (follows : Follows (arena (said b)) (entry_of b after) σ h)
      (i : Inside (arena (said b)) (last h)) where
    -- in mid-run it is followed still
    pub followed_on : (o : ℕ → Place) → Obeys (arena (said b)) σ o h → (n : ℕ)
        → Follows (arena (said b)) (entry_of b after) σ (run (arena (said b)) σ o h n)
        × Inside (arena (said b)) (last (run (arena (said b)) σ o h n))
    followed_on = followed.followed_on b after keeps allowed σ h follows i

    pub followed_wins : (entry_of b after (last h)).value ≡ 2 → WinningKept (arena (said b)) (entry_of b after) σ h
    followed_wins = followed.followed_wins b after keeps allowed σ h follows i

    pub followed_hopes : (entry_of b after (last h)).value ≡ 1 → PendingKept (arena (said b)) (entry_of b after) σ h
    followed_hopes = followed.followed_hopes b after keeps allowed σ h follows i
