-- The third demand, over a plan from elsewhere that the check passes: the same laws as for our own plans.
use Prim.Native.Nat.{ℕ}
use mathlib.Core.List.{List}
use mathlib.Core.Path.{◌≡◌}
use Rattle.game.specs.Allowed.{Allowed}
use Rattle.game.specs.Game.{Play, last, Inside, Way, run, Obeys, Follows}
use Rattle.game.specs.Demands.{ValueTold, WinningKept, PendingKept}
use Rattle.rules.specs.Job.{arena}
use Rattle.rules.specs.Fault.{Fault}
use Rattle.rules.specs.Bytes.{said}
use Rattle.rules.specs.Keeps.{Keeps}
use Rattle.rules.specs.declared.place.Place.{Place}
use Rattle.rules.proofs.Arenas.{inside_iff}
use Rattle.rules.proofs.Planned.{entry_of}
use Rattle.rules.proofs.Followed as followed
use Rattle.checking.specs.Checking.{Checking}
use Rattle.checking.proofs.Checked.{checked_exactly}

module _ {b plan : List ℕ} {f : Fault} {s q : ℕ} (done : Checking b plan f s q) (z : f.number ≡ 0) where
  pub passed_keeps : Keeps b
  passed_keeps = ((checked_exactly done).0 z).0

  pub passed_allowed : (p : Place) → Inside (arena (said b)) p → Allowed (arena (said b)) p (entry_of b plan p)
  passed_allowed p i = let (hs, hq) = (inside_iff (said b) p).0 i in ((checked_exactly done).0 z).2 p.state p.goal hs hq

  -- each value is the place's
  pub passed_values : (p : Place) → Inside (arena (said b)) p → ValueTold (arena (said b)) p (entry_of b plan p)
  passed_values = followed.values_told b plan passed_keeps passed_allowed

  -- The plan can be followed from every place; and whoever follows it, after any play, keeps the third demand.
  pub passed_followable : (h : Play Place) → Inside (arena (said b)) (last h) → (σ : Way (arena (said b)))
      × Follows (arena (said b)) (entry_of b plan) σ h
  passed_followable = followed.followable b plan passed_keeps passed_allowed

  module _ (σ : Way (arena (said b))) (h : Play Place) (follows : Follows (arena (said b)) (entry_of b plan) σ h)
      (i : Inside (arena (said b)) (last h)) where
    -- in mid-run it is followed still
    pub passed_on : (o : ℕ → Place) → Obeys (arena (said b)) σ o h → (n : ℕ)
        → Follows (arena (said b)) (entry_of b plan) σ (run (arena (said b)) σ o h n)
        × Inside (arena (said b)) (last (run (arena (said b)) σ o h n))
    passed_on = followed.followed_on b plan passed_keeps passed_allowed σ h follows i

    pub passed_wins : (entry_of b plan (last h)).value ≡ 2 → WinningKept (arena (said b)) (entry_of b plan) σ h
    passed_wins = followed.followed_wins b plan passed_keeps passed_allowed σ h follows i

    pub passed_hopes : (entry_of b plan (last h)).value ≡ 1 → PendingKept (arena (said b)) (entry_of b plan) σ h
    passed_hopes = followed.followed_hopes b plan passed_keeps passed_allowed σ h follows i
