-- What an entry may say has one of the four shapes, on any arena, with its count of places.
use Prim.Native.Nat.{ℕ, zero, suc, ◌≤◌, ◌<◌}
use mathlib.Core.Bool.{true, or-true}
use mathlib.Core.Path.{◌≡◌, refl, ◌∙◌}
use native.Mathlib.Omega.{arith}
use borrow.Author.Tests.{lt-ltb, le-leb}
use Rattle.game.specs.Allowed.{Allowed, lost, met, wins, hopes}
use Rattle.game.specs.Game.{Arena, Inside, Lawful, says}
use Rattle.game.specs.declared.entry.Entry.{Entry}
use Rattle.game.proofs.Search.{clash}
use Rattle.game.proofs.Rounds.{size, win}
use Rattle.game.proofs.Values.{wins_iff}
use Rattle.game.proofs.Bounds.{wins_below, hopes_below}
use Rattle.rules.specs.Plan.{blank, due, shaped}
use Rattle.rules.proofs.Entries.{shaped_winning, shaped_pending}

due_true : (A n a k : ℕ) (v : ℕ) → a < A → 1 ≤ k → k < n → due A n (says v a k) ≡ true
due_true A n a k v h i j = rw (lt-ltb a A h, le-leb 1 k i, lt-ltb k n j)

pub shaped_allowed : (G : Arena) → Lawful G → (p : G.Place) → Inside G p → {x : Entry} → Allowed G p x
    → shaped G.actions (size G) x ≡ true
unfolding win
shaped_allowed G L p i (lost l) = refl
shaped_allowed G L p i (met y) = refl
shaped_allowed G L p i (wins {a} {n = zero} u w s) = absurd (clash ((wins_iff G L 0 p).0 w).0 u)
shaped_allowed G L p i (wins {a} {n = suc n} u w s) =
    let o = s.0 in
    shaped_winning G.actions (size G) (says 2 a (suc n)) refl
    ∙ rw (due_true G.actions (size G) a (suc n) 2 (L.counted p o.0 a o.1) (omega arith) (wins_below G L (suc n) p i w))
    (or-true (blank (says 2 a (suc n))))
shaped_allowed G L p i (hopes {a} {n = zero} h m s) = absurd (h.0 m.0.3)
shaped_allowed G L p i (hopes {a} {n = suc n} h m s) =
    shaped_pending G.actions (size G) (says 1 a (suc n)) refl
    ∙ due_true G.actions (size G) a (suc n) 1 (L.counted p s.0 a s.1) (omega arith) (hopes_below G L (suc n) p i m)
