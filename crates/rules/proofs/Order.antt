-- The order of records: what the test says, and that it is a strict order.
use Prim.Native.Nat.{◌≤◌}
use mathlib.Core.Bool.{true}
use mathlib.Core.Logic.{inl, inr, ◌↔◌}
use mathlib.Core.Path.{◌≡◌}
use native.Mathlib.Omega.{arith}
use Rattle.rules.specs.Bytes.{before}
use Rattle.rules.specs.Keeps.{Before}
use Rattle.rules.specs.declared.place.Move.{Move}
use Rattle.game.proofs.Tests.{and_iff, or_iff, ltb_iff, eqb_iff}

pub before_iff : (m n : Move) → (before m n ≡ true) ↔ Before m n
before_iff m n =
    or_iff (ltb_iff m.state n.state)
    (and_iff (eqb_iff m.state n.state)
    (or_iff (ltb_iff m.action n.action) (and_iff (eqb_iff m.action n.action) (ltb_iff m.outcome n.outcome))))

pub before_state : {m n : Move} → Before m n → m.state ≤ n.state
before_state (inl h) = omega arith
before_state (inr h) = omega arith

pub before_trans : {l m n : Move} → Before l m → Before m n → Before l n
before_trans (inl h) (inl k) = inl (omega arith)
before_trans (inl h) (inr k) = inl (omega arith)
before_trans (inr h) (inl k) = inl (omega arith)
before_trans (inr (d, inl h)) (inr (e, inl k)) = inr (omega arith, inl (omega arith))
before_trans (inr (d, inl h)) (inr (e, inr k)) = inr (omega arith, inl (omega arith))
before_trans (inr (d, inr h)) (inr (e, inl k)) = inr (omega arith, inl (omega arith))
before_trans (inr (d, inr h)) (inr (e, inr k)) = inr (omega arith, inr (omega arith, omega arith))

pub before_differ : {m n : Move} → Before m n → m.state ≡ n.state → m.action ≡ n.action → m.outcome ≡ n.outcome → ⊥
before_differ (inl h) s a t = omega arith
before_differ (inr (e, inl h)) s a t = omega arith
before_differ (inr (e, inr h)) s a t = omega arith
