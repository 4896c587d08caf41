-- The order of records that are joined: comparing two joined numbers is comparing the records field by field.
use Prim.Native.Nat.{◌<◌}
use mathlib.Core.Logic.{◌⊎◌, inl, inr}
use mathlib.Core.Path.{◌≡◌}
use native.Mathlib.Omega.{arith}
use lib.Dec.{ltb}
use Rattle.game.proofs.Tests.{same_test, ltb_iff, last_or_below}
use Rattle.rules.specs.Bytes.{before}
use Rattle.rules.specs.Keeps.{Before}
use Rattle.rules.specs.declared.place.Move.{Move}
use Rattle.rules.proofs.Order.{before_iff}
use Rattle.job.specs.Joined.{joined}

-- the fields of a record are as wide as their types, 16, 8 and 16 bits
pub record Typed (m : Move) : Type 0 where
  pub state_fits : m.state < 65536
  pub action_fits : m.action < 256
  pub outcome_fits : m.outcome < 65536

joined_up : {m n : Move} → Typed m → Typed n → Before m n → joined m < joined n
joined_up s t (inl h) = omega arith
joined_up s t (inr (e, inl h)) = omega arith
joined_up s t (inr (e, inr h)) = omega arith

joined_down : {m n : Move} → Typed m → Typed n → joined m < joined n → Before m n
joined_down {m} {n} s t h = by_state (last_or_below (omega arith))
  where
    by_action : m.state ≡ n.state → (m.action ≡ n.action) ⊎ (m.action < n.action) → Before m n
    by_action e (inl d) = inr (e, inr (d, omega arith))
    by_action e (inr l) = inr (e, inl l)

    by_state : (m.state ≡ n.state) ⊎ (m.state < n.state) → Before m n
    by_state (inl e) = by_action e (last_or_below (omega arith))
    by_state (inr l) = inl l

pub joined_before : (m n : Move) → Typed m → Typed n → ltb (joined m) (joined n) ≡ before m n
joined_before m n s t =
    same_test (λ e. (before_iff m n).1 (joined_down s t ((ltb_iff (joined m) (joined n)).0 e)))
    (λ e. (ltb_iff (joined m) (joined n)).1 (joined_up s t ((before_iff m n).0 e)))
