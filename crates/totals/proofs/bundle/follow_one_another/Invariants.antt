-- `bundle::follow_one_another` meets its contract: a turn tests one entry more, and no sum wraps.
use Prim.Native.Nat.{◌+◌, ◌*◌, ◌≤◌}
use mathlib.Core.Bool.{true}
use mathlib.Core.Path.{◌≡◌}
use Rattle.game.specs.Below.{every_below}
use Rattle.totals.specs.Bundle.{due}
use Rattle.totals.proofs.Bundles.{begins_due}
use Rattle.totals.proofs.bundle.follow_one_another.Given as goal

abbrev pub invariant-loop-i : goal.invariant-loop-i
invariant-loop-i l = (l.at ≡ due l.contents l.i) × ((every_below l.i (begins_due l.contents) ≡ true) × (l.at ≤ 4294967296 * l.i + 514))
