-- `all_in_kind` meets its contract. The clauses passed are so.
use mathlib.Core.Bool.{true}
use mathlib.Core.Path.{◌≡◌}
use Rattle.game.specs.Below.{every_below}
use Rattle.slips.specs.Writing.{in_kind_at}
use Rattle.slips.proofs.goal.all_in_kind.Given as goal

abbrev pub invariant-loop-i : goal.invariant-loop-i
invariant-loop-i l = every_below l.i (in_kind_at l.s l.p) ≡ true
