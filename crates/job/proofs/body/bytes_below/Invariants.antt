-- `body::bytes_below` meets its contract: the bytes passed lie below the limit.
use mathlib.Core.Bool.{true}
use mathlib.Core.Path.{◌≡◌}
use Rattle.game.specs.Below.{every_below}
use Rattle.job.proofs.Laying.{below}
use Rattle.job.proofs.body.bytes_below.Given as goal

abbrev pub invariant-loop-i : goal.invariant-loop-i
invariant-loop-i l = every_below l.i (below l.job l.at l.limit) ≡ true
