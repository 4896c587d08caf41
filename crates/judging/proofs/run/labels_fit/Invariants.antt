-- `labels_fit` meets its contract: the labels passed lie below 64.
use mathlib.Core.Bool.{true}
use mathlib.Core.Path.{◌≡◌}
use lib.Dec.{ltb}
use lib.ListN.{get_or}
use Rattle.game.specs.Below.{every_below}
use Rattle.judging.proofs.run.labels_fit.Given as goal

abbrev pub invariant-loop-label : goal.invariant-loop-label
invariant-loop-label l = every_below l.label-index (λ k. ltb (get_or l.t k 0) 64) ≡ true
