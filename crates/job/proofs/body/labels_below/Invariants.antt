-- `body::labels_below` meets its contract: the labels passed lie below 2^p without their marks.
use mathlib.Core.Bool.{Bool, true}
use mathlib.Core.List.{List}
use mathlib.Core.Path.{◌≡◌}
use Prim.Native.Nat.{ℕ, ◌+◌, ◌%◌, ◌^◌}
use lib.Dec.{ltb}
use lib.ListN.{get_or}
use Rattle.game.specs.Below.{every_below}
use Rattle.job.proofs.body.labels_below.Given as goal

-- label k from a place on lies below the limit
abbrev label_below : List ℕ → ℕ → ℕ → ℕ → Bool
label_below b at limit k = ltb (get_or b (at + k) 0 % 128) limit

abbrev pub invariant-loop-i : goal.invariant-loop-i
invariant-loop-i l = every_below l.i (label_below l.job l.at (2 ^ l.p)) ≡ true
