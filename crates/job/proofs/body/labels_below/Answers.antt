-- `body::labels_below` meets its contract: the labels passed lie below 2^p without their marks.
use mathlib.Core.Bool.{Bool}
use mathlib.Core.List.{List}
use mathlib.Core.Path.{sym, ◌∙◌}
use Prim.Native.Nat.{ℕ, ◌+◌, ◌%◌, ◌^◌}
use native.Mathlib.Omega.{arith}
use lib.Dec.{ltb}
use lib.ListN.{get_or}
use Rattle.game.proofs.Tests.{every_stops}
use Rattle.job.proofs.body.labels_below.Goals as goal

-- label k from a place on lies below the limit
abbrev label_below : List ℕ → ℕ → ℕ → ℕ → Bool
label_below b at limit k = ltb (get_or b (at + k) 0 % 128) limit

pub returns-then-not-label_fits : goal.returns-then-not-label_fits
returns-then-not-label_fits c =
    let a = c.args in
    sym (every_stops (label_below a.job.now a.at (2 ^ a.p)) a.n c.loop-i.i (omega arith)
    (sym c.label_fits.ensures ∙ c.if-not-label_fits.true))
