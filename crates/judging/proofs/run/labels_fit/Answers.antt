-- `labels_fit` meets its contract: the labels passed lie below 64.
use mathlib.Core.Path.{sym}
use native.Mathlib.Omega.{arith}
use borrow.Author.Tests.{le-ltb}
use lib.Dec.{ltb}
use lib.ListN.{length, get_or}
use Rattle.game.proofs.Tests.{every_stops}
use Rattle.judging.proofs.run.labels_fit.Goals as goal

pub returns-then-label-ge64 : goal.returns-then-label-ge64
returns-then-label-ge64 c =
    let t = c.args.t.now in
    let at = c.loop-label.label-index in
    sym (every_stops (λ k. ltb (get_or t k 0) 64) (length t) at (omega (arith, c.loop-label-test.true)) (le-ltb (get_or t at 0) 64 c.if-label-ge64.true))
