-- `body::bytes_below` meets its contract: the bytes passed lie below the limit.
use borrow.Author.Tests.{le-ltb}
use mathlib.Core.Path.{sym}
use Prim.Native.Nat.{◌+◌}
use native.Mathlib.Omega.{arith}
use lib.ListN.{get_or}
use Rattle.game.proofs.Tests.{every_stops}
use Rattle.job.proofs.Laying.{below}
use Rattle.job.proofs.body.bytes_below.Goals as goal

pub returns-then-limit-byte_at : goal.returns-then-limit-byte_at
returns-then-limit-byte_at c =
    let a = c.args in
    let x = get_or a.job.now (a.at + c.loop-i.i) 0 in
    sym (every_stops (below a.job.now a.at a.limit) a.n c.loop-i.i (omega arith) (le-ltb x a.limit (omega arith)))
