-- `lower` meets its contract: the counter is above 1, or it becomes 0.
use native.Mathlib.Omega.{arith}
use Rattle.backward.proofs.Lowering.{fell_more, fell_last}
use Rattle.backward.proofs.step.lower.Goals as goal

pub returns-then-c-gt1 : goal.returns-then-c-gt1
returns-then-c-gt1 c =
    fell_more c.args.counters.now c.args.i c.requires c.if-c-gt1.true

pub returns : goal.returns
returns c =
    fell_last c.args.counters.now c.args.i c.requires (omega (arith, c.if-c-gt1.false))
