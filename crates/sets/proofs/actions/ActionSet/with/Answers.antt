-- `ActionSet::with` meets its contract.
use borrow.Author.Tests.{lt-ltb, le-ltb}
use Rattle.sets.proofs.Bits.{one_shl, bit-or, bit_pow}
use Rattle.sets.proofs.actions.ActionSet.with.Goals as goal

pub returns-then-a-lt16 : goal.returns-then-a-lt16
returns-then-a-lt16 c k =
    let a = c.args.a in
    rw (one_shl a 16 c.if-a-lt16.true, bit-or, bit_pow, lt-ltb a 16 c.if-a-lt16.true)

pub returns-else-a-lt16 : goal.returns-else-a-lt16
returns-else-a-lt16 c k = rw (le-ltb c.args.a 16 c.if-a-lt16.false)
