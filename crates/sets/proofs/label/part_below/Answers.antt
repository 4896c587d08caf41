-- `label::part_below` meets its contract.
use mathlib.Core.Path.{sym}
use native.Mathlib.Nat.{mod-eq_of_lt, lt_of_lt_of_le}
use lib.Bits.{and_mask}
use lib.Pow.{pow_pos, pow_mono}
use Rattle.sets.proofs.Bits.{one_shl}
use Rattle.sets.proofs.label.part_below.Goals as goal

pub overflow_sub-result : goal.overflow_sub-result
overflow_sub-result c = rw (one_shl c.args.p 8 c.if-p-lt8.true) (pow_pos c.args.p)

pub returns-then-p-lt8 : goal.returns-then-p-lt8
returns-then-p-lt8 c = rw (one_shl c.args.p 8 c.if-p-lt8.true) (and_mask c.args.label c.args.p)

-- a byte lies below 2 ^ p where p is 8 or more
pub returns-else-p-lt8 : goal.returns-else-p-lt8
returns-else-p-lt8 c = sym (mod-eq_of_lt (lt_of_lt_of_le c.ranges.label.fits (pow_mono c.if-p-lt8.false)))
