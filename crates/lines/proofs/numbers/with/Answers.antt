-- `numbers::with` meets its contract.
use Rattle.sets.proofs.Bits.{one_shl, bit-or, bit_pow}
use Rattle.lines.proofs.numbers.with.Goals as goal

pub returns : goal.returns
returns c k = rw (one_shl c.args.i 8 c.requires, bit-or, bit_pow)
