-- `scan::both` meets its contract.
use Rattle.sets.proofs.Bits.{bit-and}
use Rattle.trembling.proofs.scan.both.Goals as goal

pub returns : goal.returns
returns c a = bit-and _ _ a
