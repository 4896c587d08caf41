-- `scan::either` meets its contract.
use Rattle.sets.proofs.Bits.{bit-or}
use Rattle.trembling.proofs.scan.either.Goals as goal

pub returns : goal.returns
returns c a = bit-or _ _ a
