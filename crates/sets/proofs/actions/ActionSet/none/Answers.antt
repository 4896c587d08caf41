-- `ActionSet::none` meets its contract: 0 has no bit.
use Rattle.sets.proofs.Bits.{bit_none}
use Rattle.sets.proofs.actions.ActionSet.none.Goals as goal

pub returns : goal.returns
returns c = bit_none
