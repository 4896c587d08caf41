-- `table::width` meets its contract.
use native.Mathlib.Omega.{arith}
use Rattle.sets.proofs.Bits.{one_shl}
use Rattle.rows.proofs.table.width.Goals as goal

pub returns : goal.returns
returns c = one_shl _ 64 (omega arith)
