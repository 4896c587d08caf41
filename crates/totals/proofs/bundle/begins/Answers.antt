-- `bundle::begins` meets its contract: the offset is compared.
use Prim.Native.Nat.{ℕ}
use mathlib.Core.Path.{ap}
use lib.Dec.{eqb}
use Rattle.totals.proofs.bundle.begins.Goals as goal

pub returns : goal.returns
returns c = ap (λ (x : ℕ). eqb x c.args.at) c.double_at.ensures.value
