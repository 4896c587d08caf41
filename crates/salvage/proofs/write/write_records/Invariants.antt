-- `write::write_records` meets its contract: what is gathered of the records passed is put into both outputs, and the rest stays.
use mathlib.Core.Path.{◌≡◌}
use lib.ListN.{length}
use Rattle.rules.specs.Bytes.{said}
use Rattle.salvage.specs.Mended.{stays, lists}
use Rattle.salvage.specs.Salvage.{record_bytes, pair_bytes}
use Rattle.salvage.specs.Passes.{Carried}
use Rattle.salvage.proofs.Putting.{Filled}
use Rattle.salvage.proofs.write.write_records.Given as goal

abbrev pub invariant-loop-k : goal.invariant-loop-k
invariant-loop-k l =
    (length l.out ≡ length l.initial.out) × (length l.pairs ≡ length l.initial.pairs) × Carried l.job l.k l.bad
    × Filled (stays (said l.job)) (record_bytes l.job) l.initial.out l.l.moves_at l.k l.out l.at
    × Filled (lists (said l.job)) (pair_bytes l.job) l.initial.pairs 0 l.k l.pairs l.next
