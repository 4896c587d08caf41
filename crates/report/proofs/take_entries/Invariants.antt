-- `take_entries` meets its contract: a turn takes one entry more.
use Prim.Native.Nat.{◌+◌, ◌*◌, ◌≤◌}
use mathlib.Core.Path.{◌≡◌}
use lib.ListN.{length}
use Rattle.totals.specs.Bundle.{due}
use Rattle.totals.specs.Classes.{entry_room}
use Rattle.report.specs.Read.{Entries}
use Rattle.report.proofs.take_entries.Given as goal

abbrev pub invariant-loop-i : goal.invariant-loop-i
invariant-loop-i g l =
    (entry_room ≤ length l.job) × ((length l.job ≡ length l.initial.job)
    × (Entries l.contents l.i l.t × ((l.at ≡ due l.contents l.i) × (l.at ≤ 514 + 4294967296 * l.i))))
