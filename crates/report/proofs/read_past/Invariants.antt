-- `read_past` meets its contract: what has come grows with each turn, and where none is asked for there is no turn.
use Prim.Native.Nat.{◌≤◌, ◌-◌}
use mathlib.Core.Path.{◌≡◌}
use lib.ListN.{length}
use Rattle.totals.specs.Classes.{entry_room}
use Rattle.report.proofs.read_past.Given as goal

abbrev pub invariant-loop-past : goal.invariant-loop-past
invariant-loop-past g l = (l.past ≤ l.size) × ((entry_room ≤ length l.job) × ((length l.job ≡ length l.initial.job) × (l.size ≡ 0 → l.job ≡ l.initial.job)))

abbrev pub decreases-loop-past : goal.decreases-loop-past
decreases-loop-past g l = l.size - l.past
