-- `Report::put_shown` meets its contract: after i turns the first i letters, as they are shown, are put.
use mathlib.Core.Path.{◌≡◌}
use lib.ListN.{take}
use Rattle.std.specs.Prelude.{map}
use Rattle.text.specs.Puts.{Puts}
use Rattle.faults.specs.Telling.{shown}
use Rattle.faults.proofs.fault.Report.put_shown.Given as goal

abbrev pub invariant-loop-byte : goal.invariant-loop-byte
invariant-loop-byte l = (l.self.more ≡ l.initial.self.more) × Puts l.initial.self.told (map shown (take l.byte-index l.letters)) l.self.told
