-- Reports as they are printed: the one of examples/month.bundle, and one in which no job wins.
use Prim.Native.Nat.{ℕ}
use mathlib.Core.List.{List, [], ◌∷◌}
use mathlib.Core.Path.{◌≡◌, refl}
use Rattle.std.specs.Prelude.{Option, Some, None}
use Rattle.text.specs.Lines.{decimal_in, decimal, bytes}
use Rattle.totals.specs.declared.tally.Largest.{Largest}
use Rattle.totals.specs.declared.tally.Totals.{Totals}
use Rattle.report.specs.Report.{report}

-- the totals with these counts, sums and largest
abbrev totals : ℕ → List ℕ → ℕ → ℕ → Option Largest → Totals
totals n counts wins hopes most =
    record { jobs = n; counts = counts; winning_sum = wins; pending_sum = hopes; largest = most }

pub month_printed : report (totals 16 (4 ∷ 2 ∷ 2 ∷ 1 ∷ 1 ∷ 1 ∷ 1 ∷ 1 ∷ 1 ∷ 1 ∷ 1 ∷ []) 5 4 (Some (record { number = 2; job = 5 })))
    ≡ bytes "4\n2\n2\n1\n1\n1\n1\n1\n1\n1\n1\n5\n4\n2 5\n"
unfolding decimal_in decimal
month_printed = refl

pub none_wins_printed : report (totals 64 (0 ∷ 63 ∷ 0 ∷ 0 ∷ 0 ∷ 0 ∷ 0 ∷ 0 ∷ 0 ∷ 0 ∷ 1 ∷ []) 0 4095 None)
    ≡ bytes "0\n63\n0\n0\n0\n0\n0\n0\n0\n0\n1\n0\n4095\n-\n"
unfolding decimal_in decimal
none_wins_printed = refl
