-- What is printed of a bundle: it is one text, and it is short.
use Prim.Native.Nat.{ℕ, ◌+◌, ◌≤◌}
use mathlib.Core.List.{List, ◌++◌}
use mathlib.Core.Path.{◌≡◌, refl, ap}
use native.Mathlib.Omega.{arith}
use lib.ListN.{length, get_or, take, length-append}
use Rattle.io.specs.Counts.{IsPrefixLen}
use Rattle.std.specs.Prelude.{Option, Some, None}
use Rattle.text.specs.PutText.{PutText}
use Rattle.text.specs.Lines.{decimal}
use Rattle.text.proofs.Digits.{decimal_length}
use Rattle.text.proofs.Lengths.{put_front}
use Rattle.text.proofs.Repeating.{short_each}
use Rattle.totals.specs.Reported.{LargestOf, nothing, number, Gathered}
use Rattle.totals.specs.declared.tally.Largest.{Largest}
use Rattle.totals.specs.declared.tally.Totals.{Totals}
use Rattle.totals.proofs.Falling.{wins_few}
use Rattle.totals.proofs.Lists.{first_found, first_below}
use Rattle.totals.proofs.Reporting.{reported_unique, few_counted, few_winning, few_pending}
use Rattle.report.specs.declared.Month.{Month}
use Rattle.report.specs.Read.{MonthGathered, told_of, told}
use Rattle.report.specs.Report.{figure_line, count_lines, largest_line, report, Tells, refuses, reports}

-- Two texts that may be printed of the same bytes are the same.
pub tells_unique : {b t u : List ℕ} → Tells b t → Tells b u → t ≡ u
tells_unique (refuses n) (refuses m) = refl
tells_unique (refuses n) (reports g r) = absurd (n g)
tells_unique (reports g r) (refuses n) = absurd (n g)
tells_unique (reports g r) (reports h s) = ap report (reported_unique r s)

-- ---- it is short

short_figure : (k n : ℕ) → length (decimal n) ≤ k → length (figure_line n) ≤ k + 1
short_figure k n h = simp length-append (omega arith)

short_largest : {bs : List (List ℕ)} {l : Option Largest} → length bs ≤ 64 → LargestOf bs l → length (largest_line l) ≤ 9
short_largest h (nothing n) = omega arith
short_largest h (number {n} {i} f m) =
    let (b, k, w) = first_found f in
    let few : n ≤ 16383 = wins_few n w in
    simp length-append (omega (arith, decimal_length n 4 (omega arith), decimal_length i 1 (omega (arith, first_below f))))

short_report : (t : Totals) → Gathered t 64 → length (report t) ≤ 64
short_report t g =
    let counts = short_each (λ k. figure_line (get_or t.counts k 0)) 3 11
    (λ k h. short_figure 2 (get_or t.counts k 0) (decimal_length (get_or t.counts k 0) 1 (omega (arith, few_counted g k h)))) in
    let wins = short_figure 7 t.winning_sum (decimal_length t.winning_sum 6 (omega (arith, few_winning g))) in
    let hopes = short_figure 7 t.pending_sum (decimal_length t.pending_sum 6 (omega (arith, few_pending g))) in
    let most = short_largest g.2 g.1.largest in
    let a = length-append (count_lines t.counts 11)
    (figure_line t.winning_sum ++ (figure_line t.pending_sum ++ largest_line t.largest)) in
    let b = length-append (figure_line t.winning_sum) (figure_line t.pending_sum ++ largest_line t.largest) in
    let c = length-append (figure_line t.pending_sum) (largest_line t.largest) in
    omega arith

short_told : (x : Option Totals) → ((t : Totals) → x ≡ Some t → Gathered t 64) → length (told_of x) ≤ 64
short_told None g = omega arith
short_told (Some t) g = short_report t (g t refl)

-- So in a buffer of 64 bytes the first n are what is told of the month.
pub told_front : (m : Month) → MonthGathered m → {out left : List ℕ} {n : ℕ} → 64 ≤ length out → PutText out 0 (told m) left n
    → IsPrefixLen n left × (take n left ≡ told m)
told_front m g room put = put_front put (omega (arith, short_told m.totals g))
