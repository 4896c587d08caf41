-- `tally::add` meets its contract, and nothing overflows.
use Prim.Native.Nat.{◌+◌}
use native.Mathlib.Omega.{arith}
use lib.ListN.{get_or, set}
use Rattle.totals.proofs.Falling.{line_below}
use Rattle.totals.proofs.Reporting.{few_counted, few_winning, few_pending}
use Rattle.totals.proofs.tally.add.Goals as goal

pub offset_bounds-counts-line : goal.offset_bounds-counts-line
offset_bounds-counts-line c = omega (arith, c.line-line.ensures, line_below c.args.c)

pub bounds-counts-line : goal.bounds-counts-line
bounds-counts-line c = omega (arith, c.line-line.ensures, line_below c.args.c)

pub overflow_add-counts : goal.overflow_add-counts
overflow_add-counts c =
    omega (arith, few_counted c.requires c.line-line.result (omega (arith, c.line-line.ensures, line_below c.args.c)))

pub bounds-counts-line-2 : goal.bounds-counts-line-2
bounds-counts-line-2 c = omega (arith, c.line-line.ensures, line_below c.args.c)

pub overflow_add-result-2 : goal.overflow_add-result-2
overflow_add-result-2 c = omega (arith, few_winning c.requires, c.winning_number.ensures.upper_bound)

pub overflow_add-result-3 : goal.overflow_add-result-3
overflow_add-result-3 c = omega (arith, few_pending c.requires, c.pending_number.ensures.upper_bound)

pub returns : goal.returns
returns c =
    let t = c.args.t in
    let line = c.line-line.ensures in
    let wins = c.winning_number.ensures.value in
    let hopes = c.pending_number.ensures.value in
    let most = c.larger_of.ensures in
    λ i. record {
      jobs = t.jobs + 1;
      counts = set t.counts (line i) (get_or t.counts (line i) 0 + 1);
      winning_sum = t.winning_sum + wins i;
      pending_sum = t.pending_sum + hopes i;
      largest = most i;
    }
