-- `count_all` meets its contract: the counters are the counts of the records passed.
use mathlib.Core.Path.{◌≡◌}
use native.Mathlib.Omega.{arith}
use Rattle.rules.specs.Bytes.{said}
use Rattle.job.proofs.Asking.{records_said, few_places}
use Rattle.backward.proofs.Counting.{counters_said, counted_none, counted_then, counted_ext, filled_counted, untaken_none}
use Rattle.backward.proofs.counts.count_all.Goals as goal

pub overflow_mul-l : goal.overflow_mul-l
overflow_mul-l c = omega (arith, few_places c.requires.fit)

pub loop-k-init : goal.loop-k-init
loop-k-init c = counted_none (rw (counters_said c.requires.fit) at c.fill.ensures)

pub loop-k-preserved : goal.loop-k-preserved
loop-k-preserved c =
    counted_then c.loop-k.invariant c.add_record.ensures

pub returns : goal.returns
returns c = let f = c.requires.fit in
    let e : c.loop-k.k ≡ (said c.args.job.now
    ).records = omega (arith, records_said f) in
    counted_ext (untaken_none (said c.args.job.now))
    (counted_then (filled_counted (rw (counters_said f) at c.fill.ensures))
    (rw e at c.loop-k.invariant))
