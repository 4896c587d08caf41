-- `scan` meets its contract: the tally is that of the records passed.
use Prim.Native.Nat.{◌<◌}
use mathlib.Core.Path.{◌≡◌}
use native.Mathlib.Omega.{arith}
use Rattle.job.proofs.Asking.{records_said, action_few}
use Rattle.labelling.proofs.Ranging.{range_few, range_state}
use Rattle.labelling.proofs.Scanning.{scanning_none, scanning_more, scanning_all}
use Rattle.labelling.proofs.scan.scan.Goals as goal

pub loop-k-init : goal.loop-k-init
loop-k-init c =
    let r = c.requires.range in
    scanning_none r.begins c.none-none.ensures c.none-none.ensures c.none-none.ensures

pub loop-k-preserved : goal.loop-k-preserved
loop-k-preserved c =
    let there : c.loop-k.k < c.args.l.records =
    rw (records_said c.requires.fit) (range_few c.requires.range c.loop-k-test.true) in
    let k = c.loop-k.k in
    scanning_more c.move_at-m.ensures (range_state c.requires.range (omega arith) c.loop-k-test.true)
    (action_few c.requires.fit k there) (rw c.from.ensures at c.is_inside-inside.ensures) c.add_record-x.ensures c.loop-k.invariant

pub returns : goal.returns
returns c =
    let e : c.loop-k.k ≡ c.args.end = omega (arith, c.requires.range.in_order) in
    scanning_all c.requires.range.ends (rw e at c.loop-k.invariant)
