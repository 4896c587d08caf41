-- `scan::scan` meets its contract: both tallies are those of the records passed.
use Prim.Native.Nat.{◌<◌}
use mathlib.Core.Path.{◌≡◌}
use native.Mathlib.Omega.{arith}
use Rattle.job.proofs.Asking.{records_said, outcome_below, action_few}
use Rattle.labelling.proofs.Ranging.{range_few, range_state}
use Rattle.labelling.proofs.Scanning.{scanning_none, scanning_more, scanning_all}
use Rattle.trembling.proofs.Rounding.{inside_known}
use Rattle.trembling.proofs.scan.scan.Goals as goal

pub loop-k-init : goal.loop-k-init
loop-k-init c =
    let r = c.requires.range in
    let n = c.no_tally-none.ensures in
    (scanning_none r.begins n.0 n.1 n.2, scanning_none r.begins n.0 n.1 n.2)

pub move_at-m-requires : goal.move_at-m-requires
move_at-m-requires c =
    let there : c.loop-k.k < c.args.l.records =
    rw (records_said c.requires.fit) (range_few c.requires.range c.loop-k-test.true) in
    record {
      fit = c.requires.fit;
      k_lt_records = there;
    }

pub number_entered-i-requires : goal.number_entered-i-requires
number_entered-i-requires c =
    let there : c.loop-k.k < c.args.l.records =
    rw (records_said c.requires.fit) (range_few c.requires.range c.loop-k-test.true) in
    record {
      fit = c.requires.fit;
      q_lt_goals = c.requires.q_lt_goals;
      t_lt_states = rw (c.from.ensures, c.move_at-m.ensures) (outcome_below c.requires.fit c.loop-k.k there);
    }

pub overflow_add-own : goal.overflow_add-own
overflow_add-own c =
    omega (arith, c.number_entered-i.ensures.0, c.requires.goals_bound)

pub overflow_add-less : goal.overflow_add-less
overflow_add-less c =
    omega (arith, c.number_entered-i.ensures.0, c.requires.goals_bound_2)

pub loop-k-preserved : goal.loop-k-preserved
loop-k-preserved c =
    let there : c.loop-k.k < c.args.l.records =
    rw (records_said c.requires.fit) (range_few c.requires.range c.loop-k-test.true) in
    let k = c.loop-k.k in
    let i = c.loop-k.invariant in
    let m = c.move_at-m.ensures in
    let n = rw c.from.ensures at c.number_entered-i.ensures in
    let here = inside_known c.args.own c.args.places.now.words n c.requires.goals_bound c.has-here.ensures in
    let below = inside_known c.args.less c.args.places.now.words n c.requires.goals_bound_2 c.has-below.ensures in
    let of-state = range_state c.requires.range (omega arith) c.loop-k-test.true in
    let few = action_few c.requires.fit k there in (
      scanning_more m of-state few here c.add_record.ensures i.0,
      scanning_more m of-state few below c.add_record-in-loop-k.ensures i.1,
    )

pub returns : goal.returns
returns c =
    let i = c.loop-k.invariant in
    let e : c.loop-k.k ≡ c.args.end = omega (arith, c.requires.range.in_order) in
    record {
      here = scanning_all c.requires.range.ends (rw e at i.0);
      below = scanning_all c.requires.range.ends (rw e at i.1);
    }
