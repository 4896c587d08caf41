-- `look` meets its contract: what is seen is what the records passed show.
use Prim.Native.Nat.{◌<◌}
use mathlib.Core.Path.{◌≡◌, refl}
use native.Mathlib.Omega.{arith}
use Rattle.rules.specs.Job.{place}
use Rattle.job.proofs.Asking.{records_said, outcome_below}
use Rattle.labelling.proofs.Ranging.{range_few, range_state}
use Rattle.checking.proofs.Judging.{looking_none, looking_other, looking_more, looked_all}
use Rattle.checking.proofs.entries.look.Goals as goal

pub loop-k-init : goal.loop-k-init
loop-k-init c =
    looking_none c.requires.range.begins refl refl

pub move_at-m-requires : goal.move_at-m-requires
move_at-m-requires c =
    let there : c.loop-k.k < c.args.l.records =
    rw (records_said c.requires.fit) (range_few c.requires.range c.loop-k-test.true) in
    record {
      fit = c.requires.fit;
      k_lt_records = there;
    }

pub loop-k-preserved-then-m-a : goal.loop-k-preserved-then-m-a
loop-k-preserved-then-m-a c =
    let p = c.requires in
    looking_other c.move_at-m.ensures (range_state p.range (omega arith) c.loop-k-test.true) c.if-m-a.true c.loop-k.invariant

pub entered_does-does-requires : goal.entered_does-does-requires
entered_does-does-requires c =
    let there : c.loop-k.k < c.args.l.records =
    rw (records_said c.requires.fit) (range_few c.requires.range c.loop-k-test.true) in
    let p = c.requires in
    record {
      fit = p.fit;
      q_lt_goals = p.q_lt_goals;
      t_lt_states = rw c.move_at-m.ensures (outcome_below p.fit c.loop-k.k (there));
      goals_in_bounds = p.goals_in_bounds;
    }

pub loop-k-preserved : goal.loop-k-preserved
loop-k-preserved c =
    let p = c.requires in
    looking_more c.move_at-m.ensures (range_state p.range (omega arith) c.loop-k-test.true)
    c.if-m-a.false c.entered_does-does.ensures c.see-x.ensures.0 c.see-x.ensures.1 c.loop-k.invariant

pub returns : goal.returns
returns c =
    let o = c.requires.range.in_order in
    let e : c.loop-k.k ≡ c.args.end = omega arith in
    looked_all c.args.job.now c.args.own.now c.args.r (place c.args.s c.args.q) c.args.a c.requires.range.ends
    (rw e at c.loop-k.invariant)
