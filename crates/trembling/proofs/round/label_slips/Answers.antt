-- `label_slips` meets its contract: each turn is the pass over the places of one state more.
use Prim.Native.Nat.{◌+◌, ◌*◌}
use mathlib.Core.Path.{◌≡◌, subst}
use native.Mathlib.Omega.{arith}
use Rattle.phases.proofs.Passes.{pass_empty, pass_join}
use Rattle.labelling.proofs.Ranging.{from_start}
use Rattle.labelling.proofs.Rounding.{next_row}
use Rattle.trembling.specs.Round.{Passed}
use Rattle.trembling.proofs.round.label_slips.Goals as goal

pub loop-s-init : goal.loop-s-init
loop-s-init c = (from_start _, pass_empty (omega arith))

pub range_end-end-requires : goal.range_end-end-requires
range_end-end-requires c =
    record {
      fit = c.requires.fit;
      from = c.loop-s.invariant.0;
    }

pub label_state-requires : goal.label_state-requires
label_state-requires c =
    let v = c.loop-s.invariant in
    let p = c.requires in
    record {
      fit = p.fit;
      few = p.k_bound;
      state = c.loop-s-test.true;
      range = record { begins = v.0; ends = c.range_end-end.ensures.1; in_order = c.range_end-end.ensures.0 };
      room = rw v.1.as_long p.goals_in_bounds;
    }

pub loop-s-preserved : goal.loop-s-preserved
loop-s-preserved c =
    let l = c.args.l in
    let v = c.loop-s.invariant in (
      c.range_end-end.ensures.1,
      rw (next_row c.loop-s.s l.goals) (pass_join (omega arith) (omega arith) v.1 c.label_state.ensures),
    )

pub shape_of-plan : goal.shape_of-plan
shape_of-plan c = c.loop-s.invariant.1.as_long

pub returns : goal.returns
returns c =
    let x = c.args in
    let e : c.loop-s.s ≡ x.l.states = omega arith in
    subst (λ n. Passed x.job.now x.l x.phase x.number x.old.now.words (x.k * (x.l.states * x.l.goals))
    (x.k * (x.l.states * x.l.goals) + n * x.l.goals) x.new.now.words x.plan.now c.loop-s.new.words c.loop-s.plan) e
    c.loop-s.invariant.1
