-- `one_round` meets its contract: each turn is the pass over the places with one slip more left.
use Prim.Native.Nat.{◌+◌, ◌*◌}
use mathlib.Core.Path.{◌≡◌}
use native.Mathlib.Omega.{arith}
use Rattle.phases.proofs.Passes.{pass_empty, pass_join}
use Rattle.labelling.proofs.Rounding.{next_row}
use Rattle.trembling.proofs.Rounding.{room_below}
use Rattle.trembling.proofs.round.one_round.Goals as goal

pub loop-k-init : goal.loop-k-init
loop-k-init c = pass_empty (omega arith)

pub label_slips-requires : goal.label_slips-requires
label_slips-requires c =
    let v = c.loop-k.invariant in
    record {
      fit = c.requires.fit;
      k_bound = omega (arith, c.loop-k-test.true, c.requires.slips_bound);
      goals_in_bounds = rw v.as_long
          (room_below c.loop-k.k c.args.slips (c.args.l.states * c.args.l.goals) (omega (arith, c.loop-k-test.true)) c.requires.goals_in_bounds);
    }

pub loop-k-preserved : goal.loop-k-preserved
loop-k-preserved c =
    let v = c.loop-k.invariant in
    let l = c.args.l in
    rw (next_row c.loop-k.k (l.states * l.goals)) (pass_join (omega arith) (omega arith) v c.label_slips.ensures)

pub shape_of-plan : goal.shape_of-plan
shape_of-plan c = c.loop-k.invariant.as_long

pub returns : goal.returns
returns c =
    let e : c.loop-k.k ≡ c.args.slips + 1 = omega arith in
    rw e at c.loop-k.invariant
