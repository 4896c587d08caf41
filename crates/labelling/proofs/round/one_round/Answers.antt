-- `one_round` meets its contract: each turn is the pass over the places of one state more.
use native.Mathlib.Omega.{arith}
use Rattle.phases.proofs.Passes.{pass_join}
use Rattle.labelling.proofs.Rounding.{next_row}
use Rattle.labelling.proofs.round.one_round.Goals as goal

pub loop-s-preserved : goal.loop-s-preserved
loop-s-preserved c =
    let l = c.args.l in
    let v = c.loop-s.invariant in (
      c.range_end-end.ensures.1,
      rw (next_row c.loop-s.s l.goals) (pass_join (omega arith) (omega arith) v.1 c.label_state.ensures),
    )
