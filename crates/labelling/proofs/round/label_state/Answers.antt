-- `label_state` meets its contract: each turn is the pass over one place more.
use Prim.Native.Nat.{◌+◌, ◌*◌}
use mathlib.Core.Path.{◌≡◌}
use native.Mathlib.Omega.{arith}
use Rattle.phases.proofs.Passes.{pass_join}
use Rattle.labelling.proofs.round.label_state.Goals as goal

pub loop-q-preserved : goal.loop-q-preserved
loop-q-preserved c =
    let x = c.args in
    let e : x.s * x.l.goals + (c.loop-q.q + 1) ≡ x.s * x.l.goals + c.loop-q.q + 1 = omega arith in
    rw e (pass_join (omega arith) (omega arith) c.loop-q.invariant c.label_place.ensures)

pub returns : goal.returns
returns c =
    let x = c.args in
    let e : x.s * x.l.goals + c.loop-q.q ≡ x.s * x.l.goals + x.l.goals = omega arith in
    rw (← e) c.loop-q.invariant
