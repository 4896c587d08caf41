-- `label_state` meets its contract: each turn is the pass over one place more.
use Prim.Native.Nat.{◌+◌, ◌*◌}
use mathlib.Core.Path.{◌≡◌, subst}
use native.Mathlib.Omega.{arith}
use Rattle.phases.proofs.Passes.{pass_empty, pass_join}
use Rattle.trembling.specs.Round.{Passed}
use Rattle.trembling.proofs.Rounding.{ready_on}
use Rattle.trembling.proofs.round.label_state.Goals as goal

pub loop-q-init : goal.loop-q-init
loop-q-init c = pass_empty (omega arith)

pub label_place-requires : goal.label_place-requires
label_place-requires c =
    record {
      ready = ready_on c.requires c.loop-q.invariant;
      q_lt_goals = c.loop-q-test.true;
    }

pub loop-q-preserved : goal.loop-q-preserved
loop-q-preserved c =
    let x = c.args in
    let n = x.k * (x.l.states * x.l.goals) in
    let e : n + (x.s * x.l.goals + (c.loop-q.q + 1)) ≡ n + (x.s * x.l.goals + c.loop-q.q) + 1 = omega arith in
    rw e (pass_join (omega arith) (omega arith) c.loop-q.invariant c.label_place.ensures)

pub shape_of-plan : goal.shape_of-plan
shape_of-plan c = c.loop-q.invariant.as_long

pub returns : goal.returns
returns c =
    let x = c.args in
    let e : c.loop-q.q ≡ x.l.goals = omega arith in
    subst (λ n. Passed x.job.now x.l x.phase x.number x.old.now.words (x.k * (x.l.states * x.l.goals) + x.s * x.l.goals)
    (x.k * (x.l.states * x.l.goals) + (x.s * x.l.goals + n)) x.new.now.words x.plan.now c.loop-q.new.words c.loop-q.plan) e
    c.loop-q.invariant
