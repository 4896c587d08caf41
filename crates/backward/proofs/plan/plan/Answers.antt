-- `plan` meets its contract: what reading refuses is refused; then room and memory or none, and what labelling leaves.
use mathlib.Core.Logic.{inl, inr}
use mathlib.Core.Path.{subst}
use native.Mathlib.Omega.{arith}
use native.Mathlib.Nat.{mul-le-mul}
use Rattle.std.proofs.lemmas.Result.{err_from_is_err_and}
use Rattle.rules.specs.Fault.{Fault}
use Rattle.rules.proofs.Kept.{kept}
use Rattle.job.specs.Layout.{Fit}
use Rattle.job.proofs.Asking.{few_places, few_states, few_records, few_actions, places_said, states_said, records_said}
use Rattle.job.proofs.Readings.{read_fit, read_refused, read_refused_some}
use Rattle.backward.specs.Call.{PlanningBy, refused, no_room, no_memory}
use Rattle.backward.proofs.Counting.{counters_said}
use Rattle.backward.proofs.Ending.{planned_by}
use Rattle.backward.proofs.plan.plan.Goals as goal
use Rattle.backward.proofs.plan.plan.Goals.{then-index-l-via-then-index-l, then-index-l-via-else-index-l+then-counters-places}

pub overflow_mul-places : goal.overflow_mul-places
overflow_mul-places c =
    let t : Fit c.args.job.now c.in_ok-l.l = read_fit _ _ c.in_ok-l.ensures in omega (arith, few_places t)

pub overflow_mul-places-2 : goal.overflow_mul-places-2
overflow_mul-places-2 c =
    let t : Fit c.args.job.now c.in_ok-l.l = read_fit _ _ c.in_ok-l.ensures in omega (arith, few_places t)

pub returns-then-plan-places : goal.returns-then-plan-places
returns-then-plan-places c =
    let t : Fit c.args.job.now c.in_ok-l.l = read_fit _ _ c.in_ok-l.ensures in
    no_room ((kept _).1 t.keeps) (omega (arith, places_said t))

pub overflow_add-l : goal.overflow_add-l
overflow_add-l c =
    let t : Fit c.args.job.now c.in_ok-l.l = read_fit _ _ c.in_ok-l.ensures in omega (arith, few_states t, few_records t)

pub overflow_mul-places-else-index-l : goal.overflow_mul-places-else-index-l
overflow_mul-places-else-index-l c =
    let t : Fit c.args.job.now c.in_ok-l.l = read_fit _ _ c.in_ok-l.ensures in omega (arith, mul-le-mul (few_places t) (few_actions t))

pub returns-then-index-l : goal.returns-then-index-l
returns-then-index-l c =
    let t : Fit c.args.job.now c.in_ok-l.l = read_fit _ _ c.in_ok-l.ensures in
    no_memory ((kept _).1 t.keeps) (omega (arith, places_said t))
    (elim c.then-index-l.branch [
      | then-index-l-via-then-index-l w ↦ inl (omega (arith, states_said t, records_said t))
      | then-index-l-via-else-index-l+then-counters-places w ↦ inr (omega (arith, counters_said t))
    ])

pub label_all-requires : goal.label_all-requires
label_all-requires c =
    let t : Fit c.args.job.now c.in_ok-l.l = read_fit _ _ c.in_ok-l.ensures in
    record { fit = t; plan_room = omega arith; index_room = omega arith; counters_room = omega arith }

pub returns : goal.returns
returns c =
    let t : Fit c.args.job.now c.in_ok-l.l = read_fit _ _ c.in_ok-l.ensures in
    planned_by t.keeps (omega (arith, places_said t)) (omega (arith, states_said t, records_said t)) (omega (arith, counters_said t))
    c.label_all.ensures
    (λ y. (c.type_inv.plan y).fits)

pub returns-in_err-l : goal.returns-in_err-l
returns-in_err-l c = let b = c.args.job.now in
    let e = err_from_is_err_and c.from_residual.result c.from_residual.ensures.1 in
    let p = c.args.plan.now in
    let i = c.args.index.now in
    let k = c.args.counters.now in
    rw (e.1, e.2)
    (subst (λ (f : Fault). PlanningBy b p i k f p i k) (read_refused b _ c.in_err-l.ensures)
    (refused (read_refused_some b _ c.in_err-l.ensures)))
