-- `plan` meets its contract: what reading refuses is refused; of what it reads there is room or none, and then what labelling leaves.
use mathlib.Core.Path.{subst}
use native.Mathlib.Omega.{arith}
use Rattle.std.proofs.lemmas.Result.{err_from_is_err_and}
use Rattle.rules.specs.Fault.{Fault}
use Rattle.rules.specs.Calls.{Planning, refused, no_room}
use Rattle.rules.proofs.Kept.{kept}
use Rattle.job.proofs.Asking.{few_places, places_said}
use Rattle.job.proofs.Readings.{read_fit, read_refused, read_refused_some}
use Rattle.phases.proofs.Planning.{planned_done}
use Rattle.labelling.proofs.plan.plan.Goals as goal

pub returns-in_err-l : goal.returns-in_err-l
returns-in_err-l c =
    let b = c.args.job.now in
    let p = err_from_is_err_and c.from_residual.result c.from_residual.ensures.1 in
    let why = c.in_err-l.field-0.0 in
    let before = c.args.plan.now in
    rw (p.1, p.2) (subst (λ (f : Fault). Planning b before f before) (read_refused b why c.in_err-l.ensures) (refused (read_refused_some b why c.in_err-l.ensures)))

pub overflow_mul-l : goal.overflow_mul-l
overflow_mul-l c = omega (arith, few_places (read_fit c.args.job.now c.in_ok-l.l c.in_ok-l.ensures))

pub overflow_mul-l-2 : goal.overflow_mul-l-2
overflow_mul-l-2 c = omega (arith, few_places (read_fit c.args.job.now c.in_ok-l.l c.in_ok-l.ensures))

pub returns-then-plan-l : goal.returns-then-plan-l
returns-then-plan-l c =
    let t = read_fit c.args.job.now c.in_ok-l.l c.in_ok-l.ensures in
    let n = places_said t in
    no_room ((kept _).1 t.keeps) (omega arith)

pub label_all-requires-clause-fit : goal.label_all-requires-clause-fit
label_all-requires-clause-fit c = read_fit c.args.job.now c.in_ok-l.l c.in_ok-l.ensures

pub returns : goal.returns
returns c =
    let t = read_fit c.args.job.now c.in_ok-l.l c.in_ok-l.ensures in
    let n = places_said t in
    planned_done t.keeps (omega arith) c.label_all.ensures (λ y. (c.type_inv.plan y).fits)
