-- `plan_slips` meets its contract: what reading refuses is refused; of what it reads there are too many slips, no room, or what labelling leaves.
use Prim.Native.Nat.{◌*◌}
use mathlib.Core.Path.{subst}
use native.Mathlib.Omega.{arith}
use Rattle.std.proofs.lemmas.Result.{err_from_is_err_and}
use Rattle.rules.specs.Fault.{Fault}
use Rattle.rules.proofs.Kept.{kept}
use Rattle.job.proofs.Asking.{few_places}
use Rattle.job.proofs.Readings.{read_fit, read_refused, read_refused_some}
use Rattle.larger.specs.Plans.{Trembling, refused, too_many, no_room}
use Rattle.trembling.proofs.Rounding.{few_all}
use Rattle.trembling.proofs.Planning.{room_said, trembling_done}
use Rattle.trembling.proofs.plan.plan_slips.Goals as goal

pub returns-in_err-l : goal.returns-in_err-l
returns-in_err-l c =
    let a = c.args in
    let p = err_from_is_err_and c.from_residual.result c.from_residual.ensures.1 in
    let why = c.in_err-l.field-0.0 in
    rw (p.1, p.2)
    (subst (λ (f : Fault). Trembling a.job.now a.slips a.plan.now f a.plan.now) (read_refused a.job.now why c.in_err-l.ensures)
    (refused (read_refused_some a.job.now why c.in_err-l.ensures)))

pub returns-then-slips-gt3 : goal.returns-then-slips-gt3
returns-then-slips-gt3 c =
    let t = read_fit c.args.job.now c.in_ok-l.l c.in_ok-l.ensures in
    too_many ((kept _).1 t.keeps) c.if-slips-gt3.true

pub overflow_mul-l : goal.overflow_mul-l
overflow_mul-l c = omega (arith, few_places (read_fit c.args.job.now c.in_ok-l.l c.in_ok-l.ensures))

pub overflow_mul-most : goal.overflow_mul-most
overflow_mul-most c =
    let few = few_places (read_fit c.args.job.now c.in_ok-l.l c.in_ok-l.ensures) in
    omega (arith, few_all c.args.slips (c.in_ok-l.l.states * c.in_ok-l.l.goals) c.if-slips-gt3.false few)

pub overflow_mul-most-2 : goal.overflow_mul-most-2
overflow_mul-most-2 c =
    let l = c.in_ok-l.l in
    let few = few_places (read_fit c.args.job.now l c.in_ok-l.ensures) in
    omega (arith, few_all c.args.slips (l.states * l.goals) c.if-slips-gt3.false few)

pub returns-then-plan-most : goal.returns-then-plan-most
returns-then-plan-most c =
    let t = read_fit c.args.job.now c.in_ok-l.l c.in_ok-l.ensures in
    no_room ((kept _).1 t.keeps) c.if-slips-gt3.false (omega (arith, room_said t c.args.slips, c.if-plan-most.true))

pub label_all-requires-clause-fit : goal.label_all-requires-clause-fit
label_all-requires-clause-fit c = read_fit c.args.job.now c.in_ok-l.l c.in_ok-l.ensures

pub returns : goal.returns
returns c =
    let t = read_fit c.args.job.now c.in_ok-l.l c.in_ok-l.ensures in
    trembling_done t.keeps c.args.slips c.if-slips-gt3.false (omega (arith, room_said t c.args.slips, c.if-plan-most.false))
    c.label_all.ensures (λ y. (c.type_inv.plan y).fits)
