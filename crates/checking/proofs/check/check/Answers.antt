-- `check` meets its contract: what reading refuses is refused; then room or none, and the check in an array that holds the plan.
use native.Mathlib.Omega.{arith}
use Rattle.std.proofs.lemmas.Result.{err_from_is_err_and}
use Rattle.job.specs.Layout.{Fit}
use Rattle.job.proofs.Asking.{few_places}
use Rattle.job.proofs.Readings.{read_fit, read_refused, read_refused_some}
use Rattle.checking.proofs.Answering.{checks_refused, checks_room}
use Rattle.checking.proofs.check.check.Goals as goal

pub overflow_mul-room : goal.overflow_mul-room
overflow_mul-room c =
    let t : Fit c.args.job.now c.in_ok-l.l = read_fit _ _ c.in_ok-l.ensures in
    omega (arith, few_places t)

pub overflow_mul-room-2 : goal.overflow_mul-room-2
overflow_mul-room-2 c =
    let t : Fit c.args.job.now c.in_ok-l.l = read_fit _ _ c.in_ok-l.ensures in
    omega (arith, few_places t)

pub returns-then-plan-room : goal.returns-then-plan-room
returns-then-plan-room c =
    let t : Fit c.args.job.now c.in_ok-l.l = read_fit _ _ c.in_ok-l.ensures in
    checks_room t c.args.plan.now c.if-plan-room.true

pub check_by-requires : goal.check_by-requires
check_by-requires c =
    let t : Fit c.args.job.now c.in_ok-l.l = read_fit _ _ c.in_ok-l.ensures in
    record { fit = t; goals_in_bounds = omega arith; goals_in_bounds_2 = omega arith }

pub check_by-requires-2 : goal.check_by-requires-2
check_by-requires-2 c =
    let t : Fit c.args.job.now c.in_ok-l.l = read_fit _ _ c.in_ok-l.ensures in
    record {
      fit = t;
      goals_in_bounds = omega (arith, few_places t);
      goals_in_bounds_2 = omega arith;
    }

pub returns-in_err-l : goal.returns-in_err-l
returns-in_err-l c =
    let b = c.args.job.now in
    let e = err_from_is_err_and c.from_residual.result c.from_residual.ensures.1 in
    rw (e.1, e.2)
    (checks_refused b c.args.plan.now _ (read_refused b _ c.in_err-l.ensures) (read_refused_some b _ c.in_err-l.ensures))
