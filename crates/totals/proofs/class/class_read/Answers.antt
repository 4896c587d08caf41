-- `class::class_read` meets its contract: it is refused by the first number, or the plan says what the starting place is.
use native.Mathlib.Omega.{arith}
use Rattle.std.proofs.lemmas.Result.{err_from_is_err_and}
use Rattle.job.specs.Layout.{Fit}
use Rattle.job.proofs.Asking.{first_state, first_goal_state, few_goals}
use Rattle.job.proofs.Readings.{read_fit}
use Rattle.totals.proofs.Planning.{read_refuses, never_refused, entry_there, class_planned}
use Rattle.totals.proofs.class.class_read.Goals as goal

pub returns-in_err-l : goal.returns-in_err-l
returns-in_err-l c =
    let e = err_from_is_err_and c.from_residual.result c.from_residual.ensures.1 in
    rw (e.1, e.2) (read_refuses _ _ c.requires c.in_err-l.ensures)

pub returns-in_err-plan : goal.returns-in_err-plan
returns-in_err-plan c =
    let t : Fit c.args.job.now c.in_ok-l.l = read_fit _ _ c.in_ok-l.ensures in
    absurd (never_refused t _ c.in_err-plan.ensures (omega arith))

pub place_entered-at-requires : goal.place_entered-at-requires
place_entered-at-requires c =
    let t : Fit c.args.job.now c.in_ok-l.l = read_fit _ _ c.in_ok-l.ensures in
    record {
      fit = t;
      q_lt_goals = first_goal_state t;
      t_lt_states = first_state t;
    }

pub overflow_cast-l : goal.overflow_cast-l
overflow_cast-l c =
    let t : Fit c.args.job.now c.in_ok-l.l = read_fit _ _ c.in_ok-l.ensures in
    omega (arith, few_goals t)

pub read_entry-e-requires : goal.read_entry-e-requires
read_entry-e-requires c =
    let t : Fit c.args.job.now c.in_ok-l.l = read_fit _ _ c.in_ok-l.ensures in
    entry_there t c.in_ok-plan.ensures c.place_entered-at.ensures c.entry_number.ensures

pub returns : goal.returns
returns c =
    let t : Fit c.args.job.now c.in_ok-l.l = read_fit _ _ c.in_ok-l.ensures in
    class_planned t c.in_ok-plan.ensures c.place_entered-at.ensures c.entry_number.ensures c.requires
    c.read_entry-e.ensures c.class_started.ensures
