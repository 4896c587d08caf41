-- `Place::start` meets its contract: what reading refuses is refused, and what it reads is entered at its first state.
use Rattle.std.proofs.lemmas.Result.{err_from_is_err_and}
use Rattle.job.proofs.Asking.{first_state, first_goal_state}
use Rattle.job.proofs.Readings.{read_fit}
use Rattle.cabinet.proofs.Answering.{start_refused, start_fit}
use Rattle.cabinet.proofs.place.Place.start.Goals as goal

pub returns-in_err-l : goal.returns-in_err-l
returns-in_err-l c =
    let p = err_from_is_err_and c.from_residual.result c.from_residual.ensures.1 in
    rw (p.1, p.2) (start_refused c.args.job.now c.in_err-l.field-0.0 c.in_err-l.ensures)

pub enter-requires : goal.enter-requires
enter-requires c =
    let f = read_fit c.args.job.now c.in_ok-l.l c.in_ok-l.ensures in
    record { fit = f; q_lt_goals = first_goal_state f; t_lt_states = first_state f }

pub returns : goal.returns
returns c = start_fit (read_fit c.args.job.now c.in_ok-l.l c.in_ok-l.ensures) c.enter.ensures
