-- `Place::follow` meets its contract: what reading refuses is refused; the place is judged, then the record is looked for, and its outcome is
-- entered.
use mathlib.Core.Path.{sym, ◌∙◌}
use Rattle.std.proofs.lemmas.Result.{err_from_is_err_and}
use Rattle.job.proofs.Readings.{read_fit}
use Rattle.cabinet.proofs.Answering.{place_said, on_place, follow_refused, follow_no_place, follow_unknown, follow_moves}
use Rattle.cabinet.proofs.Answering.{outcome_state}
use Rattle.cabinet.proofs.place.Place.follow.Goals as goal

pub returns-in_err-l : goal.returns-in_err-l
returns-in_err-l c =
    let a = c.args in
    let p = err_from_is_err_and c.from_residual.result c.from_residual.ensures.1 in
    rw (p.1, p.2) (follow_refused a.job.now c.in_err-l.field-0.0 c.in_err-l.ensures a.self.state a.self.goal a.action a.outcome)

pub returns-then-not-is_of : goal.returns-then-not-is_of
returns-then-not-is_of c =
    let f = read_fit c.args.job.now c.in_ok-l.l c.in_ok-l.ensures in
    follow_no_place f _ _ _ _ (place_said f _ _ ∙ sym c.is_of.ensures ∙ c.if-not-is_of.true)

pub find-requires : goal.find-requires
find-requires c = read_fit c.args.job.now c.in_ok-l.l c.in_ok-l.ensures

pub enter-requires : goal.enter-requires
enter-requires c =
    let f = read_fit c.args.job.now c.in_ok-l.l c.in_ok-l.ensures in
    record {
      fit = f;
      q_lt_goals = (on_place f _ _ (sym c.is_of.ensures ∙ c.if-not-is_of.false)).1;
      t_lt_states = outcome_state f _ _ _ c.in-Some.ensures;
    }

pub returns-in-None : goal.returns-in-None
returns-in-None c =
    let f = read_fit c.args.job.now c.in_ok-l.l c.in_ok-l.ensures in
    follow_unknown f _ _ _ _ (place_said f _ _ ∙ sym c.is_of.ensures ∙ c.if-not-is_of.false) c.in-None.ensures

pub returns-in-Some : goal.returns-in-Some
returns-in-Some c =
    let f = read_fit c.args.job.now c.in_ok-l.l c.in_ok-l.ensures in
    follow_moves f _ _ _ _ (place_said f _ _ ∙ sym c.is_of.ensures ∙ c.if-not-is_of.false) c.in-Some.ensures c.enter.ensures
