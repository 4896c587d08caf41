-- `check_by` meets its contract: the right plan, then the first wrong entry.
use mathlib.Core.Path.{refl}
use native.Mathlib.Omega.{arith}
use Rattle.job.proofs.Asking.{few_places, some_goals, places_said}
use Rattle.rules.proofs.Planned.{planned_long}
use Rattle.checking.proofs.Answering.{never_refused, checks_from}
use Rattle.checking.proofs.check.check_by.Goals as goal

pub fits_all-x-requires : goal.fits_all-x-requires
fits_all-x-requires c =
    let t = c.requires in
    let d = planned_long c.in_ok-plan.ensures refl in
    record {
      fit = t.fit;
      goals_in_bounds = t.goals_in_bounds_2;
      goals_in_bounds_2 = omega (arith, d, places_said t.fit);
    }

pub overflow_mul-l : goal.overflow_mul-l
overflow_mul-l c = omega (arith, few_places c.requires.fit)

pub answer-requires : goal.answer-requires
answer-requires c =
    let t = c.requires.fit in
    record {
      goals_nonzero = some_goals t;
      n_le_set_room = few_places t;
    }

pub returns-in_err-plan : goal.returns-in_err-plan
returns-in_err-plan c =
    absurd (never_refused c.requires.fit c.args.plan.now _ c.in_err-plan.ensures c.requires.goals_in_bounds)

pub returns : goal.returns
returns c =
    rw c.answer.ensures (checks_from c.requires.fit c.args.plan.now c.requires.goals_in_bounds_2
    c.in_ok-plan.ensures c.fits_all-x.ensures)
