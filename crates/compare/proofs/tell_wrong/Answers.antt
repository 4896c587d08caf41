-- `tell_wrong` meets its contract: the plan is made, and both entries stand in the line.
use mathlib.Core.Path.{refl}
use native.Mathlib.Omega.{arith}
use Rattle.rules.proofs.Planned.{planned_long}
use Rattle.job.proofs.Asking.{few_places, places_said}
use Rattle.checking.proofs.Checked.{wrong_at}
use Rattle.checking.proofs.Answering.{never_refused}
use Rattle.compare.proofs.Telling.{entry_inside, told_wrong}
use Rattle.compare.proofs.tell_wrong.Goals as goal

pub overflow_mul-i : goal.overflow_mul-i
overflow_mul-i c = omega (arith, few_places c.requires.fit, entry_inside c.requires.fit c.requires.checking)

pub overflow_add-i : goal.overflow_add-i
overflow_add-i c = omega (arith, few_places c.requires.fit, entry_inside c.requires.fit c.requires.checking)

pub read_entry-said-requires : goal.read_entry-said-requires
read_entry-said-requires c =
    omega (arith, entry_inside c.requires.fit c.requires.checking, (wrong_at c.requires.checking refl).whole, places_said c.requires.fit)

pub read_entry-right-requires : goal.read_entry-right-requires
read_entry-right-requires c =
    let d = planned_long (rw c.in-Ok.is at c.plan.ensures) refl in
    omega (arith, entry_inside c.requires.fit c.requires.checking, d, places_said c.requires.fit)

pub returns-in-Err : goal.returns-in-Err
returns-in-Err c =
    absurd (never_refused c.requires.fit c.args.plan.now c.in-Err.why (rw c.in-Err.is at c.plan.ensures)
    (omega (arith, few_places c.requires.fit)))

pub returns-in-Ok : goal.returns-in-Ok
returns-in-Ok c =
    told_wrong c.requires.fit c.requires.checking (rw c.in-Ok.is at c.plan.ensures) c.read_entry-said.ensures
    c.read_entry-right.ensures c.put_wrong.ensures
