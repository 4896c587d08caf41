-- `fits_place` meets its contract: the value, the number, and then the action.
use native.Mathlib.Omega.{arith}
use lib.Arith.{digits_lt}
use Rattle.job.proofs.Asking.{few_places}
use Rattle.std.proofs.lemmas.Grind.{common_steps}
use Rattle.checking.proofs.Judging.{judged_there, judged_seen}
use Rattle.checking.proofs.entries.fits_place.Goals as goal

pub overflow_mul-i : goal.overflow_mul-i
overflow_mul-i c =
    omega (arith, few_places c.requires.ready.fit, digits_lt c.requires.ready.state c.requires.q_lt_goals)

pub overflow_add-i : goal.overflow_add-i
overflow_add-i c =
    omega (arith, few_places c.requires.ready.fit, digits_lt c.requires.ready.state c.requires.q_lt_goals)

pub read_entry-given-requires : goal.read_entry-given-requires
read_entry-given-requires c =
    omega (arith, digits_lt c.requires.ready.state c.requires.q_lt_goals, c.requires.ready.whole)

pub read_entry-right-requires : goal.read_entry-right-requires
read_entry-right-requires c =
    omega (arith, digits_lt c.requires.ready.state c.requires.q_lt_goals, c.requires.ready.own_whole)

pub look-seen-requires : goal.look-seen-requires
look-seen-requires c =
    let p = c.requires in
    record {
      fit = p.ready.fit;
      q_lt_goals = p.q_lt_goals;
      goals_in_bounds = p.ready.own_whole;
      range = p.ready.range;
    }

pub returns-then-given-right : goal.returns-then-given-right
returns-then-given-right c =
    rw (judged_there c.requires.ready.fit c.args.own.now c.args.plan.now c.args.s c.requires.q_lt_goals c.read_entry-given.ensures
    c.read_entry-right.ensures)
    (grind (arith, common_steps))

pub returns-then-is_none : goal.returns-then-is_none
returns-then-is_none c =
    rw (judged_there c.requires.ready.fit c.args.own.now c.args.plan.now c.args.s c.requires.q_lt_goals c.read_entry-given.ensures
    c.read_entry-right.ensures)
    (grind (arith, common_steps))

pub returns-then-seen : goal.returns-then-seen
returns-then-seen c =
    rw (judged_seen c.requires.ready.fit c.args.own.now c.args.plan.now c.args.s c.requires.q_lt_goals c.read_entry-given.ensures
    c.read_entry-right.ensures c.look-seen.ensures)
    (grind (arith, common_steps))

pub returns-else-seen : goal.returns-else-seen
returns-else-seen c =
    rw (judged_seen c.requires.ready.fit c.args.own.now c.args.plan.now c.args.s c.requires.q_lt_goals c.read_entry-given.ensures
    c.read_entry-right.ensures c.look-seen.ensures)
    (grind (arith, common_steps))

pub returns-in_default : goal.returns-in_default
returns-in_default c =
    rw (judged_seen c.requires.ready.fit c.args.own.now c.args.plan.now c.args.s c.requires.q_lt_goals c.read_entry-given.ensures
    c.read_entry-right.ensures c.look-seen.ensures)
    (grind (arith, common_steps))

pub returns-in_default-2 : goal.returns-in_default-2
returns-in_default-2 c =
    rw (judged_seen c.requires.ready.fit c.args.own.now c.args.plan.now c.args.s c.requires.q_lt_goals c.read_entry-given.ensures
    c.read_entry-right.ensures c.look-seen.ensures)
    (grind (arith, common_steps))
