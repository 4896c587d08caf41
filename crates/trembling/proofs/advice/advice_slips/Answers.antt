-- `advice_slips` meets its contract: what reading refuses is refused; then the slips are judged, the plan's length, the larger place, and the entry's
-- shape.
use Prim.Native.Nat.{◌*◌}
use native.Mathlib.Omega.{arith}
use Rattle.std.proofs.lemmas.Result.{err_from_is_err_and}
use Rattle.job.proofs.Asking.{few_places}
use Rattle.job.proofs.Readings.{read_fit}
use Rattle.trembling.proofs.Rounding.{few_all}
use Rattle.trembling.proofs.Answering.{larger_below, slips_refused, slips_many, slips_short, slips_no_state, slips_no_goal, slips_not_left, slips_shapeless, slips_says}
use Rattle.trembling.proofs.advice.advice_slips.Goals as goal
use Rattle.trembling.proofs.advice.advice_slips.Goals.{then-l-s-via-then-l-s, then-l-s-via-else-l-s+then-l-q, then-l-s-via-else-l-s+else-l-q+then-most-k}

pub returns-in_err-l : goal.returns-in_err-l
returns-in_err-l c =
    let a = c.args in
    let p = err_from_is_err_and c.from_residual.result c.from_residual.ensures.1 in
    rw (p.1, p.2) (slips_refused a.job.now c.in_err-l.field-0.0 c.in_err-l.ensures a.slips a.plan.now a.state a.goal a.left)

pub returns-then-slips-gt3 : goal.returns-then-slips-gt3
returns-then-slips-gt3 c =
    let a = c.args in
    slips_many (read_fit c.args.job.now c.in_ok-l.l c.in_ok-l.ensures) a.slips a.plan.now a.state a.goal a.left c.if-slips-gt3.true

pub overflow_mul-many : goal.overflow_mul-many
overflow_mul-many c =
    omega (arith, few_places (read_fit c.args.job.now c.in_ok-l.l c.in_ok-l.ensures), few_all c.args.slips (c.in_ok-l.l.states * c.in_ok-l.l.goals) c.if-slips-gt3.false (few_places (read_fit c.args.job.now c.in_ok-l.l c.in_ok-l.ensures)))

pub overflow_mul-places : goal.overflow_mul-places
overflow_mul-places c =
    omega (arith, few_places (read_fit c.args.job.now c.in_ok-l.l c.in_ok-l.ensures), few_all c.args.slips (c.in_ok-l.l.states * c.in_ok-l.l.goals) c.if-slips-gt3.false (few_places (read_fit c.args.job.now c.in_ok-l.l c.in_ok-l.ensures)))

pub overflow_mul-places-2 : goal.overflow_mul-places-2
overflow_mul-places-2 c =
    omega (arith, few_places (read_fit c.args.job.now c.in_ok-l.l c.in_ok-l.ensures), few_all c.args.slips (c.in_ok-l.l.states * c.in_ok-l.l.goals) c.if-slips-gt3.false (few_places (read_fit c.args.job.now c.in_ok-l.l c.in_ok-l.ensures)))

pub returns-then-plan-places : goal.returns-then-plan-places
returns-then-plan-places c =
    let a = c.args in
    slips_short (read_fit c.args.job.now c.in_ok-l.l c.in_ok-l.ensures) a.slips a.plan.now a.state a.goal a.left c.if-slips-gt3.false c.if-plan-places.true

pub returns-then-l-s : goal.returns-then-l-s
returns-then-l-s c =
    let a = c.args in
    let f = read_fit c.args.job.now c.in_ok-l.l c.in_ok-l.ensures in
    elim c.then-l-s.branch [
      | then-l-s-via-then-l-s w ↦ slips_no_state f a.slips a.plan.now a.state a.goal a.left c.if-slips-gt3.false c.if-plan-places.false w.if-l-s.true
      | then-l-s-via-else-l-s+then-l-q w ↦
          slips_no_goal f a.slips a.plan.now a.state a.goal a.left c.if-slips-gt3.false c.if-plan-places.false w.if-l-s.false w.if-l-q.true
      | then-l-s-via-else-l-s+else-l-q+then-most-k w ↦
          slips_not_left f a.slips a.plan.now a.state a.goal a.left c.if-slips-gt3.false c.if-plan-places.false w.if-l-s.false w.if-l-q.false
          w.if-most-k.true
    ]

pub overflow_mul-k : goal.overflow_mul-k
overflow_mul-k c =
    let a = c.args in
    omega (
      arith,
      few_all a.slips (c.in_ok-l.l.states * c.in_ok-l.l.goals) c.if-slips-gt3.false (few_places (read_fit c.args.job.now c.in_ok-l.l c.in_ok-l.ensures)),
      larger_below a.slips a.left c.if-most-k.false c.if-l-s.false c.if-l-q.false,
    )

pub overflow_mul-s : goal.overflow_mul-s
overflow_mul-s c =
    let a = c.args in
    omega (
      arith,
      few_all a.slips (c.in_ok-l.l.states * c.in_ok-l.l.goals) c.if-slips-gt3.false (few_places (read_fit c.args.job.now c.in_ok-l.l c.in_ok-l.ensures)),
      larger_below a.slips a.left c.if-most-k.false c.if-l-s.false c.if-l-q.false,
    )

pub overflow_add-s : goal.overflow_add-s
overflow_add-s c =
    let a = c.args in
    omega (
      arith,
      few_all a.slips (c.in_ok-l.l.states * c.in_ok-l.l.goals) c.if-slips-gt3.false (few_places (read_fit c.args.job.now c.in_ok-l.l c.in_ok-l.ensures)),
      larger_below a.slips a.left c.if-most-k.false c.if-l-s.false c.if-l-q.false,
    )

pub overflow_add-k : goal.overflow_add-k
overflow_add-k c =
    let a = c.args in
    omega (
      arith,
      few_all a.slips (c.in_ok-l.l.states * c.in_ok-l.l.goals) c.if-slips-gt3.false (few_places (read_fit c.args.job.now c.in_ok-l.l c.in_ok-l.ensures)),
      larger_below a.slips a.left c.if-most-k.false c.if-l-s.false c.if-l-q.false,
    )

pub read_entry-e-requires : goal.read_entry-e-requires
read_entry-e-requires c =
    let a = c.args in
    omega (arith, c.if-plan-places.false, larger_below a.slips a.left c.if-most-k.false c.if-l-s.false c.if-l-q.false)

pub returns-in-None : goal.returns-in-None
returns-in-None c =
    let a = c.args in
    slips_shapeless (read_fit c.args.job.now c.in_ok-l.l c.in_ok-l.ensures) a.slips a.plan.now a.state a.goal a.left c.if-slips-gt3.false c.if-plan-places.false c.if-l-s.false c.if-l-q.false c.if-most-k.false
    c.read_entry-e.ensures c.in-None.is c.shape_of.ensures

pub returns-in-Some : goal.returns-in-Some
returns-in-Some c =
    let a = c.args in
    slips_says (read_fit c.args.job.now c.in_ok-l.l c.in_ok-l.ensures) a.slips a.plan.now a.state a.goal a.left c.if-slips-gt3.false c.if-plan-places.false c.if-l-s.false c.if-l-q.false c.if-most-k.false
    c.read_entry-e.ensures c.in-Some.is c.shape_of.ensures
