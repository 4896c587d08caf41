-- `write_goal` meets its contract: each way through it gives the answer that is due.
use mathlib.Core.Path.{sym, ◌∙◌}
use native.Mathlib.Omega.{arith}
use Rattle.slips.proofs.Bodies.{GoalSized, refuse_count, refuse_many, refuse_clause, few_clauses, product_few, states_few, body_left}
use Rattle.slips.proofs.Bodies.{room_short, goal_written}
use Rattle.slips.proofs.goal.write_goal.Goals as goal

pub returns-then-not-is_counted : goal.returns-then-not-is_counted
returns-then-not-is_counted c =
    refuse_count _ _ _ (sym c.is_counted.ensures ∙ c.if-not-is_counted.true)

pub returns-then-p-gt6 : goal.returns-then-p-gt6
returns-then-p-gt6 c = refuse_many _ _ _ (sym c.is_counted.ensures ∙ c.if-not-is_counted.false) c.if-p-gt6.true

pub returns-then-not-all_in_kind : goal.returns-then-not-all_in_kind
returns-then-not-all_in_kind c = refuse_clause _ _ _ (sym c.is_counted.ensures ∙ c.if-not-is_counted.false) c.if-p-gt6.false
    (sym c.all_in_kind.ensures ∙ c.if-not-all_in_kind.true)

pub power-q-requires : goal.power-q-requires
power-q-requires c = few_clauses c.args.s.now (sym c.is_counted.ensures ∙ c.if-not-is_counted.false)

pub overflow_mul-size : goal.overflow_mul-size
overflow_mul-size c =
    let a = c.args in
    let z : GoalSized a.s.now a.p c.width-w.result c.power-q.result =
    record {
      clauses_counted = sym c.is_counted.ensures ∙ c.if-not-is_counted.false;
      few = c.if-p-gt6.false;
      labels = c.width-w.ensures;
      goal_states = c.power-q.ensures;
    } in
    omega (arith, product_few z)

pub overflow_add-size : goal.overflow_add-size
overflow_add-size c =
    let a = c.args in
    let z : GoalSized a.s.now a.p c.width-w.result c.power-q.result =
    record {
      clauses_counted = sym c.is_counted.ensures ∙ c.if-not-is_counted.false;
      few = c.if-p-gt6.false;
      labels = c.width-w.ensures;
      goal_states = c.power-q.ensures;
    } in
    omega (arith, product_few z, states_few z)

pub returns-then-out-size : goal.returns-then-out-size
returns-then-out-size c =
    let a = c.args in
    let z : GoalSized a.s.now a.p c.width-w.result c.power-q.result =
    record {
      clauses_counted = sym c.is_counted.ensures ∙ c.if-not-is_counted.false;
      few = c.if-p-gt6.false;
      labels = c.width-w.ensures;
      goal_states = c.power-q.ensures;
    } in
    room_short z _ (sym c.all_in_kind.ensures ∙ c.if-not-all_in_kind.false) c.if-out-size.true

pub write_body-requires : goal.write_body-requires
write_body-requires c =
    let a = c.args in
    let z : GoalSized a.s.now a.p c.width-w.result c.power-q.result =
    record {
      clauses_counted = sym c.is_counted.ensures ∙ c.if-not-is_counted.false;
      few = c.if-p-gt6.false;
      labels = c.width-w.ensures;
      goal_states = c.power-q.ensures;
    } in
    body_left z _ c.if-out-size.false

pub shape_of-out : goal.shape_of-out
shape_of-out c = c.write_body.ensures.as_long

pub returns : goal.returns
returns c =
    let a = c.args in
    let z : GoalSized a.s.now a.p c.width-w.result c.power-q.result =
    record {
      clauses_counted = sym c.is_counted.ensures ∙ c.if-not-is_counted.false;
      few = c.if-p-gt6.false;
      labels = c.width-w.ensures;
      goal_states = c.power-q.ensures;
    } in
    goal_written z _ (sym c.all_in_kind.ensures ∙ c.if-not-all_in_kind.false) _ c.if-out-size.false c.write_body.ensures
