-- `next_state` meets its contract. The measure: the clauses left.
use Rattle.std.proofs.Common.{arith, ◌/◌}
use Rattle.slips.specs.Clauses.{steps}
use Rattle.slips.specs.Writing.{clauses_from}
use Rattle.slips.proofs.Stepping.{More, weight_some, rest_left, weighed, stepped_by, others_below, next_is}
use Rattle.slips.proofs.body.+next_state.Goals as goal

pub returns-then-left-eq0 : goal.returns-then-left-eq0
unfolding clauses_from steps
returns-then-left-eq0 t c = rw c.if-left-eq0.true

pub nonzero_div-q : goal.nonzero_div-q
nonzero_div-q t c =
    let a = c.args in
    let m : More a.s.now a.at a.left a.q = record { some = c.if-left-eq0.false; left_state = c.requires } in
    weight_some m _ c.power-w.ensures

pub nonzero_rem-q : goal.nonzero_rem-q
nonzero_rem-q t c =
    let a = c.args in
    let m : More a.s.now a.at a.left a.q = record { some = c.if-left-eq0.false; left_state = c.requires } in
    weight_some m _ c.power-w.ensures

pub next_state-others-requires : goal.next_state-others-requires
next_state-others-requires t c =
    let a = c.args in
    let m : More a.s.now a.at a.left a.q = record { some = c.if-left-eq0.false; left_state = c.requires } in
    (omega arith, rest_left m _ c.power-w.ensures)

pub overflow_mul-result : goal.overflow_mul-result
overflow_mul-result t c =
    let a = c.args in
    let m : More a.s.now a.at a.left a.q = record { some = c.if-left-eq0.false; left_state = c.requires } in
    let h = weighed m _ c.power-w.ensures _ _ 0 (stepped_by c.of.result a.s.now a.at (a.q / c.power-w.result) c.of.ensures a.l c.next_one-first.result c.next_one-first.ensures) in
    omega arith

pub overflow_add-result : goal.overflow_add-result
overflow_add-result t c =
    let a = c.args in
    let m : More a.s.now a.at a.left a.q = record { some = c.if-left-eq0.false; left_state = c.requires } in
    let h = weighed m _ c.power-w.ensures _ _ 0 (stepped_by c.of.result a.s.now a.at (a.q / c.power-w.result) c.of.ensures a.l c.next_one-first.result c.next_one-first.ensures) in
    let k = others_below m _ c.power-w.ensures _ _ _ (stepped_by c.of.result a.s.now a.at (a.q / c.power-w.result) c.of.ensures a.l c.next_one-first.result c.next_one-first.ensures) c.next_state-others.ensures in
    omega arith

pub returns : goal.returns
returns t c =
    let a = c.args in
    let m : More a.s.now a.at a.left a.q = record { some = c.if-left-eq0.false; left_state = c.requires } in
    next_is m _ c.power-w.ensures _ _ _ (stepped_by c.of.result a.s.now a.at (a.q / c.power-w.result) c.of.ensures a.l c.next_one-first.result c.next_one-first.ensures) c.next_state-others.ensures
