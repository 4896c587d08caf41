-- `final_state` meets its contract. The measure: the clauses left.
use Rattle.std.proofs.Common.{arith, ◌/◌, ◌∙◌}
use Rattle.slips.specs.Clauses.{finals}
use Rattle.slips.specs.Writing.{clauses_from}
use Rattle.slips.proofs.Stepping.{More, weight_some, rest_left, final_by, final_yes, final_no}
use Rattle.slips.proofs.body.+final_state.Goals as goal

pub returns-then-left-eq0 : goal.returns-then-left-eq0
unfolding clauses_from finals
returns-then-left-eq0 t c = rw c.if-left-eq0.true

pub nonzero_div-q : goal.nonzero_div-q
nonzero_div-q t c =
    let a = c.args in
    let m : More a.s.now a.at a.left a.q = record { some = c.if-left-eq0.false; left_state = c.requires } in
    weight_some m _ c.power-w.ensures

pub nonzero_rem-q : goal.nonzero_rem-q
nonzero_rem-q t c =
    let a = c.args in
    let m : More a.s.now a.at a.left a.q = record { some = c.if-left-eq0.false; left_state = c.requires } in
    weight_some m _ c.power-w.ensures

pub final_state-requires : goal.final_state-requires
final_state-requires t c =
    let a = c.args in
    let m : More a.s.now a.at a.left a.q = record { some = c.if-left-eq0.false; left_state = c.requires } in
    (omega arith, rest_left m _ c.power-w.ensures)

pub returns-then-final_one : goal.returns-then-final_one
returns-then-final_one t c =
    let a = c.args in
    let m : More a.s.now a.at a.left a.q = record { some = c.if-left-eq0.false; left_state = c.requires } in
    final_yes m _ c.power-w.ensures _ (final_by c.of.result a.s.now a.at (a.q / c.power-w.result) c.of.ensures c.final_one.result c.final_one.ensures) _ c.if-final_one.true c.final_state.ensures

pub returns-else-final_one : goal.returns-else-final_one
returns-else-final_one t c =
    let a = c.args in
    let m : More a.s.now a.at a.left a.q = record { some = c.if-left-eq0.false; left_state = c.requires } in
    c.if-final_one.false ∙ final_no m _ c.power-w.ensures _ (final_by c.of.result a.s.now a.at (a.q / c.power-w.result) c.of.ensures c.final_one.result c.final_one.ensures) c.if-final_one.false
