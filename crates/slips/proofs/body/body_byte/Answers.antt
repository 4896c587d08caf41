-- `body_byte` meets its contract.
use mathlib.Core.Path.{sym, ◌∙◌}
use native.Mathlib.Omega.{arith}
use Rattle.slips.proofs.Bodies.{ByteSized, some_labels, rows_few, label_few, row_left, mark_left, row_few, byte_row, byte_mark}
use Rattle.slips.proofs.body.body_byte.Goals as goal

pub width-w-requires : goal.width-w-requires
width-w-requires c =
    omega (arith, c.requires.few_propositions)

pub power-requires : goal.power-requires
power-requires c =
    omega (arith, c.requires.few)

pub overflow_mul-rows : goal.overflow_mul-rows
overflow_mul-rows c =
    let a = c.args in
    let z : ByteSized a.s.now a.n a.p a.y c.width-w.result c.power.result =
    record { left = c.requires; labels = c.width-w.ensures; goal_states = c.power.ensures } in
    omega (arith, rows_few z)

pub nonzero_div-y : goal.nonzero_div-y
nonzero_div-y c =
    let a = c.args in
    let z : ByteSized a.s.now a.n a.p a.y c.width-w.result c.power.result =
    record { left = c.requires; labels = c.width-w.ensures; goal_states = c.power.ensures } in
    some_labels z

pub nonzero_rem-y : goal.nonzero_rem-y
nonzero_rem-y c =
    let a = c.args in
    let z : ByteSized a.s.now a.n a.p a.y c.width-w.result c.power.result =
    record { left = c.requires; labels = c.width-w.ensures; goal_states = c.power.ensures } in
    some_labels z

pub overflow_cast-y : goal.overflow_cast-y
overflow_cast-y c =
    let a = c.args in
    let z : ByteSized a.s.now a.n a.p a.y c.width-w.result c.power.result =
    record { left = c.requires; labels = c.width-w.ensures; goal_states = c.power.ensures } in
    omega (arith, label_few z)

pub next_state-requires : goal.next_state-requires
next_state-requires c =
    let a = c.args in
    let z : ByteSized a.s.now a.n a.p a.y c.width-w.result c.power.result =
    record { left = c.requires; labels = c.width-w.ensures; goal_states = c.power.ensures } in
    row_left z c.if-y-rows.true

pub overflow_cast-result : goal.overflow_cast-result
overflow_cast-result c =
    let a = c.args in
    let z : ByteSized a.s.now a.n a.p a.y c.width-w.result c.power.result =
    record { left = c.requires; labels = c.width-w.ensures; goal_states = c.power.ensures } in
    rw c.next_state.ensures (omega (arith, row_few z c.if-y-rows.true))

pub returns-then-y-rows : goal.returns-then-y-rows
returns-then-y-rows c =
    let a = c.args in
    let z : ByteSized a.s.now a.n a.p a.y c.width-w.result c.power.result =
    record { left = c.requires; labels = c.width-w.ensures; goal_states = c.power.ensures } in
    byte_row z _ c.if-y-rows.true c.next_state.ensures

pub final_state-requires : goal.final_state-requires
final_state-requires c =
    let a = c.args in
    let z : ByteSized a.s.now a.n a.p a.y c.width-w.result c.power.result =
    record { left = c.requires; labels = c.width-w.ensures; goal_states = c.power.ensures } in
    mark_left z c.if-y-rows.false

pub returns : goal.returns
returns c =
    let a = c.args in
    let z : ByteSized a.s.now a.n a.p a.y c.width-w.result c.power.result =
    record { left = c.requires; labels = c.width-w.ensures; goal_states = c.power.ensures } in
    c.from.ensures ∙ byte_mark z c.final_state.result c.if-y-rows.false (sym c.final_state.ensures)
