-- `label_place` meets its contract: the larger place is in the old set, or has no action that the round looks for, or joins the set.
use mathlib.Core.Path.{◌∙◌}
use native.Mathlib.Omega.{arith}
use Rattle.trembling.proofs.Rounding.{here_few, here_room, here_known, passed_old, passed_none, passed_new}
use Rattle.trembling.proofs.round.label_place.Goals as goal

pub overflow_mul-i-3 : goal.overflow_mul-i-3
overflow_mul-i-3 c = let p = c.requires in omega (arith, here_few p.ready p.q_lt_goals)

pub overflow_add-i : goal.overflow_add-i
overflow_add-i c = let p = c.requires in omega (arith, here_few p.ready p.q_lt_goals)

pub overflow_add-i-2 : goal.overflow_add-i-2
overflow_add-i-2 c = let p = c.requires in omega (arith, here_few p.ready p.q_lt_goals)

-- it is in the old set
pub returns-then-has : goal.returns-then-has
returns-then-has c =
    let p = c.requires in
    passed_old p.ready p.q_lt_goals c.args.phase c.args.number c.args.old.now.words
    (here_known p.ready p.q_lt_goals c.args.old.now.words c.has.ensures c.if-has.true)

pub write_entry-requires : goal.write_entry-requires
write_entry-requires c =
    let p = c.requires in
    here_room p.ready p.q_lt_goals

-- it joins
pub returns-in-Some : goal.returns-in-Some
returns-in-Some c =
    let p = c.requires in
    passed_new p.ready p.q_lt_goals c.args.phase c.args.number c.args.old.now.words c.look.ensures
    (here_known p.ready p.q_lt_goals c.args.old.now.words c.has.ensures c.if-has.false)
    c.in-Some.is c.put.ensures (c.number.ensures ∙ c.from.ensures) c.write_entry.ensures

-- it has no action
pub returns-in_default : goal.returns-in_default
returns-in_default c =
    let p = c.requires in
    passed_none p.ready p.q_lt_goals c.args.phase c.args.number c.args.old.now.words c.look.ensures c.in_default.is
