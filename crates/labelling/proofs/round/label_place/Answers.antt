-- `label_place` meets its contract: the place is in the old set, or has no action that the round looks for, or joins the set.
use mathlib.Core.Path.{◌∙◌}
use Rattle.labelling.proofs.Rounding.{here_known, passed_none, passed_new}
use Rattle.labelling.proofs.round.label_place.Goals as goal

-- it joins
pub returns-in-Some : goal.returns-in-Some
returns-in-Some c =
    let p = c.requires in
    let i = c.entry_number-i.ensures in
    passed_new p.ready p.q_lt_goals c.args.phase c.args.number c.args.old.now.words c.scan-tally.ensures c.choose.ensures i
    (here_known p.ready p.q_lt_goals i c.args.old.now.words c.has.ensures c.if-has.false)
    c.in-Some.is c.put.ensures (c.number.ensures ∙ c.from.ensures) c.write_entry.ensures

-- it has no action
pub returns-in_default : goal.returns-in_default
returns-in_default c =
    let p = c.requires in
    passed_none p.ready p.q_lt_goals c.args.phase c.args.number c.args.old.now.words c.scan-tally.ensures c.choose.ensures
    c.in_default.is
