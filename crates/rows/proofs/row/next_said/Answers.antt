-- `row::next_said` meets its contract: by whether a row fits.
use mathlib.Core.Path.{◌∙◌}
use Rattle.lines.proofs.Tabling.{names_counted}
use Rattle.rows.proofs.Aiming.{next_by}
use Rattle.rows.proofs.row.next_said.Goals as goal

pub returns : goal.returns
returns c =
    let f = c.first_aim.ensures in
    c.unwrap_or.ensures ∙ next_by _ _ _ _ _ c.first_aim.result (rw (names_counted c.args.goals) f.index) (rw (names_counted c.args.goals) f.within)
