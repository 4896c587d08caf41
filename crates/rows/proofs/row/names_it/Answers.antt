-- `row::names_it` meets its contract: a name that is spelt in another way is not the one that is looked up.
use mathlib.Core.Path.{sym, ◌∙◌}
use Rattle.lines.specs.Tables.{names_of}
use Rattle.lines.proofs.Tabling.{names_counted}
use Rattle.rows.proofs.Aiming.{not_spelt}
use Rattle.rows.proofs.row.names_it.Goals as goal

pub returns-else-is_same : goal.returns-else-is_same
returns-else-is_same c =
    let n = c.args.goals in
    let other = sym c.is_same.ensures ∙ c.if-is_same.false in
    c.if-is_same.false ∙ not_spelt (names_of n) _ c.args.q (rw (names_counted n) c.requires) (rw (c.get.ensures, c.bytes.ensures) at other)
