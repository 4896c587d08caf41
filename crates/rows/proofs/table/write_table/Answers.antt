-- `table::write_table` meets its contract: what was filled is the body.
use mathlib.Core.Path.{ap, ◌∙◌}
use Prim.Native.Nat.{ℕ, ◌^◌}
use native.Mathlib.Omega.{arith}
use Rattle.lines.specs.Tables.{count_of}
use Rattle.rows.proofs.Celling.{Sized, rows_few, table_written}
use Rattle.rows.proofs.table.write_table.Goals as goal

pub fill-requires-clause-size_value : goal.fill-requires-clause-size_value
fill-requires-clause-size_value c =
    let sized : Sized (count_of c.args.facts) (count_of c.args.goals) c.width-w.result =
    record { few_facts = c.requires.few.0; few_goals = c.requires.few.1; labels = c.width-w.ensures ∙ ap (λ (k : ℕ). 2 ^ k) c.len-f.ensures } in
    rw c.len-g.ensures (rw (c.width-w.ensures, c.len-f.ensures), omega (arith, rows_few (sized), c.requires.few.1, c.requires.in_bounds))

pub returns : goal.returns
returns c =
    let sized : Sized (count_of c.args.facts) (count_of c.args.goals) c.width-w.result =
    record { few_facts = c.requires.few.0; few_goals = c.requires.few.1; labels = c.width-w.ensures ∙ ap (λ (k : ℕ). 2 ^ k) c.len-f.ensures } in
    rw c.len-g.ensures
    (table_written c.args.text.now c.args.facts c.args.goals (sized) c.requires.in_bounds (rw c.len-g.ensures at c.fill.ensures))
