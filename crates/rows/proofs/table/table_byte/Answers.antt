-- `table::table_byte` meets its contract: the next goal state is one of the goal states, so it is a byte.
use mathlib.Core.Path.{ap, ◌∙◌}
use Prim.Native.Nat.{ℕ, ◌^◌}
use native.Mathlib.Omega.{arith}
use Rattle.lines.specs.Words.{lines}
use Rattle.lines.specs.Tables.{names_of, count_of}
use Rattle.lines.proofs.Tabling.{names_counted}
use Rattle.rows.proofs.Celling.{Sized, row_few}
use Rattle.rows.proofs.table.table_byte.Goals as goal

pub overflow_cast-result : goal.overflow_cast-result
overflow_cast-result c =
    let a = c.args in
    let sized : Sized (count_of c.args.facts) (count_of c.args.goals) c.width-w.result =
    record { few_facts = c.requires.few.0; few_goals = c.requires.few.1; labels = c.width-w.ensures ∙ ap (λ (k : ℕ). 2 ^ k) c.len-f.ensures } in
    rw c.next_said.ensures
    (omega (arith, row_few (sized) (names_of a.facts) (names_of a.goals) (lines a.text.now) (names_counted a.goals) a.y (rw c.len-g.ensures at c.if-y-rows.true)))
