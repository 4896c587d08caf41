-- `goal::write_goal` meets its contract.
use Prim.Native.Nat.{ℕ}
use mathlib.Core.Path.{sym, ap, subst, ◌∙◌}
use native.Mathlib.Omega.{arith}
use lib.Seq.{length-take-le}
use Rattle.std.specs.Prelude.{unwrap_or}
use Rattle.lines.specs.Tables.{names_of}
use Rattle.words.specs.Within.{Aims, aimless}
use Rattle.words.proofs.Goals.{clauses_aim, table_aims}
use Rattle.words.proofs.goal.write_goal.Goals as goal

pub returns-then-k-eq0 : goal.returns-then-k-eq0
returns-then-k-eq0 c =
    let x = c.args in
    table_aims x.text.now x.facts x.goals c.clauses-k.ensures c.if-k-eq0.true (omega arith) c.write_table-size.ensures c.len-g.ensures
    (c.unwrap_or-first.ensures ∙ (ap (λ (k : ℕ). unwrap_or c.given.result k) c.len-g.ensures ∙ c.given.ensures.index))

pub returns-then-k-ge12 : goal.returns-then-k-ge12
returns-then-k-ge12 c = aimless

pub slice_bounds-write_slips-end : goal.slice_bounds-write_slips-end
slice_bounds-write_slips-end c = sym (length-take-le _ _ (omega arith))

pub returns : goal.returns
returns c =
    let x = c.args in
    subst (λ (p : ℕ). Aims (names_of x.facts) (names_of x.goals) x.text.now p c.write_slips.new.body c.write_slips.result) c.len-f.ensures
    (clauses_aim c.clauses-k.ensures c.if-k-ge12.false c.write_slips.ensures)
