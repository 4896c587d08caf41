-- `table::fill` meets its contract: the bytes passed are the body's.
use Rattle.lines.specs.Words.{lines}
use Rattle.lines.specs.Tables.{names_of, count_of}
use Rattle.slips.specs.Filling.{Filled}
use Rattle.rows.specs.Cells.{table_byte}
use Rattle.rows.proofs.table.fill.Given as goal

abbrev pub invariant-loop-y : goal.invariant-loop-y
invariant-loop-y l =
    Filled l.y (table_byte (names_of l.facts) (names_of l.goals) (lines l.text) (count_of l.facts)) l.initial.body l.body
