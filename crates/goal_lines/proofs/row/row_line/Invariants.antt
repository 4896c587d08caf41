-- `row::row_line` meets its contract: each round takes a word of the line.
use lib.ListN.{length}
use Rattle.lines.specs.Steps.{words_left}
use Rattle.goal_lines.proofs.row.row_line.Given as goal

abbrev pub decreases-loop-word : goal.decreases-loop-word
decreases-loop-word l = length (words_left l.line)
