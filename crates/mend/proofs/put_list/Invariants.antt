-- `put_list` meets its contract: a turn puts the line of one more pair.
use Rattle.game.specs.Below.{upto, each}
use Rattle.text.specs.Puts.{Puts}
use Rattle.mend.specs.Mends.{listed_line}
use Rattle.mend.proofs.put_list.Given as goal

abbrev pub invariant-loop-k : goal.invariant-loop-k
invariant-loop-k l = Puts l.initial.line (each (upto l.k) (listed_line l.pairs)) l.line
