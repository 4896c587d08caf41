-- `put_list` meets its contract: a turn puts the line of one more pair.
use native.Mathlib.Omega.{arith}
use Rattle.text.proofs.Putting.{puts_none}
use Rattle.text.proofs.Repeating.{puts_next, puts_upto}
use Rattle.mend.specs.Mends.{listed_line}
use Rattle.mend.proofs.put_list.Goals as goal

pub loop-k-init : goal.loop-k-init
loop-k-init c = puts_none _

pub loop-k-preserved : goal.loop-k-preserved
loop-k-preserved c = puts_next (listed_line c.args.pairs.now) c.loop-k.k c.loop-k.invariant c.put_listed.ensures

pub returns : goal.returns
returns c =
    puts_upto (listed_line c.args.pairs.now) c.loop-k.k c.args.n (omega arith) (omega arith) c.loop-k.invariant
