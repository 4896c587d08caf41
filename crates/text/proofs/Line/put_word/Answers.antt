-- `put_word` meets its contract: one byte after the others.
use Rattle.text.proofs.Putting.{puts_more}
use Rattle.text.proofs.Line.put_word.Goals as goal

pub loop-byte-preserved : goal.loop-byte-preserved
loop-byte-preserved c = puts_more _ _ c.loop-byte-test.true c.loop-byte.invariant c.put.ensures
