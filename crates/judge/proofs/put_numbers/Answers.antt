-- `put_numbers` meets its contract: after i bytes what `Scanned` says.
use Rattle.std.proofs.Common.{rules}
use Rattle.judge.proofs.Scanning.{scanned_none, scanned_more, scanned_all}
use Rattle.judge.proofs.put_numbers.Goals as goal

pub loop-c-init : goal.loop-c-init
loop-c-init c = scanned_none _ _

pub loop-c-preserved : goal.loop-c-preserved
loop-c-preserved c =
    rw (c.grow-number.ensures.inside, c.grow-number.ensures.value)
    (scanned_more c.loop-c.invariant c.loop-c-test.true c.put_ended.ensures)

pub returns-clause-put_text : goal.returns-clause-put_text
returns-clause-put_text c = let t = scanned_all c.loop-c.invariant c.loop-c-test.false c.put_held.ensures in search (rules, t)
