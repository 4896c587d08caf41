-- `says::facts` meets its contract: the set has gained what the lines passed say.
use Rattle.lines.proofs.Saying.{gaining_more, gaining_end, line_said, no_lines}
use Rattle.lines.proofs.says.facts.Goals as goal

pub loop-line-preserved : goal.loop-line-preserved
loop-line-preserved c =
    (tt, tt, gaining_more c.loop-line.invariant.2 _ c.fact_line.ensures (line_said _ c.in-Some.ensures.steps.2))

pub returns : goal.returns
returns c = gaining_end c.loop-line.invariant.2 (no_lines _ c.in-None.ensures.steps.1)
