-- `turn::finish` meets its contract.
use mathlib.Core.Path.{sym}
use lib.Seq.{length-take-le}
use Rattle.words.specs.Within.{same, other}
use Rattle.words.proofs.turn.finish.Goals as goal

pub returns-then-out-n : goal.returns-then-out-n
returns-then-out-n c = other

pub slice_bounds-is_job-end-2 : goal.slice_bounds-is_job-end-2
slice_bounds-is_job-end-2 c = sym (length-take-le _ _ c.if-out-n.false)

pub returns-then-is_job : goal.returns-then-is_job
returns-then-is_job c = same c.if-out-n.false (c.is_job.ensures c.if-is_job.true)

pub returns : goal.returns
returns c = other
