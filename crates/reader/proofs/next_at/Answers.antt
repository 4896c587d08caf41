-- `next_at` meets its contract: the cursor moves on below the count of a job that reads, and stays otherwise.
use mathlib.Core.Path.{sym, ap, ◌∙◌}
use Rattle.job.specs.Reading.{reading_figures}
use Rattle.reader.proofs.Handing.{moves_on, stays, among, past, past_refused}
use Rattle.reader.proofs.next_at.Goals as goal

pub returns-then-at-l : goal.returns-then-at-l
returns-then-at-l c =
    let b = c.args.job.now in
    let l = c.in-Ok.l in
    let k = c.args.at in
    let e = ap reading_figures (sym c.in-Ok.is) ∙ c.read.ensures in
    sym (moves_on b k (among b l k e c.if-at-l.true))

pub returns-in-Err : goal.returns-in-Err
returns-in-Err c =
    let b = c.args.job.now in
    let r = c.in-Err.field-0 in
    let k = c.args.at in
    let e = ap reading_figures (sym c.in-Err.is) ∙ c.read.ensures in
    sym (stays b k (past_refused b r k e))

pub returns-else-at-l : goal.returns-else-at-l
returns-else-at-l c =
    let b = c.args.job.now in
    let l = c.in-Ok.l in
    let k = c.args.at in
    let e = ap reading_figures (sym c.in-Ok.is) ∙ c.read.ensures in
    sym (stays b k (past b l k e c.if-at-l.false))
