-- `nth_move` meets its contract: a job that reads has a move below its count, and a refused one has none.
use mathlib.Core.Path.{sym, ap, ◌∙◌}
use Rattle.std.specs.Prelude.{Some}
use Rattle.job.specs.Reading.{reading_figures}
use Rattle.job.proofs.Readings.{read_fit}
use Rattle.reader.proofs.Handing.{hands_record, hands_no_more, among, past, past_refused}
use Rattle.reader.proofs.nth_move.Goals as goal

pub move_at-requires : goal.move_at-requires
move_at-requires c =
    record {
      fit = read_fit _ _ (ap reading_figures (sym c.in-Ok.is) ∙ c.read.ensures);
      k_lt_records = c.if-k-l.true;
    }

pub returns-then-k-l : goal.returns-then-k-l
returns-then-k-l c =
    let b = c.args.job.now in
    let l = c.in-Ok.l in
    let k = c.args.k in
    let e = ap reading_figures (sym c.in-Ok.is) ∙ c.read.ensures in
    ap Some c.move_at.ensures ∙ sym (hands_record b k (among b l k e c.if-k-l.true))

pub returns-in-Err : goal.returns-in-Err
returns-in-Err c =
    let b = c.args.job.now in
    let r = c.in-Err.field-0 in
    let k = c.args.k in
    let e = ap reading_figures (sym c.in-Err.is) ∙ c.read.ensures in
    sym (hands_no_more b k (past_refused b r k e))

pub returns-else-k-l : goal.returns-else-k-l
returns-else-k-l c =
    let b = c.args.job.now in
    let l = c.in-Ok.l in
    let k = c.args.k in
    let e = ap reading_figures (sym c.in-Ok.is) ∙ c.read.ensures in
    sym (hands_no_more b k (past b l k e c.if-k-l.false))
