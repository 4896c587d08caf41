-- `tell` meets its contract: the line of what the check answers.
use mathlib.Core.Path.{sym, ap, ◌∙◌}
use Rattle.job.specs.Reading.{reading_figures}
use Rattle.job.proofs.Readings.{read_fit, read_refused_some}
use Rattle.compare.proofs.Telling.{told_refused, told_right, read_wrong}
use Rattle.compare.proofs.tell.Goals as goal

pub tell_wrong-requires : goal.tell_wrong-requires
tell_wrong-requires c =
    record {
      fit = read_fit _ _ (ap reading_figures (sym c.in-Ok-read.is) ∙ c.read.ensures);
      checking = rw (c.in-Err-Wrong.is, c.in-Err-Wrong.field-0-is) at c.check.ensures;
    }

pub returns-in-Err-Refused : goal.returns-in-Err-Refused
returns-in-Err-Refused c =
    told_refused c.in-Err-Refused.why (rw (c.in-Err-Refused.is, c.in-Err-Refused.field-0-is) at c.check.ensures) c.put_refusal.ensures

pub returns-in-Ok : goal.returns-in-Ok
returns-in-Ok c =
    told_right (rw c.in-Ok.is at c.check.ensures) c.put_word.ensures

pub returns-in-Err : goal.returns-in-Err
returns-in-Err c =
    absurd (read_wrong (rw (c.in-Err-Wrong.is, c.in-Err-Wrong.field-0-is) at c.check.ensures)
    (read_refused_some c.args.job.now c.in-Err.why (ap reading_figures (sym c.in-Err.is) ∙ c.read.ensures)))
