-- `turn::is_job` meets its contract.
use mathlib.Core.Bool.{false≢true}
use mathlib.Core.Path.{sym, ap, ◌∙◌}
use Rattle.job.specs.Reading.{reading_figures}
use Rattle.job.proofs.Readings.{read_fit}
use Rattle.words.proofs.turn.is_job.Goals as goal

pub is_meant-requires : goal.is_meant-requires
is_meant-requires c = read_fit _ _ (ap reading_figures (sym c.in-Ok.is) ∙ c.read.ensures)

pub returns-in-Err : goal.returns-in-Err
returns-in-Err c = λ e. absurd (false≢true e)
