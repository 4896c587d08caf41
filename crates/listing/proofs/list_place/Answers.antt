-- `list_place` meets its contract: each answer of advice has its line.
use mathlib.Core.Path.{refl}
use Rattle.std.specs.Prelude.{Err}
use Rattle.rules.specs.Answers.{advised_figures}
use Rattle.listing.specs.Told.{advice_line}
use Rattle.listing.proofs.Telling.{told, told_refused, advice_refused}
use Rattle.listing.proofs.list_place.Goals as goal

pub returns-in-Err : goal.returns-in-Err
returns-in-Err c =
    told_refused advised_figures (advice_line _ _) Err (advice_refused _ _) c.in-Err.is
    c.advice.ensures c.put_refusal.ensures

pub returns-in-Ok : goal.returns-in-Ok
unfolding advice_line
returns-in-Ok c =
    told advised_figures (advice_line _ _) c.in-Ok.is c.advice.ensures refl
    c.put_entry.ensures
