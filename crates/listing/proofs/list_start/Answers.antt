-- `list_start` meets its contract: each answer of starting has its first line.
use Rattle.std.specs.Prelude.{Err}
use Rattle.cabinet.specs.Figures.{moved_figures}
use Rattle.listing.specs.Told.{moved_line}
use Rattle.listing.proofs.Telling.{told, told_refused, moved_refused, moved_says}
use Rattle.listing.proofs.list_start.Goals as goal

pub returns-in-Err : goal.returns-in-Err
returns-in-Err c =
    told_refused moved_figures (moved_line _ _) Err (moved_refused _ _) c.in-Err.is
    c.start.ensures c.put_refusal.ensures

pub returns-in-Ok : goal.returns-in-Ok
returns-in-Ok c =
    told moved_figures (moved_line _ _) c.in-Ok.is c.start.ensures (moved_says _ _ _)
    c.list_first.ensures
