-- `List::put_line` meets its contract.
use mathlib.Core.Path.{refl, sym}
use Rattle.lines.proofs.Tabling.{pushed_all}
use Rattle.lines.proofs.names.List.put_line.Goals as goal

pub returns-in_default : goal.returns-in_default
returns-in_default g c = (refl, sym (pushed_all _ _ c.in_default.ensures))
