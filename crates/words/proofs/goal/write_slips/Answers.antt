-- `goal::write_slips` meets its contract.
use mathlib.Core.Path.{refl}
use Rattle.words.specs.Within.{unslipped}
use Rattle.words.proofs.Goals.{slips_of}
use Rattle.words.proofs.goal.write_slips.Goals as goal

pub returns-in-Ok : goal.returns-in-Ok
returns-in-Ok c = slips_of c.requires c.write_goal.ensures c.in-Ok.is refl

pub returns-in-Err : goal.returns-in-Err
returns-in-Err c = unslipped
