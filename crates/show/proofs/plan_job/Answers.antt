-- `plan_job` meets its contract: a plan that was made has an entry for each place, and a job that was read has this layout.
use Prim.Native.Nat.{ℕ, ◌*◌, ◌≤◌}
use mathlib.Core.List.{List}
use mathlib.Core.Path.{◌≡◌, refl}
use native.Mathlib.Omega.{arith}
use lib.ListN.{length}
use Rattle.std.specs.Prelude.{Result, Ok, Err, IfOk}
use Rattle.rules.specs.Bytes.{said}
use Rattle.rules.specs.Job.{places}
use Rattle.rules.specs.declared.answer.Refusal.{Refusal}
use Rattle.rules.proofs.Planned.{planned_long}
use Rattle.job.specs.Layout.{Fit}
use Rattle.job.specs.Reading.{reading, reading_figures}
use Rattle.job.specs.declared.layout.Layout.{Layout}
use Rattle.job.proofs.Readings.{read_fit}
use Rattle.show.proofs.plan_job.Goals as goal

read_and_planned : (b after : List ℕ) (r : Result Layout Refusal) → reading_figures r ≡ reading b → 4 * places (said b) ≤ length after
    → IfOk r (λ l. Fit b l × (4 * places (said b) ≤ length after))
read_and_planned b after (Ok l) e long = (read_fit b l e, long)
read_and_planned b after (Err why) e long = _

pub returns : goal.returns
returns c =
    let long = planned_long c.in_ok-plan.ensures refl in
    read_and_planned c.args.job.now c.plan.new.plan c.read.result c.read.ensures (omega (arith, long))
