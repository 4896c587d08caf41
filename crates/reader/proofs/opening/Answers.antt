-- `opening` meets its contract: reading says what refuses the job, if anything does.
use Prim.Native.Nat.{ℕ}
use mathlib.Core.Path.{sym, ap, ap₂, ◌∙◌}
use native.Mathlib.Omega.{arith}
use Rattle.rules.specs.Fault.{with_record}
use Rattle.job.specs.Reading.{reading_figures}
use Rattle.job.proofs.Readings.{read_refused}
use Rattle.rules.proofs.Numbers.{plainly_said}
use Rattle.reader.specs.Handed.{answered}
use Rattle.reader.proofs.Handing.{read_none}
use Rattle.reader.proofs.opening.Goals as goal

pub returns-in-Err : goal.returns-in-Err
returns-in-Err c =
    let b = c.args.job.now in
    let r = c.in-Err.why in
    ap₂ (λ (n k : ℕ). answered (with_record n k)) c.number.ensures c.record.ensures
    ∙ ap answered (sym (read_refused b r (ap reading_figures (sym c.in-Err.is) ∙ c.read.ensures)))

pub returns-in-Ok : goal.returns-in-Ok
returns-in-Ok c =
    let b = c.args.job.now in
    let l = c.in-Ok.field-0 in
    let none = read_none b l (ap reading_figures (sym c.in-Ok.is) ∙ c.read.ensures) in
    ap answered (sym (plainly_said b 0 (omega arith) none))
