-- `mend` meets its contract: the line of the refusal, or what is said of the salvaged job.
use mathlib.Core.Path.{refl}
use native.Mathlib.Omega.{arith}
use Rattle.rules.proofs.Figures.{refusal_some}
use Rattle.mend.proofs.Mending.{mended_refused, mended_done, mended_said}
use Rattle.mend.proofs.mend.Goals as goal

pub count_gone-gone-requires : goal.count_gone-gone-requires
count_gone-gone-requires c =
    let w = mended_done (rw c.in-Ok.is at c.salvage.ensures) refl in
    record {
      keeps_but = w.none;
      left_value = w.job_long;
    }

pub put_mended-requires : goal.put_mended-requires
put_mended-requires c =
    let w = mended_done (rw c.in-Ok.is at c.salvage.ensures) refl in
    omega (arith, w.pairs_fit)

pub returns-in-Err : goal.returns-in-Err
returns-in-Err c =
    let why = c.in-Err.why in
    mended_refused (rw c.in-Err.is at c.salvage.ensures) (λ z. omega (arith, (refusal_some why).1)) (omega arith) (omega arith)
    c.put_refusal.ensures

pub returns-in-Ok : goal.returns-in-Ok
returns-in-Ok c =
    let w = mended_done (rw c.in-Ok.is at c.salvage.ensures) refl in
    mended_said w c.count_gone-gone.ensures c.put_mended.ensures
