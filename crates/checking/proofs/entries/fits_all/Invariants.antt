-- `fits_all` meets its contract: every state passed has entries that may all stand where they stand.
use Prim.Native.Nat.{◌*◌}
use Rattle.rules.specs.Bytes.{said}
use Rattle.labelling.specs.Scan.{From}
use Rattle.checking.specs.Fits.{fits_at}
use Rattle.checking.proofs.Judging.{AllFrom}
use Rattle.checking.proofs.entries.fits_all.Given as goal

abbrev pub invariant-loop-s : goal.invariant-loop-s
invariant-loop-s l =
    From (said l.job) l.s l.start × AllFrom (fits_at l.job l.own l.plan) 0 (l.s * l.l.goals)
