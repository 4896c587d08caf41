-- `fits_state` meets its contract: every entry passed may stand where it stands.
use Prim.Native.Nat.{◌+◌, ◌*◌}
use Rattle.checking.specs.Fits.{fits_at}
use Rattle.checking.proofs.Judging.{AllFrom}
use Rattle.checking.proofs.entries.fits_state.Given as goal

abbrev pub invariant-loop-q : goal.invariant-loop-q
invariant-loop-q l = AllFrom (fits_at l.job l.own l.plan) (l.s * l.l.goals) (l.s * l.l.goals + l.q)
