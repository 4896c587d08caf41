-- `tally::count_all` meets its contract.
use Rattle.salvage.specs.Passes.{Carried, Tallied}
use Rattle.salvage.proofs.tally.count_all.Given as goal

abbrev pub invariant-loop-k : goal.invariant-loop-k
invariant-loop-k l = Carried l.job l.k l.bad × Tallied l.job l.k l.t
