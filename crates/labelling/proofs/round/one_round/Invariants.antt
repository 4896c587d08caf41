-- `one_round` meets its contract: each turn is the pass over the places of one state more.
use Prim.Native.Nat.{◌*◌}
use Rattle.rules.specs.Bytes.{said}
use Rattle.phases.specs.Round.{Passed}
use Rattle.labelling.specs.Scan.{From}
use Rattle.labelling.proofs.round.one_round.Given as goal

abbrev pub invariant-loop-s : goal.invariant-loop-s
invariant-loop-s l =
    From (said l.job) l.s l.start
    × Passed l.job l.l l.phase l.number l.set.words 0 (l.s * l.l.goals) l.initial.new.words l.initial.plan l.new.words l.plan
