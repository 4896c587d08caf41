-- `label_slips` meets its contract: each turn is the pass over the places of one state more.
use Prim.Native.Nat.{◌+◌, ◌*◌}
use Rattle.rules.specs.Bytes.{said}
use Rattle.labelling.specs.Scan.{From}
use Rattle.trembling.specs.Round.{Passed}
use Rattle.trembling.proofs.round.label_slips.Given as goal

abbrev pub invariant-loop-s : goal.invariant-loop-s
invariant-loop-s l =
    From (said l.job) l.s l.start
    × Passed l.job l.l l.phase l.number l.old.words (l.k * (l.l.states * l.l.goals)) (l.k * (l.l.states * l.l.goals) + l.s * l.l.goals) l.initial.new.words l.initial.plan l.new.words l.plan
