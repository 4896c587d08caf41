-- `one_round` meets its contract: each turn is the pass over the places with one slip more left.
use Prim.Native.Nat.{◌*◌}
use Rattle.trembling.specs.Round.{Passed}
use Rattle.trembling.proofs.round.one_round.Given as goal

abbrev pub invariant-loop-k : goal.invariant-loop-k
invariant-loop-k l =
    Passed l.job l.l l.phase l.number l.set.words 0 (l.k * (l.l.states * l.l.goals)) l.initial.new.words l.initial.plan l.new.words l.plan
