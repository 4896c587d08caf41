-- `label_state` meets its contract: each turn is the pass over one place more.
use Prim.Native.Nat.{◌+◌, ◌*◌}
use Rattle.phases.specs.Round.{Passed}
use Rattle.labelling.proofs.round.label_state.Given as goal

abbrev pub invariant-loop-q : goal.invariant-loop-q
invariant-loop-q l =
    Passed l.job l.l l.phase l.number l.old.words (l.s * l.l.goals) (l.s * l.l.goals + l.q) l.initial.new.words l.initial.plan l.new.words l.plan
