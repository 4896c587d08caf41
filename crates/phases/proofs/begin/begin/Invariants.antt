-- `begin` meets its contract: each turn is round 0 at one place more.
use mathlib.Core.Path.{◌≡◌}
use lib.ListN.{length}
use Rattle.phases.specs.Round.{Begun}
use Rattle.sets.specs.Sets.{set_words}
use Rattle.phases.proofs.begin.begin.Given as goal

abbrev pub invariant-loop-i : goal.invariant-loop-i
invariant-loop-i l =
    (length l.initial.new.words ≡ set_words) × Begun l.job l.l 0 l.i l.initial.new.words l.initial.plan l.new.words l.plan
