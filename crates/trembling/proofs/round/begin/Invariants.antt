-- `begin` meets its contract: each turn is round 0 at one larger place more.
use mathlib.Core.Path.{◌≡◌}
use lib.ListN.{length}
use Rattle.trembling.specs.Sets.{larger_words}
use Rattle.trembling.specs.Round.{Begun}
use Rattle.trembling.proofs.round.begin.Given as goal

abbrev pub invariant-loop-i : goal.invariant-loop-i
invariant-loop-i l =
    (length l.initial.new.words ≡ larger_words) × Begun l.job l.l 0 l.i l.initial.new.words l.initial.plan l.new.words l.plan
