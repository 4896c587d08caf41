-- `learn` meets its contract: the places of the queue before i are known.
use Prim.Native.Nat.{ℕ}
use mathlib.Core.Path.{◌≡◌}
use lib.ListN.{length}
use Rattle.sets.specs.Sets.{set_words, member}
use Rattle.backward.specs.Queue.{queued}
use Rattle.backward.proofs.queue.learn.Given as goal

abbrev pub invariant-loop-i : goal.invariant-loop-i
invariant-loop-i l =
    (length l.known.words ≡ set_words) × ((x : ℕ) → member l.known.words x ≡ queued l.queue l.i x)
