-- `list` meets its contract: the first q goal states stand in the line, which is still the buffer of phrases.
use Prim.Native.Nat.{◌≤◌}
use mathlib.Core.Path.{◌≡◌}
use lib.ListN.{length, take}
use Rattle.std.specs.List.{All}
use Rattle.seen.proofs.list.Given as goal

abbrev pub invariant-loop-q : goal.invariant-loop-q
invariant-loop-q l =
    All (λ s. (s.start ≤ s.end) × (s.end ≤ length l.line.bytes.now)) (take l.q l.goals)
    × (l.line.at ≤ length l.line.bytes.now) × (l.line.bytes.ghost_name ≡ l.initial.line.bytes.ghost_name)
