-- `line_end` meets its contract: no byte passed is a line feed.
use Rattle.std.proofs.Common.{ℕ, ◌<◌, ◌≡◌, false, eqb, get_or}
use Rattle.judge.proofs.line_end.Given as goal

abbrev pub invariant-loop-i : goal.invariant-loop-i
invariant-loop-i l = (k : ℕ) → k < l.i → eqb (get_or l.text k 0) 10 ≡ false
