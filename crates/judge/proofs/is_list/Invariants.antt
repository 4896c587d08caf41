-- `is_list` meets its contract: the bytes passed are digits or blanks.
use Rattle.std.proofs.Common.{◌≡◌, true, ◌||◌, get_or}
use Rattle.game.specs.Below.{every_below}
use Rattle.judge.specs.Lines.{digit, blank}
use Rattle.judge.proofs.is_list.Given as goal

abbrev pub invariant-loop-c : goal.invariant-loop-c
invariant-loop-c l = every_below l.c-index (λ k. digit (get_or l.text k 0) || blank (get_or l.text k 0)) ≡ true
