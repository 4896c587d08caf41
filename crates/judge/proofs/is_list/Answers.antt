-- `is_list` meets its contract: the bytes passed are digits or blanks.
use Rattle.std.proofs.Common.{◌||◌, length, get_or, sym, ◌∙◌, arith}
use Rattle.game.proofs.Tests.{every_stops}
use Rattle.judge.specs.Lines.{digit, blank}
use Rattle.judge.proofs.is_list.Goals as goal

pub returns-then-not-is_listed : goal.returns-then-not-is_listed
returns-then-not-is_listed c =
    let w = c.args.text.now in
    sym (every_stops (λ k. digit (get_or w k 0) || blank (get_or w k 0)) (length w) c.loop-c.c-index (omega arith)
    (sym c.is_listed.ensures ∙ c.if-not-is_listed.true))
