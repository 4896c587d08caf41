-- One plate with one slip, from the job's bytes: at 1, 1 the plate is still brought home for sure, by return, but in two moves and not in one, since
-- return may become expose.
use mathlib.Core.Bool.{true, false}
use mathlib.Core.Path.{◌≡◌, refl}
use Rattle.game.specs.Game.{Lawful, Right, says}
use Rattle.rules.specs.Job.{place, arena}
use Rattle.rules.specs.Bytes.{said}
use Rattle.rules.specs.Keeps.{Keeps}
use Rattle.rules.specs.Examples.{plate}
use Rattle.game.proofs.Lists.{every, sure}
use Rattle.game.proofs.Search.{lowest, new}
use Rattle.rules.proofs.Kept.{kept}
use Rattle.game.proofs.Rounds.{win, win_up}
use Rattle.game.proofs.Right.{right_wins}
use Rattle.rules.proofs.Arenas.{arena_lawful}
use Rattle.larger.specs.Larger.{larger}
use Rattle.larger.specs.Plans.{larger_arena}
use Rattle.larger.proofs.Slipping.{slipping_lawful}

plate_keeps : Keeps plate
plate_keeps = (kept plate).0 refl

plate_lawful : Lawful (larger_arena (said plate) 1)
plate_lawful = slipping_lawful (arena (said plate)) (arena_lawful plate plate_keeps) 1

not_in_one : win (larger_arena (said plate) 1) 1 (larger 1 (place 1 1)) ≡ false
unfolding win sure every
not_in_one = refl

in_two : win (larger_arena (said plate) 1) 2 (larger 1 (place 1 1)) ≡ true
unfolding win sure every
in_two = refl

pub plate_slip : Right (larger_arena (said plate) 1) (larger 1 (place 1 1)) (says 2 2 2)
unfolding win sure every lowest
plate_slip =
    right_wins (larger_arena (said plate) 1) plate_lawful (larger 1 (place 1 1)) 1
    (new (λ k. win (larger_arena (said plate) 1) k (larger 1 (place 1 1)))
    (λ k. win_up (larger_arena (said plate) 1) plate_lawful k (larger 1 (place 1 1))) 1 not_in_one in_two)
