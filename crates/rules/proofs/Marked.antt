-- The marked cases of document 01, and those with a busy state, each shown from the job's bytes to the plan's; and the edges of the two forms.
use mathlib.Core.Bool.{Bool, true, ◌&&◌}
use mathlib.Core.List.{[], ◌∷◌, Memᴰ}
use mathlib.Core.Path.{◌≡◌, refl, sym}
use lib.Dec.{eqb}
use lib.ListN.{set}
use Rattle.game.specs.Game.{says}
use Rattle.rules.specs.Job.{place, start, arena}
use Rattle.rules.specs.Fault.{only, with_record}
use Rattle.rules.specs.Bytes.{fault, refusal, said}
use Rattle.rules.specs.Calls.{is_place}
use Rattle.rules.specs.Examples.{plate, tall_plate, early, plain_with, tall_300, Case, marked, busy_marked, CaseHolds}
use Rattle.rules.specs.Retold.{retold}
use Rattle.game.specs.declared.entry.Entry.{Entry}
use Rattle.game.proofs.Lists.{every, every_at, some, sure}
use Rattle.game.proofs.Search.{lowest}
use Rattle.game.proofs.Tests.{and_iff, eqb_iff, ltb_iff}
use Rattle.rules.proofs.Kept.{kept}
use Rattle.game.proofs.Rounds.{win, hope}
use Rattle.game.proofs.Right.{by_rounds, right_iff, right_unique}
use Rattle.rules.proofs.Arenas.{inside_iff, arena_lawful}
use Rattle.rules.proofs.Planned.{planned_exactly, planned_plainly, planned_right}
use Rattle.rules.proofs.Existing.{planned_with_room}

same_entry : Entry → Entry → Bool
same_entry e f = eqb e.value f.value && (eqb e.action f.action && eqb e.number f.number)

-- the job keeps the rules, the place is one of its places, and the rounds give the entry
holds : Case → Bool
holds c =
    eqb (refusal c.job) 0
    && (is_place (said c.job) c.at.state c.at.goal
    && same_entry (by_rounds (arena (said c.job)) c.at) c.entry)

all_hold : every holds marked ≡ true
unfolding same_entry holds by_rounds win hope lowest every some sure
all_hold = refl

case_holds : (c : Case) → holds c ≡ true → CaseHolds c
unfolding holds same_entry
case_holds c h =
    let b = c.job in
    let G = arena (said b) in
    let t =
    (and_iff (eqb_iff _ _)
    (and_iff (and_iff (ltb_iff _ _) (ltb_iff _ _)) (and_iff (eqb_iff _ _) (and_iff (eqb_iff _ _) (eqb_iff _ _))))).0 h in
    let k = (kept b).0 t.0 in
    let e = t.1.1 in
    let i = (inside_iff (said b) c.at).1 t.1.0 in
    let L = arena_lawful b k in
    let right = (right_iff G L c.at i c.entry).1 (λ j. says (sym e.0 j) (sym e.1.0 j) (sym e.1.1 j)) in
    record {
      keeps = k;
      inside = i;
      planned = λ before enough. planned_with_room b before k enough;
      answered = λ before after f enough p. planned_plainly p ((planned_exactly p).1 (k, enough));
      there = λ before after p. right_unique G L (planned_right p refl c.at i) right;
    }

-- Each marked case holds, from the job's bytes to the plan's.
pub marked_planned : (c : Case) → Memᴰ c marked → CaseHolds c
marked_planned c m = case_holds c (every_at holds marked all_hold c m)

-- One plate with some of its bytes changed: the same record twice is told by the second; a record is told by its fields before its order,
-- and the first bad record by either before any later one, and before Goal
pub plate_faults : let at = set plate in
    (fault (at 41 1) ≡ with_record 13 5)
    × (fault (set (at 35 0) 36 3) ≡ with_record 12 3)
    × (fault (set (at 37 4) 41 0) ≡ with_record 12 3)
    × (fault (set (at 35 0) 43 4) ≡ with_record 13 3)
    × (fault (set (at 26 4) 58 2) ≡ with_record 12 0)
plate_faults = (refl, refl, refl, refl, refl)

busy_hold : every holds busy_marked ≡ true
unfolding same_entry holds by_rounds win hope lowest every some sure
busy_hold = refl

-- and so does each with a busy state
pub busy_planned : (c : Case) → Memᴰ c busy_marked → CaseHolds c
busy_planned c m = case_holds c (every_at holds busy_marked busy_hold c m)

-- where the worked jobs start
pub plate_starts : start (said plate) ≡ place 0 0
plate_starts = refl

pub early_starts : start (said early) ≡ place 0 1
early_starts = refl

-- One plate rewritten in the tall form has the bytes that it should
pub plate_retold : retold plate ≡ tall_plate
plate_retold = refl

-- with more states than a byte can count, each number of two bytes is read whole: the counts, and the moves, whose outcomes 255 and 256 are
-- in order by their numbers, though not by their bytes
pub tall_reads : let j = said (tall_300 255 0 0 1) in
    (fault (tall_300 255 0 0 1) ≡ only 0)
    × (j.states ≡ 300)
    × (j.actions ≡ 2)
    × (j.propositions ≡ 0)
    × (j.goals ≡ 1)
    × (j.first ≡ 299)
    × (j.first_goal ≡ 0)
    × (j.records ≡ 2)
    × (j.move 0 ≡ record { state = 299; action = 0; outcome = 255 })
    × (j.move 1 ≡ record { state = 299; action = 0; outcome = 256 })
tall_reads = (refl, refl, refl, refl, refl, refl, refl, refl, refl, refl)

-- and the edges of the two forms: 256 before 255; Counts 7 long; 129 states in the old form, and 513 in the tall one; Moves of three bytes in the
-- tall form, and of five in the old one
pub form_faults :
    (fault (tall_300 0 1 255 0) ≡ with_record 13 1)
    × (fault (plain_with 1 (1 ∷ 1 ∷ 0 ∷ 1 ∷ 0 ∷ 0 ∷ 0 ∷ []) []) ≡ only 2)
    × (fault (plain_with 128 (128 ∷ 1 ∷ 0 ∷ 1 ∷ 0 ∷ 0 ∷ []) []) ≡ only 0)
    × (fault (plain_with 129 (129 ∷ 1 ∷ 0 ∷ 1 ∷ 0 ∷ 0 ∷ []) []) ≡ only 3)
    × (fault (plain_with 512 (0 ∷ 2 ∷ 1 ∷ 0 ∷ 1 ∷ 255 ∷ 1 ∷ 0 ∷ []) []) ≡ only 0)
    × (fault (plain_with 513 (1 ∷ 2 ∷ 1 ∷ 0 ∷ 1 ∷ 255 ∷ 1 ∷ 0 ∷ []) []) ≡ only 3)
    × (fault (plain_with 1 (1 ∷ 0 ∷ 1 ∷ 0 ∷ 1 ∷ 0 ∷ 0 ∷ 0 ∷ []) (0 ∷ 0 ∷ 0 ∷ [])) ≡ only 5)
    × (fault (plain_with 1 (1 ∷ 1 ∷ 0 ∷ 1 ∷ 0 ∷ 0 ∷ []) (0 ∷ 0 ∷ 0 ∷ 0 ∷ 0 ∷ [])) ≡ only 5)
form_faults = (refl, refl, refl, refl, refl, refl, refl, refl)
