-- What each public call answers and leaves, on every input: document 01, "Numbers that say no".
use Rattle.std.specs.Prelude.{ℕ, ◌≤◌, ◌<◌, Bool, cond, not, ◌&&◌, List, ◌++◌, ◌≡◌, ltb, eqb, length, drop}
use Rattle.rules.specs.Job.{Job, place, places, entry_number, entered, start, recorded, record_number}
use Rattle.rules.specs.Fault.{Fault, only}
use Rattle.rules.specs.Bytes.{fault, refusal, said}
use Rattle.rules.specs.Plan.{entry, room, Plan, shaped}
use Rattle.rules.specs.Answers.{MovedFigures, AdvisedFigures}
use Rattle.rules.specs.declared.place.Place.{Place}
use Rattle.game.specs.declared.entry.Entry.{Entry}

-- ---- planning

-- `Planning b before f after`: planning the job b into a buffer that holds `before` answers f and leaves `after`.
-- A refusal changes nothing in the plan buffer; a plan leaves the bytes beyond it as they were.
pub data Planning (b before : List ℕ) : Fault → List ℕ → Type 0 where
  refused : (refusal b ≡ 0 → ⊥) → Planning b before (fault b) before
  no_room : refusal b ≡ 0 → length before < room (said b) → Planning b before (only 7) before
  planned : {p : List ℕ} → refusal b ≡ 0 → room (said b) ≤ length before → Plan (said b) p
      → Planning b before (only 0) (p ++ drop (room (said b)) before)

-- ---- starting and following

abbrev pub refused_move : Fault → MovedFigures
refused_move f = record { refusal = f.number; state = 0; goal = 0; «record» = f.«record» }

-- a place that record k led to; and one that none did, whose record is 0
abbrev pub moved_by : ℕ → Place → MovedFigures
moved_by k p = record { refusal = 0; state = p.state; goal = p.goal; «record» = k }

abbrev pub moved_to : Place → MovedFigures
moved_to p = moved_by 0 p

-- what starting answers
abbrev pub started : List ℕ → MovedFigures
started b = cond (not (eqb (refusal b) 0)) (refused_move (fault b)) (moved_to (start (said b)))

abbrev pub is_place : Job → ℕ → ℕ → Bool
is_place j s q = ltb s j.states && ltb q j.goals

-- what following answers, at state s and goal state q, of action a and outcome t: the place entered, with the record that has them
abbrev pub followed : List ℕ → ℕ → ℕ → ℕ → ℕ → MovedFigures
followed b s q a t =
    cond (not (eqb (refusal b) 0)) (refused_move (fault b))
    (cond (not (is_place (said b) s q)) (refused_move (only 9))
    (cond (not (recorded (said b) s a t)) (refused_move (only 11))
    (moved_by (record_number (said b) s a t) (entered (said b) q t))))

-- ---- advice

abbrev pub refused_advice : Fault → AdvisedFigures
refused_advice f = record { refusal = f.number; value = 0; action = 0; number = 0; «record» = f.«record» }

abbrev pub advice_of : Entry → AdvisedFigures
advice_of e = record { refusal = 0; value = e.value; action = e.action; number = e.number; «record» = 0 }

-- what advice answers, of the plan p, at state s and goal state q
abbrev pub advised : List ℕ → List ℕ → ℕ → ℕ → AdvisedFigures
advised b p s q =
    let e = entry p (entry_number (said b).goals (place s q)) in
    cond (not (eqb (refusal b) 0)) (refused_advice (fault b))
    (cond (ltb (length p) (room (said b))) (refused_advice (only 7))
    (cond (not (is_place (said b) s q)) (refused_advice (only 9))
    (cond (not (shaped (said b).actions (places (said b)) e)) (refused_advice (only 10))
    (advice_of e))))
