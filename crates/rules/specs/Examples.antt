-- The worked jobs of document 01, in bytes: One plate, Bare with either mark, and Early; and the fifteen marked cases. And jobs of the tall
-- form.
use Rattle.std.specs.Prelude.{ℕ, ◌≤◌, List, [], ◌∷◌, ◌≡◌, length, replicate}
use Rattle.game.specs.Game.{says, Inside}
use Rattle.rules.specs.Job.{place, entry_number, arena}
use Rattle.rules.specs.Fault.{Fault, only}
use Rattle.rules.specs.Bytes.{said}
use Rattle.rules.specs.Keeps.{Keeps}
use Rattle.rules.specs.Retold.{job_of}
use Rattle.rules.specs.Plan.{entry, room}
use Rattle.rules.specs.Calls.{Planning}
use Rattle.rules.specs.declared.place.Place.{Place}
use Rattle.game.specs.declared.entry.Entry.{Entry}

-- One plate, with the byte d for the label of the drawer
abbrev pub plate_with : ℕ → List ℕ
plate_with d =
    0x10 ∷ 0 ∷ 0x06 ∷ 0 ∷ 0x16 ∷ 0 ∷ 0x04 ∷ 0 ∷ 0x1a ∷ 0 ∷ 0x12 ∷ 0 ∷ 0x2c ∷ 0 ∷ 0x0f ∷ 0
    ∷ 4 ∷ 3 ∷ 2 ∷ 3 ∷ 0 ∷ 0
    ∷ d ∷ 0 ∷ 1 ∷ 0
    ∷ 0 ∷ 0 ∷ 1 ∷ 0 ∷ 0 ∷ 3 ∷ 1 ∷ 1 ∷ 1 ∷ 1 ∷ 1 ∷ 2 ∷ 1 ∷ 2 ∷ 0 ∷ 2 ∷ 2 ∷ 0
    ∷ 0 ∷ 1 ∷ 0 ∷ 1 ∷ 1 ∷ 1 ∷ 2 ∷ 2 ∷ 2 ∷ 2 ∷ 2 ∷ 2 ∷ 0 ∷ 0 ∷ 1 ∷ []

abbrev pub plate : List ℕ
plate = plate_with 2

-- One plate with the drawer busy: 128 is added to its label
abbrev pub busy_plate : List ℕ
busy_plate = plate_with 130

-- one state with the byte d for its label, one action, no proposition, no moves, one goal state with the mark m
abbrev pub bare_with : ℕ → ℕ → List ℕ
bare_with d m =
    0x10 ∷ 0 ∷ 6 ∷ 0 ∷ 0x16 ∷ 0 ∷ 1 ∷ 0 ∷ 0x17 ∷ 0 ∷ 0 ∷ 0 ∷ 0x17 ∷ 0 ∷ 2 ∷ 0
    ∷ 1 ∷ 1 ∷ 0 ∷ 1 ∷ 0 ∷ 0
    ∷ d
    ∷ 0 ∷ m ∷ []

abbrev pub bare : ℕ → List ℕ
bare = bare_with 0

-- the same with two goal states, the first one final, both leading to the second
abbrev pub early : List ℕ
early =
    0x10 ∷ 0 ∷ 6 ∷ 0 ∷ 0x16 ∷ 0 ∷ 1 ∷ 0 ∷ 0x17 ∷ 0 ∷ 0 ∷ 0 ∷ 0x17 ∷ 0 ∷ 4 ∷ 0
    ∷ 1 ∷ 1 ∷ 0 ∷ 2 ∷ 0 ∷ 0
    ∷ 0
    ∷ 1 ∷ 1 ∷ 1 ∷ 0 ∷ []

-- One plate in the tall form
abbrev pub tall_plate : List ℕ
tall_plate =
    0x10 ∷ 0 ∷ 0x08 ∷ 0 ∷ 0x18 ∷ 0 ∷ 0x04 ∷ 0 ∷ 0x1c ∷ 0 ∷ 0x1e ∷ 0 ∷ 0x3a ∷ 0 ∷ 0x0f ∷ 0
    ∷ 4 ∷ 0 ∷ 3 ∷ 2 ∷ 3 ∷ 0 ∷ 0 ∷ 0
    ∷ 2 ∷ 0 ∷ 1 ∷ 0
    ∷ 0 ∷ 0 ∷ 0 ∷ 1 ∷ 0 ∷ 0 ∷ 0 ∷ 0 ∷ 3 ∷ 0 ∷ 1 ∷ 0 ∷ 1 ∷ 1 ∷ 0 ∷ 1 ∷ 0 ∷ 1 ∷ 2 ∷ 0 ∷ 1 ∷ 0 ∷ 2 ∷ 0 ∷ 0 ∷ 2 ∷ 0 ∷ 2 ∷ 0 ∷ 0
    ∷ 0 ∷ 1 ∷ 0 ∷ 1 ∷ 1 ∷ 1 ∷ 2 ∷ 2 ∷ 2 ∷ 2 ∷ 2 ∷ 2 ∷ 0 ∷ 0 ∷ 1 ∷ []

-- s states, with these bytes of Counts and of Moves; no label has a proposition, and the one goal state is final
abbrev pub plain_with : ℕ → List ℕ → List ℕ → List ℕ
plain_with s c m = job_of c (replicate s 0) m (0 ∷ 1 ∷ [])

-- 300 states in the tall form, and two moves by the bytes of their outcomes, from the first state to states above 127
abbrev pub tall_300 : ℕ → ℕ → ℕ → ℕ → List ℕ
tall_300 a b c d =
    plain_with 300 (44 ∷ 1 ∷ 2 ∷ 0 ∷ 1 ∷ 43 ∷ 1 ∷ 0 ∷ []) (43 ∷ 1 ∷ 0 ∷ a ∷ b ∷ 43 ∷ 1 ∷ 0 ∷ c ∷ d ∷ [])

-- The marked cases: of this job, the plan says at this place this.
pub record Case : Type 0 where
  pub job : List ℕ
  pub at : Place
  pub entry : Entry

abbrev pub case : List ℕ → Place → Entry → Case
case b p e = record { job = b; at = p; entry = e }

-- the twelve entries of One plate, both Bare jobs, and Early where it starts
abbrev pub marked : List Case
marked =
    case plate (place 0 0) (says 1 0 2)
    ∷ case plate (place 0 1) (says 1 0 1)
    ∷ case plate (place 0 2) (says 2 255 0)
    ∷ case plate (place 1 0) (says 1 1 1)
    ∷ case plate (place 1 1) (says 2 2 1)
    ∷ case plate (place 1 2) (says 2 255 0)
    ∷ case plate (place 2 0) (says 1 2 3)
    ∷ case plate (place 2 1) (says 2 2 1)
    ∷ case plate (place 2 2) (says 2 255 0)
    ∷ case plate (place 3 0) (says 0 255 0)
    ∷ case plate (place 3 1) (says 0 255 0)
    ∷ case plate (place 3 2) (says 2 255 0)
    ∷ case (bare 0) (place 0 0) (says 0 255 0)
    ∷ case (bare 1) (place 0 0) (says 2 255 0)
    ∷ case early (place 0 1) (says 0 255 0)
    ∷ []

-- Where the drawer of One plate is busy: the goal is not met there, so the play goes on, and what led there takes one move more. And Bare,
-- final but busy, with nothing open.
abbrev pub busy_marked : List Case
busy_marked =
    case busy_plate (place 0 0) (says 1 0 2)
    ∷ case busy_plate (place 0 1) (says 1 0 1)
    ∷ case busy_plate (place 0 2) (says 2 0 1)
    ∷ case busy_plate (place 1 0) (says 1 1 1)
    ∷ case busy_plate (place 1 1) (says 2 2 2)
    ∷ case busy_plate (place 1 2) (says 2 255 0)
    ∷ case busy_plate (place 2 0) (says 1 2 3)
    ∷ case busy_plate (place 2 1) (says 2 2 2)
    ∷ case busy_plate (place 2 2) (says 2 255 0)
    ∷ case busy_plate (place 3 0) (says 0 255 0)
    ∷ case busy_plate (place 3 1) (says 0 255 0)
    ∷ case busy_plate (place 3 2) (says 2 255 0)
    ∷ case (bare_with 128 1) (place 0 0) (says 0 255 0)
    ∷ []

-- What a marked case says, from bytes to bytes: the job keeps the rules, and the place is one of its places; into every buffer with room it
-- is planned, with no other answer than 0; and whatever buffer planning leaves has the entry there.
pub record CaseHolds (c : Case) : Type 0 where
  pub keeps : Keeps c.job
  pub inside : Inside (arena (said c.job)) c.at
  pub planned : (before : List ℕ) → room (said c.job) ≤ length before → (after : List ℕ)
      × Planning c.job before (only 0) after
  pub answered : (before after : List ℕ) (f : Fault) → room (said c.job) ≤ length before → Planning c.job before f after → f ≡ only 0
  pub there : (before after : List ℕ) → Planning c.job before (only 0) after
      → entry after (entry_number (said c.job).goals c.at) ≡ c.entry
