-- The plan in bytes: four a place, and what each says. Document 01, "The plan in bytes".
use Rattle.std.specs.Prelude.{ℕ, zero, suc, ◌+◌, ◌*◌, ◌/◌, ◌%◌, ◌<◌, Bool, cond, ◌&&◌, ◌||◌, List, ◌≡◌, leb, ltb, eqb, length, get_or}
use Rattle.game.specs.Game.{Right}
use Rattle.rules.specs.Job.{Job, place, places, entry_number, arena}
use Rattle.rules.specs.Form.{word}
use Rattle.rules.specs.declared.place.Place.{Place}
use Rattle.game.specs.declared.entry.Entry.{Entry}

-- the entry i of a plan
abbrev pub entry : List ℕ → ℕ → Entry
entry p i = record { value = get_or p (4 * i) 0; action = get_or p (4 * i + 1) 0; number = word p (4 * i + 2) }

-- what the plan p of a job says of a place
abbrev pub planned_entry : Job → List ℕ → Place → Entry
planned_entry j p x = entry p (entry_number j.goals x)

-- the byte d of an entry
abbrev pub entry_byte : Entry → ℕ → ℕ
entry_byte e zero = e.value
entry_byte e (suc zero) = e.action
entry_byte e (suc (suc zero)) = e.number % 256
entry_byte e (suc (suc (suc d))) = e.number / 256

-- the buffer after has e as its entry i, and every other byte of the buffer before
pub record Wrote (i : ℕ) (e : Entry) (before after : List ℕ) : Type 0 where
  pub as_long : length after ≡ length before
  pub bytes : (y : ℕ) → get_or after y 0 ≡ cond (eqb (y / 4) i) (entry_byte e (y % 4)) (get_or before y 0)

abbrev pub room : Job → ℕ
room j = 4 * places j

-- p is the plan of j: four bytes for each place, and each entry says what is right
pub record Plan (j : Job) (p : List ℕ) : Type 0 where
  pub long : length p ≡ room j
  pub bytes : (y : ℕ) → y < length p → get_or p y 0 < 256
  pub right : (s q : ℕ) → s < j.states → q < j.goals → Right (arena j) (place s q) (planned_entry j p (place s q))

-- no action and no number; an action and a number in their ranges, where n is the count of places
abbrev pub blank : Entry → Bool
blank e = eqb e.action 255 && eqb e.number 0

abbrev pub due : ℕ → ℕ → Entry → Bool
due actions n e = ltb e.action actions && (leb 1 e.number && ltb e.number n)

-- the four shapes: losing, accepted, other winning, pending
abbrev pub shaped : ℕ → ℕ → Entry → Bool
shaped actions n e =
    eqb e.value 0 && blank e ||
    (eqb e.value 2 && blank e || (eqb e.value 2 && due actions n e || eqb e.value 1 && due actions n e))
