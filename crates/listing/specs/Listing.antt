-- What the listing prints, as one text: document 01, "One plate, whole", and document 02's record after a refusal's number.
use Rattle.std.specs.Prelude.{ℕ, List, ◌++◌, ◌≡◌}
use Rattle.game.specs.Below.{upto, each}
use Rattle.rules.specs.Job.{Job, place, start}
use Rattle.rules.specs.Fault.{Fault, only}
use Rattle.rules.specs.Bytes.{said}
use Rattle.rules.specs.Plan.{planned_entry}
use Rattle.rules.specs.Calls.{Planning}
use Rattle.text.specs.Lines.{entry_line, start_line, refusal_line}

-- the first line: the starting place, and the value that the plan gives it
abbrev pub first_line : Job → List ℕ → List ℕ
first_line j p = start_line (start j).state (start j).goal (planned_entry j p (start j)).value

-- the line of the place s, q: what the plan says of it
abbrev pub place_line : Job → List ℕ → ℕ → ℕ → List ℕ
place_line j p s q =
    let e = planned_entry j p (place s q) in
    entry_line s q e.value e.action e.number

-- the lines of every state below S with every goal state below Q, state by state
abbrev pub lines : (ℕ → ℕ → List ℕ) → ℕ → ℕ → List ℕ
lines f S Q = each (upto S) (λ s. each (upto Q) (f s))

abbrev pub listing : Job → List ℕ → List ℕ
listing j p = first_line j p ++ lines (place_line j p) j.states j.goals

-- `Prints b before text`: the text is printed of the job b, planned into a buffer that holds `before`: on a refusal its line only.
pub data Prints (b before : List ℕ) : List ℕ → Type 0 where
  refuses : {f : Fault} {after : List ℕ} → Planning b before f after → (f.number ≡ 0 → ⊥) → Prints b before (refusal_line f)
  lists : {after : List ℕ} → Planning b before (only 0) after → Prints b before (listing (said b) after)
