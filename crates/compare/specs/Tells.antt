-- What is printed of a job and a plan from elsewhere: one line.
use Rattle.std.specs.Prelude.{ℕ, cond, List, [], ◌∷◌, ◌++◌, ◌≢◌, ltb}
use Rattle.game.specs.Game.{Right}
use Rattle.game.specs.declared.entry.Entry.{Entry}
use Rattle.rules.specs.Job.{place, arena}
use Rattle.rules.specs.Fault.{Fault, only}
use Rattle.rules.specs.Bytes.{said}
use Rattle.rules.specs.Plan.{planned_entry}
use Rattle.text.specs.declared.Line.{Line}
use Rattle.text.specs.Puts.{Puts}
use Rattle.text.specs.Lines.{decimal, bytes, value_word, action_word, line_of, refusal_line}
use Rattle.checking.specs.Checking.{Checking}

-- the word of a value, or the figure where it is none of the three
abbrev pub said_value : ℕ → List ℕ
said_value v = cond (ltb v 3) (value_word v) (decimal v)

-- what an entry says: value, action or "-", number
abbrev pub said_text : Entry → List ℕ
said_text e = said_value e.value ++ (bytes " " ++ (action_word e.action ++ (bytes " " ++ decimal e.number)))

-- the line of a wrong entry: its place, what it says, and what would be right
abbrev pub wrong_line : (state goal : ℕ) → Entry → Entry → List ℕ
wrong_line s q e r = line_of (bytes "wrong") (decimal s ∷ decimal q ∷ bytes "says" ∷ said_text e ∷ bytes "right" ∷ said_text r ∷ [])

-- `Tells b p text`: the text is printed of the plan p for the job b, by what the check answers.
pub data Tells (b p : List ℕ) : List ℕ → Type 0 where
  right : {s q : ℕ} → Checking b p (only 0) s q → Tells b p (line_of (bytes "right") [])
  wrong : {s q : ℕ} {r : Entry} → Checking b p (only 16) s q → Right (arena (said b)) (place s q) r
      → Tells b p (wrong_line s q (planned_entry (said b) p (place s q)) r)
  refuses : {f : Fault} {s q : ℕ} → Checking b p f s q → f.number ≢ 0 → f.number ≢ 16 → Tells b p (refusal_line f)

-- such a text is put in the line
pub record Told (b p : List ℕ) (line after : Line) : Type 0 where
  pub text : List ℕ
  pub tells : Tells b p text
  pub put : Puts line text after
