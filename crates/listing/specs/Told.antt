-- The text of the calls' answers, whatever the plan is, and what is left of a line: what the listing's functions promise one another.
use Rattle.std.specs.Prelude.{ℕ, cond, List, eqb}
use Rattle.rules.specs.Fault.{Fault}
use Rattle.rules.specs.Answers.{MovedFigures, AdvisedFigures, moved_fault, advised_fault}
use Rattle.rules.specs.Calls.{started, advised}
use Rattle.text.specs.declared.Line.{Line}
use Rattle.text.specs.Puts.{Puts}
use Rattle.text.specs.Lines.{entry_line, start_line, refusal_line}
use Rattle.listing.specs.Listing.{Prints}

-- the text, or the line of the refusal f where its number is not 0
abbrev pub or_refused : Fault → List ℕ → List ℕ
or_refused f text = cond (eqb f.number 0) text (refusal_line f)

-- the line of what advice answers of the place s, q
unfoldable pub advice_line : ℕ → ℕ → AdvisedFigures → List ℕ
advice_line s q f = or_refused (advised_fault f) (entry_line s q f.value f.action f.number)

-- the first line by what advice answers of the starting place
unfoldable pub value_line : ℕ → ℕ → AdvisedFigures → List ℕ
value_line s q f = or_refused (advised_fault f) (start_line s q f.value)

-- the first line by what starting answers
unfoldable pub moved_line : List ℕ → List ℕ → MovedFigures → List ℕ
unfolding value_line
moved_line b p m = or_refused (moved_fault m) (value_line m.state m.goal (advised b p m.state m.goal))

-- the same of the job b and the plan p
abbrev pub advised_line : List ℕ → List ℕ → ℕ → ℕ → List ℕ
advised_line b p s q = advice_line s q (advised b p s q)

abbrev pub valued_line : List ℕ → List ℕ → ℕ → ℕ → List ℕ
valued_line b p s q = value_line s q (advised b p s q)

abbrev pub started_line : List ℕ → List ℕ → List ℕ
started_line b p = moved_line b p (started b)

-- ---- what is left of a line

-- the text that is to be printed is put in the line
pub record Printed (b before : List ℕ) (line after : Line) : Type 0 where
  pub text : List ℕ
  pub right : Prints b before text
  pub put : Puts line text after
