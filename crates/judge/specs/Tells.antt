-- What is printed of two lines of numbers, the formula's and the trace's: one line.
use Rattle.std.specs.Prelude.{ℕ, ◌≤◌, ◌<◌, true, false, cond, List, [], ◌∷◌, ◌≢◌, ◌≡◌, eqb, length}
use Rattle.text.specs.declared.Line.{Line}
use Rattle.text.specs.Puts.{Puts}
use Rattle.text.specs.Lines.{decimal, bytes, line_of}
use Rattle.judging.specs.Judging.{Judging}
use Rattle.judge.specs.Lines.{is_list, numbers, first_line, after_line}

-- the line of what judging answers: the refusal's number, 0 for none, and 1 for yes
abbrev pub figures_line : ℕ → ℕ → List ℕ
figures_line r a = cond (eqb r 0) (cond (eqb a 1) (bytes "holds\n") (bytes "does not hold\n")) (line_of (bytes "refused") (decimal r ∷ []))

-- of two lines: that one is no list of numbers, or what judging answers of the numbers, of whatever size
pub data TellsLines (v w : List ℕ) : List ℕ → Type 0 where
  first_is_none : is_list v ≡ false → TellsLines v w (bytes "the first line is no list of numbers\n")
  second_is_none : is_list v ≡ true → is_list w ≡ false → TellsLines v w (bytes "the second line is no list of numbers\n")
  judged : {r a : ℕ} → is_list v ≡ true → is_list w ≡ true → Judging (numbers v) (numbers w) r a → TellsLines v w (figures_line r a)

-- how many bytes are taken in
abbrev pub input_room : ℕ
input_room = 262144

-- `Tells b text`: the text is printed of the input b.
pub data Tells (b : List ℕ) : List ℕ → Type 0 where
  too_long : input_room ≤ length b → Tells b (bytes "the input is too long\n")
  more_lines : length b < input_room → after_line (after_line b) ≢ [] → Tells b (bytes "there are more than two lines\n")
  lines : {text : List ℕ} → length b < input_room → after_line (after_line b) ≡ [] → TellsLines (first_line b) (first_line (after_line b)) text
      → Tells b text

-- such a text is put in the line
pub record ToldLines (v w : List ℕ) (line after : Line) : Type 0 where
  pub text : List ℕ
  pub tells : TellsLines v w text
  pub put : Puts line text after

pub record Told (b : List ℕ) (line after : Line) : Type 0 where
  pub text : List ℕ
  pub tells : Tells b text
  pub put : Puts line text after
