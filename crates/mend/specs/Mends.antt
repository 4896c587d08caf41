-- What is printed of a job with bad outcomes: the salvaged job, and what is said of it.
use Rattle.std.specs.Prelude.{ℕ, ◌+◌, ◌*◌, ◌/◌, ◌-◌, ◌≤◌, List, [], ◌++◌, ◌≢◌, ◌≡◌, length, get_or, take}
use Rattle.game.specs.Below.{upto, each}
use Rattle.rules.specs.Form.{word}
use Rattle.rules.specs.Bytes.{said}
use Rattle.text.specs.declared.Line.{Line}
use Rattle.text.specs.Puts.{Puts}
use Rattle.text.specs.Lines.{decimal, bytes, refusal_line}
use Rattle.salvage.specs.Salvage.{salvaged, removed, salvage_fault}

-- the line of a removed pair
abbrev pub pair_line : (state action : ℕ) → List ℕ
pair_line s a = bytes "removed: state " ++ (decimal s ++ (bytes ", action " ++ (decimal a ++ bytes "\n")))

-- the line of pair k of a list
abbrev pub listed_line : List ℕ → ℕ → List ℕ
listed_line p k = pair_line (word p (3 * k)) (get_or p (3 * k + 2) 0)

-- the lines of the first n pairs, and of how many records went
abbrev pub mended_text : List ℕ → ℕ → ℕ → List ℕ
mended_text p n gone = each (upto n) (listed_line p) ++ (bytes "records removed: " ++ (decimal gone ++ bytes "\n"))

-- `Mends b new text`: of the job b the bytes new are written, and the text is said: on a refusal nothing, and its line.
pub data Mends (b : List ℕ) : List ℕ → List ℕ → Type 0 where
  refuses : (salvage_fault b).number ≢ 0 → Mends b [] (refusal_line (salvage_fault b))
  mends : (salvage_fault b).number ≡ 0
      → Mends b (salvaged b) (mended_text (removed b) (length (removed b) / 3) ((said b).records - (said (salvaged b)).records))

-- such bytes stand at the beginning of a buffer, and such a text is put in the line
pub record Mended (b new : List ℕ) (line after : Line) (m : ℕ) : Type 0 where
  pub text : List ℕ
  pub fits : m ≤ length new
  pub right : Mends b (take m new) text
  pub put : Puts line text after
