-- What telling a fault does to a report: it is told where there is room for one more, and else only counted.
use Rattle.std.specs.Prelude.{ℕ, suc, ◌-◌, min, Bool, true, false, cond, List, [], ◌∷◌, ◌++◌, ◌≡◌, eqb, ltb, length, map, take}
use Rattle.std.specs.Prelude.{◌&&◌}
use Rattle.text.specs.declared.Line.{Line}
use Rattle.text.specs.Lines.{bytes, decimal}
use Rattle.text.specs.Puts.{Puts}
use Rattle.faults.specs.declared.fault.Report.{Report}

-- whether a report has no room for a fault more
abbrev pub is_full : Report → Bool
is_full r = ltb (length r.told.bytes.now - r.told.at) 512

-- one more, and up to 1,000,000
abbrev pub one_more : ℕ → ℕ
one_more n = min (suc n) 1000000

-- a fault is counted exactly where it has no room, and then nothing is told; the report still holds the same buffer
pub record Counts (before after : Report) : Type 0 where
  pub told : is_full before ≡ false → after.more ≡ before.more
  pub counted : is_full before ≡ true → after.more ≡ one_more before.more
  pub as_told : is_full before ≡ true → after.told ≡ before.told
  pub same_buffer : after.told.bytes.ghost_name ≡ before.told.bytes.ghost_name

-- the beginning of a fault's line, and the line of a fault of a whole line of the text
abbrev pub line_number : ℕ → List ℕ
line_number number = bytes "line " ++ (decimal number ++ bytes ": ")

abbrev pub fault_line : ℕ → List ℕ → List ℕ
fault_line number what = line_number number ++ (what ++ (10 ∷ []))

-- a byte of a word as it is shown: what is no plain letter is a question mark
abbrev pub shown : ℕ → ℕ
shown b = cond (ltb 32 b && ltb b 127) b 63

-- two points, where a word has more than 64 letters
abbrev pub points : List ℕ → List ℕ
points w = cond (ltb 64 (length w)) (bytes "..") []

-- a word between quotes; of a long one its first 64 letters, and the points
abbrev pub quoted : List ℕ → List ℕ
quoted w = bytes "'" ++ (map shown (take 64 w) ++ (points w ++ bytes "'"))

-- the line of a fault of no line, and that of a fault of a word
abbrev pub whole_line : List ℕ → List ℕ
whole_line lack = lack ++ (10 ∷ [])

abbrev pub word_line : ℕ → List ℕ → List ℕ → List ℕ → List ℕ
word_line number before word after = line_number number ++ (before ++ (quoted word ++ (after ++ (10 ∷ []))))

-- how the line begins of a word that names none of a kind
abbrev pub unknown_line : ℕ → List ℕ → List ℕ → List ℕ
unknown_line number kind word = line_number number ++ (bytes "no " ++ (kind ++ (bytes " is named " ++ quoted word)))

-- `Begins line front after`: a text that begins so is put in the line
pub record Begins (line : Line) (front : List ℕ) (after : Line) : Type 0 where
  pub rest : List ℕ
  pub put : Puts line (front ++ rest) after

-- `Misnamed line number word after`: the line of a word that names none of some kind is put
pub record Misnamed (line : Line) (number : ℕ) (word : List ℕ) (after : Line) : Type 0 where
  pub kind : List ℕ
  pub told : Begins line (unknown_line number kind word) after

-- the last line, where faults were counted
abbrev pub more_line : ℕ → List ℕ
more_line more = cond (eqb more 0) [] (bytes "and " ++ (decimal more ++ bytes " more\n"))
