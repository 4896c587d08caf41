-- What is printed of a bundle: document 02, request 13.
use Rattle.std.specs.Prelude.{ℕ, Option, Some, None, List, [], ◌∷◌, ◌++◌, get_or}
use Rattle.game.specs.Below.{upto, each}
use Rattle.text.specs.Lines.{decimal, bytes, line_of}
use Rattle.totals.specs.Bundle.{Bundle, jobs}
use Rattle.totals.specs.Reported.{Reported}
use Rattle.totals.specs.declared.tally.Largest.{Largest}
use Rattle.totals.specs.declared.tally.Totals.{Totals}

-- a line with one figure
abbrev pub figure_line : ℕ → List ℕ
figure_line n = line_of (decimal n) []

-- the lines of the first n counts
abbrev pub count_lines : List ℕ → ℕ → List ℕ
count_lines counts n = each (upto n) (λ k. figure_line (get_or counts k 0))

-- the largest winning starting number and the first job that has it, or "-" alone where none wins
abbrev pub largest_line : Option Largest → List ℕ
largest_line None = bytes "-\n"
largest_line (Some l) = line_of (decimal l.number) (decimal l.job ∷ [])

-- the 14 lines: the counts that start winning, pending, losing, and those refused 1 to 6, 12 and 13; the sums; the largest
abbrev pub report : Totals → List ℕ
report t =
    count_lines t.counts 11 ++ (figure_line t.winning_sum ++ (figure_line t.pending_sum ++ largest_line t.largest))

-- the text of 23
abbrev pub refused : List ℕ
refused = bytes "refused 23\n"

-- `Tells b text`: the text is printed of the bytes b
pub data Tells (b : List ℕ) : List ℕ → Type 0 where
  refuses : (Bundle b → ⊥) → Tells b refused
  reports : {t : Totals} → Bundle b → Reported (jobs b) t → Tells b (report t)
