-- The table's body byte by byte, and what its writing leaves.
use Rattle.std.specs.Prelude.{ℕ, ◌-◌, ◌*◌, ◌/◌, ◌%◌, ◌^◌, ◌≤◌, Bool, cond, ◌||◌, List, ◌≡◌, ltb, length, take, drop}
use Rattle.sets.specs.Sets.{one}
use Rattle.lines.specs.Words.{same_word, lines}
use Rattle.lines.specs.Tables.{names_of, count_of}
use Rattle.lines.specs.declared.names.Names.{Names}
use Rattle.rows.specs.Rows.{comma, not_word, suits, next_said, final_said, TableBody}

-- a word of a row other than the arrow lets the row fit still: a comma, "not", or a fact that suits
abbrev pub lets : List (List ℕ) → ℕ → Bool → List ℕ → Bool
lets facts l ban w = same_word w comma || (same_word w not_word || suits facts l ban w)

-- the byte y of the body: the next goal state for goal state y / 2^P under label y % 2^P, and after those the marks
abbrev pub table_byte : List (List ℕ) → List (List ℕ) → List (List (List ℕ)) → ℕ → ℕ → ℕ
table_byte facts goals ls p y =
    cond (ltb y (length goals * 2 ^ p)) (next_said facts goals ls (y / 2 ^ p) (y % 2 ^ p)) (one (final_said goals ls (y - length goals * 2 ^ p)))

-- The first r bytes of the output are the body of the table that the text says, and the bytes beyond it are as they were.
pub record TableWritten (t : List ℕ) (facts goals : Names) (before after : List ℕ) (r : ℕ) : Type 0 where
  pub as_long : length after ≡ length before
  pub inside : r ≤ length before
  pub body : TableBody (names_of facts) (names_of goals) (lines t) (count_of facts) (take r after)
  pub rest : drop r after ≡ drop r before
