-- What putting bytes in a line leaves: every byte of the line, and the position after what was put.
use Rattle.std.specs.Prelude.{ℕ, ◌+◌, ◌-◌, min, List, ◌++◌, ◌≡◌, length, take, drop}

-- `PutText line at word after next`: the word, or as much of it as the line has room for, stands in the line from position at on; what
-- lies before and beyond it is as it was; the next position is the one after its last byte.
pub record PutText (line : List ℕ) (at : ℕ) (word after : List ℕ) (next : ℕ) : Type 0 where
  pub bytes : after ≡ take at line ++ (take (length line - at) word ++ drop (at + length word) line)
  pub position : next ≡ at + min (length word) (length line - at)
