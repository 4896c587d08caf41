-- A set of numbers in bytes: bit i of byte k tells of the number 8·k + i.
use Rattle.std.specs.Prelude.{ℕ, ◌/◌, ◌%◌, Bool, ◌||◌, List, ◌≡◌, length, get_or}
use Rattle.sets.specs.Sets.{bit}

abbrev pub has : List ℕ → ℕ → Bool
has set j = bit (get_or set (j / 8) 0) (j % 8)

-- the set after is as long as before, and has the numbers that it had and those that pass
pub record Gains (before after : List ℕ) (passes : ℕ → Bool) : Type 0 where
  pub as_long : length after ≡ length before
  pub members : (j : ℕ) → has after j ≡ (passes j || has before j)
