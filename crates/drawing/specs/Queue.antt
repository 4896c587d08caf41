-- A queue of places.
use Rattle.std.specs.Prelude.{ℕ, ◌≤◌, List, ◌≡◌, length}

-- a queue of n places has r now, and is as long as it was
pub record Grown (n r : ℕ) (before after : List ℕ) : Type 0 where
  pub more : n ≤ r
  pub room : r ≤ length after
  pub as_long : length after ≡ length before
