-- The lowest action of a set.
use Rattle.std.specs.Prelude.{ℕ, ◌<◌, true, false, ◌≡◌, Option, Some, None}
use Rattle.sets.specs.Sets.{bit}

-- a is the lowest of the w lowest bits of n that is set
pub record IsLowest (n w a : ℕ) : Type 0 where
  pub within : a < w
  pub is_set : bit n a ≡ true
  pub clear_below : (k : ℕ) → k < a → bit n k ≡ false

-- an answer names the lowest action, or says that there is none
abbrev pub LowestOf : ℕ → Option ℕ → Type 0
LowestOf n (Some a) = IsLowest n 16 a
LowestOf n None = (k : ℕ) → bit n k ≡ false
