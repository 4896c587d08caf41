-- The Goal body byte by byte.
use Rattle.std.specs.Prelude.{ℕ, ◌+◌, ◌-◌, ◌*◌, ◌/◌, ◌%◌, ◌^◌, ◌≤◌, ◌<◌, cond, List, ◌≡◌, ltb, length, get_or}
use Rattle.sets.specs.Sets.{one}
use Rattle.slips.specs.Clauses.{Clause, states, steps, finals}

-- the byte y of the body: the next goal state for goal state y / 2^P under label y % 2^P, and after those the marks
abbrev pub body_byte : List Clause → ℕ → ℕ → ℕ
body_byte cs p y = cond (ltb y (states cs * 2 ^ p)) (steps cs (y / 2 ^ p) (y % 2 ^ p)) (one (finals cs (y - states cs * 2 ^ p)))

-- the clauses that are left lie inside the slips, and q is one of their goal states
pub record StateLeft (s : List ℕ) (at left q : ℕ) : Type 0 where
  pub within : at + 3 * left ≤ length s
  pub few : left ≤ 3
  pub state : q < 3 ^ left

-- y is a byte of the body of the n clauses of the slips
pub record ByteLeft (s : List ℕ) (n p y : ℕ) : Type 0 where
  pub within : 3 * n ≤ length s
  pub few : n ≤ 3
  pub few_propositions : p ≤ 6
  pub inside : y < 3 ^ n * 2 ^ p + 3 ^ n

-- the first n bytes of the output are those of f, and the rest is as it was
pub record Filled (n : ℕ) (f : ℕ → ℕ) (before after : List ℕ) : Type 0 where
  pub as_long : length after ≡ length before
  pub bytes : (y : ℕ) → get_or after y 0 ≡ cond (ltb y n) (f y) (get_or before y 0)

-- the body of the n clauses of the slips, size bytes, has room in an output of so many bytes
pub record BodyLeft (s : List ℕ) (n p size room : ℕ) : Type 0 where
  pub within : 3 * n ≤ length s
  pub few : n ≤ 3
  pub few_propositions : p ≤ 6
  pub long : size ≡ 3 ^ n * 2 ^ p + 3 ^ n
  pub fits : size ≤ room
