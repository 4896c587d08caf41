-- What the totals of a list of jobs are, each from the list itself.
use Rattle.std.specs.Prelude.{ℕ, ◌+◌, ◌≤◌, ◌<◌, ◌≡◌, length, Option, Some, None}
use mathlib.Core.List.{List, [], ◌∷◌, Memᴰ}
use Rattle.totals.specs.Classes.{In, WinsBy, HopesBy}
use Rattle.totals.specs.Lists.{HowMany, Sum, First}
use Rattle.totals.specs.Totals.{count}
use Rattle.totals.specs.declared.tally.Largest.{Largest}
use Rattle.totals.specs.declared.tally.Totals.{Totals}

-- the sum of a list of numbers
abbrev pub sum : List ℕ → ℕ
sum [] = 0
sum (x ∷ xs) = x + sum xs

-- the largest winning starting number of the jobs and the first job that has it, or that none wins
pub data LargestOf (bs : List (List ℕ)) : Option Largest → Type 0 where
  nothing : ((n : ℕ) (b : List ℕ) → Memᴰ b bs → WinsBy n b → ⊥) → LargestOf bs None
  number : {n i : ℕ} → First (WinsBy n) bs i → ((m : ℕ) (b : List ℕ) → Memᴰ b bs → WinsBy m b → m ≤ n)
      → LargestOf bs (Some (record { number = n; job = i }))

-- `Reported bs t`: t are the totals of the jobs bs
pub record Reported (bs : List (List ℕ)) (t : Totals) : Type 0 where
  pub jobs : t.jobs ≡ length bs
  pub lines : length t.counts ≡ 11
  -- line k counts the jobs in its class, and the counts add up to the jobs
  pub counts : (k : ℕ) → k < 11 → HowMany (In k) bs (count t k)
  pub all : sum t.counts ≡ length bs
  -- the sums are exact
  pub winning_sum : Sum WinsBy bs t.winning_sum
  pub pending_sum : Sum HopesBy bs t.pending_sum
  pub largest : LargestOf bs t.largest

-- t are the totals of at most n jobs
abbrev pub Gathered : Totals → ℕ → Type 0
Gathered t n = (bs : List (List ℕ)) × Reported bs t × (length bs ≤ n)
