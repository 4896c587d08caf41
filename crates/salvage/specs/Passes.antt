-- What the passes over the records rely on and promise.
use Rattle.std.specs.Prelude.{ℕ, suc, ◌+◌, ◌-◌, ◌≤◌, Bool, cond, not, ◌&&◌, List, [], ◌++◌, ◌≡◌, length}
use Rattle.sets.specs.Sets.{one, count}
use Rattle.rules.specs.Bytes.{offset, size, said}
use Rattle.job.specs.declared.layout.Layout.{Layout}
use Rattle.salvage.specs.Mended.{spoilt, stays, first_of_pair, lists}
use Rattle.rules.specs.Retold.{two, body, patched}
use Rattle.salvage.specs.Salvage.{moves_kept, salvaged}
use Rattle.salvage.specs.declared.pairs.Turn.{Turn}
use Rattle.salvage.specs.declared.tally.Tally.{Tally}

-- ---- records in order

-- what a pass brings to record k of the one before it
pub record Carried (b : List ℕ) (k : ℕ) (bad : Bool) : Type 0 where
  pub carries : (j : ℕ) → suc j ≡ k → bad ≡ spoilt (said b) j

-- what a pass finds of record k
pub record Turned (b : List ℕ) (k : ℕ) (t : Turn) : Type 0 where
  pub first_is : t.first ≡ first_of_pair (said b) k
  pub bad_is : t.bad ≡ spoilt (said b) k

-- ---- counting

-- the tally r is t with one more record, of which u was found
pub record Added (t : Tally) (u : Turn) (r : Tally) : Type 0 where
  pub kept_more : r.kept ≡ t.kept + one (not u.bad)
  pub listed_more : r.listed ≡ t.listed + one (u.bad && u.first)

-- how many of the first k records stay, and how many pairs they list
pub record Tallied (b : List ℕ) (k : ℕ) (t : Tally) : Type 0 where
  pub kept_are : t.kept ≡ count (stays (said b)) k
  pub listed_are : t.listed ≡ count (lists (said b)) k

-- ---- writing

-- number k, if it passes, puts its bytes at a place of d: the output is then e, and the next place is r
pub record Put (f : ℕ → Bool) (g : ℕ → List ℕ) (k : ℕ) (d : List ℕ) (at : ℕ) (e : List ℕ) (r : ℕ) : Type 0 where
  pub puts : e ≡ patched d at (cond (f k) (g k) [])
  pub goes_on : r ≡ at + length (cond (f k) (g k) [])

-- the salvaged job up to Moves: the contents anew, Counts and Labels
abbrev pub head : List ℕ → List ℕ
head b =
    let c = body b 0 in
    let l = body b 1 in
    let m = moves_kept b in
    two 16 (two (length c)
    (two (16 + length c) (two (length l)
    (two (16 + length c + length l) (two (length m)
    (two (16 + length c + length l + length m) (two (length (body b 3))
    (c ++ l))))))))

-- the layout and what Moves keeps, in bytes: the salvaged job is as long as its parts, and each part of b lies in b
pub record Sized (b : List ℕ) (l : Layout) (kept : ℕ) : Type 0 where
  pub counts_begin : offset b 0 ≡ 16
  pub labels_begin : l.labels_at ≡ offset b 1
  pub moves_begin : l.moves_at ≡ offset b 2
  pub goal_begins : l.goal_at ≡ offset b 3
  pub counts_end : l.labels_at ≡ 16 + size b 0
  pub labels_end : l.moves_at ≡ l.labels_at + size b 1
  pub goal_end : length b ≡ l.goal_at + size b 3
  pub moves_before : l.moves_at ≤ l.goal_at
  pub kept_is : kept ≡ length (moves_kept b)
  pub kept_few : l.moves_at + kept ≤ l.goal_at
  pub few : length b ≤ 43576
  pub long : length (salvaged b) ≡ l.moves_at + kept + (length b - l.goal_at)
