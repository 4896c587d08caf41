-- The class of an entry of a bundle, from its bytes: document 02, request 13, over document 01's refusals, values and numbers.
use Rattle.std.specs.Prelude.{ℕ, zero, suc, ◌+◌, ◌≤◌, ◌<◌, cond, List, ◌≢◌, ◌≡◌, leb, eqb, length, take}
use Rattle.game.specs.Game.{Winning, Pending, Losing, WinsIn, HopesIn}
use Rattle.game.specs.declared.entry.Entry.{Entry}
use Rattle.rules.specs.Job.{start, arena}
use Rattle.rules.specs.Answers.{refusal_fault}
use Rattle.rules.specs.Bytes.{refusal, said}
use Rattle.rules.specs.declared.answer.Refusal.{Refusal}
use Rattle.totals.specs.declared.class.Class.{Class}

-- how much of an entry is taken in
abbrev pub entry_room : ℕ
entry_room = 49152

-- ---- what is so of an entry's bytes

-- it is no longer than that, and no number refuses it
pub record Taken (b : List ℕ) : Type 0 where
  pub short : length b ≤ entry_room
  pub sound : refusal b ≡ 0

pub record StartsWinning (b : List ℕ) : Type 0 where
  pub taken : Taken b
  pub wins : Winning (arena (said b)) (start (said b))

pub record StartsPending (b : List ℕ) : Type 0 where
  pub taken : Taken b
  pub hopes : Pending (arena (said b)) (start (said b))

pub record StartsLosing (b : List ℕ) : Type 0 where
  pub taken : Taken b
  pub loses : Losing (arena (said b)) (start (said b))

-- refused by n: a longer entry by 2, whatever is in it; any other by the first number that applies
pub data RefusedBy (n : ℕ) (b : List ℕ) : Type 0 where
  longer : entry_room < length b → n ≡ 2 → RefusedBy n b
  by_number : length b ≤ entry_room → refusal b ≡ n → RefusedBy n b

-- it starts winning, and n is the starting place's number; it starts pending, and n is
pub record WinsBy (n : ℕ) (b : List ℕ) : Type 0 where
  pub starts : StartsWinning b
  pub number : WinsIn (arena (said b)) (start (said b)) n

pub record HopesBy (n : ℕ) (b : List ℕ) : Type 0 where
  pub starts : StartsPending b
  pub number : HopesIn (arena (said b)) (start (said b)) n

-- the numbers that refuse a job, in the order of the report's lines
abbrev pub refused_at : ℕ → ℕ
refused_at zero = 1
refused_at (suc zero) = 2
refused_at (suc (suc zero)) = 3
refused_at (suc (suc (suc zero))) = 4
refused_at (suc (suc (suc (suc zero)))) = 5
refused_at (suc (suc (suc (suc (suc zero))))) = 6
refused_at (suc (suc (suc (suc (suc (suc zero)))))) = 12
refused_at (suc (suc (suc (suc (suc (suc (suc k))))))) = 13

-- The eleven classes, in the order of the report's lines: the three values, and those refused by each number.
abbrev pub In : ℕ → List ℕ → Type 0
In zero = StartsWinning
In (suc zero) = StartsPending
In (suc (suc zero)) = StartsLosing
In (suc (suc (suc k))) = RefusedBy (refused_at k)

-- ---- the class as a value

-- `Falls b c`: the entry b falls in the class c
pub data Falls (b : List ℕ) : Class → Type 0 where
  winning : {n : ℕ} → WinsBy n b → Falls b (Class.Winning n)
  pending : {n : ℕ} → HopesBy n b → Falls b (Class.Pending n)
  losing : StartsLosing b → Falls b Class.Losing
  refused : {n : ℕ} → RefusedBy n b → n ≢ 0 → Falls b (Class.Refused n)

-- the entry b falls in the class of those that this refuses
abbrev pub RefusedFor : List ℕ → Refusal → Type 0
RefusedFor b why = Falls b (Class.Refused (refusal_fault why).number)

-- every entry of this size that begins with these bytes, the whole of it where it is not longer than what is taken in
abbrev pub FallsAs : List ℕ → ℕ → Class → Type 0
FallsAs first size c = (b : List ℕ) → length b ≡ size → take entry_room b ≡ first → Falls b c

-- the line of the report that counts those refused by n: 1 to 6, then 12, then 13, after the three values
abbrev pub refused_line : ℕ → ℕ
refused_line n = cond (leb n 6) (n + 2) (cond (eqb n 12) 9 10)

-- the line that counts a class, counted from 0
abbrev pub line : Class → ℕ
line (Class.Winning n) = 0
line (Class.Pending n) = 1
line Class.Losing = 2
line (Class.Refused n) = refused_line n

-- what a class adds to the sum of winning starting numbers, and to that of pending ones
abbrev pub winning_number : Class → ℕ
winning_number (Class.Winning n) = n
winning_number (Class.Pending n) = 0
winning_number Class.Losing = 0
winning_number (Class.Refused n) = 0

abbrev pub pending_number : Class → ℕ
pending_number (Class.Winning n) = 0
pending_number (Class.Pending n) = n
pending_number Class.Losing = 0
pending_number (Class.Refused n) = 0

-- the class by what a plan says of the starting place
abbrev pub started_class : Entry → Class
started_class e = cond (eqb e.value 0) Class.Losing (cond (eqb e.value 1) (Class.Pending e.number) (Class.Winning e.number))
