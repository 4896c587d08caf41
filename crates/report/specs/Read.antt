-- What came of reading: an entry, the entries, and the month; and what is printed of what came.
use Rattle.std.specs.Prelude.{ℕ, ◌≤◌, ◌<◌, min, true, List, [], Option, Some, None, Result, Ok, Err, ◌≡◌, length, get_or, take}
use Rattle.totals.specs.Bundle.{size, entries, due, contents_size, entries_counted, contents_fit}
use Rattle.totals.specs.Classes.{entry_room, FallsAs}
use Rattle.totals.specs.Reported.{Reported, Gathered}
use Rattle.totals.specs.declared.class.Class.{Class}
use Rattle.totals.specs.declared.tally.Totals.{Totals}
use Rattle.report.specs.Report.{report, refused}
use Rattle.report.specs.declared.Month.{Month}

-- an entry of this size came, and by the bytes that are now at the front of the buffer b it falls in the class; or fewer bytes than that came
pub data CameOf (b : List ℕ) (size : ℕ) : Result Class ℕ → Type 0 where
  whole : {c : Class} → FallsAs (take (min size entry_room) b) size c → CameOf b size (Ok c)
  cut : {k : ℕ} → k < size → CameOf b size (Err k)

-- n entries came, each of the size that the contents h tell, and these are their totals
pub record Entries (h : List ℕ) (n : ℕ) (t : Totals) : Type 0 where
  pub all : List (List ℕ)
  pub count : length all ≡ n
  pub sizes : (k : ℕ) → k < n → length (get_or all k []) ≡ size h k
  pub reported : Reported all t

-- the contents of the bytes b: as many as the first two count, as far as they are there
abbrev pub contents : List ℕ → List ℕ
contents b = take (contents_size (entries_counted b)) b

-- the contents h are good, and the last entry ends where the bytes that came do
abbrev pub Fits : List ℕ → ℕ → Type 0
Fits h came = (contents_fit h ≡ true) × (came ≡ due h (entries h))

-- Of the bytes b these contents and so many bytes come: where the contents are good, the bytes end there, unless that is past the last entry.
pub record Gives (b h : List ℕ) (came : ℕ) : Type 0 where
  pub front : contents b ≡ h
  pub least : contents_fit h ≡ true → came ≤ length b
  pub ended : contents_fit h ≡ true → came ≤ due h (entries h) → length b ≡ came

-- the totals are those of at most 64 jobs
abbrev pub MonthGathered : Month → Type 0
MonthGathered m = (t : Totals) → m.totals ≡ Some t → Gathered t 64

-- what came with the contents h: there are totals exactly where it fits, and then these are those of its entries
pub record MonthOf (h : List ℕ) (m : Month) : Type 0 where
  pub fits : {t : Totals} → m.totals ≡ Some t → Fits h m.came
  pub fails : m.totals ≡ None → Fits h m.came → ⊥
  pub all : {t : Totals} → m.totals ≡ Some t → Entries h (entries h) t
  pub gathered : MonthGathered m

abbrev pub told_of : Option Totals → List ℕ
told_of (Some t) = report t
told_of None = refused

abbrev pub told : Month → List ℕ
told m = told_of m.totals

-- `Told h came text`: the text is printed where the contents h came, and so many bytes in all
pub data Told (h : List ℕ) (came : ℕ) : List ℕ → Type 0 where
  told_refused : (Fits h came → ⊥) → Told h came refused
  told_reported : {t : Totals} → Fits h came → Entries h (entries h) t → Told h came (report t)
