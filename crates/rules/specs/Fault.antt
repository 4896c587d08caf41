-- Why a call says no, in figures: a number of the table, and with 12 and 13 the number of a record of Moves, counted from 0.
use Rattle.std.specs.Prelude.{ℕ, cond, eqb}

pub record Fault : Type 0 where
  pub number : ℕ
  pub «record» : ℕ

-- a number that names no record; 0 is success
abbrev pub only : ℕ → Fault
only n = record { number = n; «record» = 0 }

-- a number with record k
abbrev pub with_record : ℕ → ℕ → Fault
with_record n k = record { number = n; «record» = k }

-- the first of two: the second is looked at where the first is none
abbrev pub or_else : Fault → Fault → Fault
or_else f g = cond (eqb f.number 0) g f
