-- The numbers and values of documents 01 and 02 for each case of an answer.
use Rattle.std.specs.Prelude.{ℕ, ◌<◌, true, false, ◌≡◌, Option, Some, None, Result, Ok, Err}
use Rattle.rules.specs.Fault.{Fault, only, with_record}
use Rattle.rules.specs.Plan.{shaped}
use Rattle.game.specs.declared.entry.Entry.{Entry}
use Rattle.rules.specs.declared.answer.Refusal.{Refusal}
use Rattle.rules.specs.declared.answer.Value.{Value}
use Rattle.rules.specs.declared.answer.NoValue.{NoValue}
use Rattle.rules.specs.declared.answer.Advice.{Advice}

-- the number of a refusal, and its record
abbrev pub refusal_fault : Refusal → Fault
refusal_fault Refusal.Short = only 1
refusal_fault Refusal.Contents = only 2
refusal_fault Refusal.Counts = only 3
refusal_fault Refusal.Labels = only 4
refusal_fault Refusal.Moves = only 5
refusal_fault (Refusal.Field k) = with_record 12 k
refusal_fault (Refusal.Order k) = with_record 13 k
refusal_fault Refusal.Goal = only 6
refusal_fault Refusal.Room = only 7
refusal_fault Refusal.Place = only 9
refusal_fault Refusal.Entry = only 10
refusal_fault Refusal.Outcome = only 11
refusal_fault Refusal.NoClauses = only 14
refusal_fault Refusal.Clause = only 15
refusal_fault Refusal.Memory = only 17
refusal_fault Refusal.Slips = only 18

abbrev pub value_number : Value → ℕ
value_number Value.Losing = 0
value_number Value.Pending = 1
value_number Value.Winning = 2

-- the value that has a number, or the number where none has it
abbrev pub ValueOf : ℕ → Result Value NoValue → Type 0
ValueOf n (Ok v) = n ≡ value_number v
ValueOf n (Err e) = (e.0 ≡ n) × (2 < n)

-- the number and the record of an answer: 0 where it is no refusal
abbrev pub fault_of : {A : Type 0} → Result A Refusal → Fault
fault_of (Ok x) = only 0
fault_of (Err why) = refusal_fault why

-- The figures that a call returns. Success is 0; a refusal returns its number and its record, and every other figure is 0. On success the
-- record of a move is the one that was followed.
pub record MovedFigures : Type 0 where
  pub refusal : ℕ
  pub state : ℕ
  pub goal : ℕ
  pub «record» : ℕ

pub record AdvisedFigures : Type 0 where
  pub refusal : ℕ
  pub value : ℕ
  pub action : ℕ
  pub number : ℕ
  pub «record» : ℕ

-- the number and the record among the figures
abbrev pub moved_fault : MovedFigures → Fault
moved_fault f = with_record f.refusal f.«record»

abbrev pub advised_fault : AdvisedFigures → Fault
advised_fault f = with_record f.refusal f.«record»

-- of what planning answers
abbrev pub planned_fault : Result (Unit {0}) Refusal → Fault
planned_fault r = fault_of r

abbrev pub advised_figures : Result Advice Refusal → AdvisedFigures
advised_figures (Ok x) = record { refusal = 0; value = value_number x.value; action = x.action; number = x.number; «record» = 0 }
advised_figures (Err why) =
    record { refusal = (refusal_fault why).number; value = 0; action = 0; number = 0; «record» = (refusal_fault why).«record» }

-- an answer names the value of an entry that has one of the four shapes, or says that it has none of them
abbrev pub ShapeOf : ℕ → ℕ → Entry → Option Value → Type 0
ShapeOf actions n e (Some v) = (shaped actions n e ≡ true) × (e.value ≡ value_number v)
ShapeOf actions n e None = shaped actions n e ≡ false
