-- What the reader of moves answers over a job's bytes: how many moves it hands out, the one at a cursor, and the cursor after it.
use Rattle.std.specs.Prelude.{ℕ, zero, suc, ◌+◌, cond, List, eqb, ltb, Option, Some, None}
use Rattle.std.specs.Borrow.{Bor}
use Rattle.rules.specs.Fault.{Fault}
use Rattle.rules.specs.Bytes.{fault, refusal, said}
use Rattle.rules.specs.declared.place.Move.{Move}
use Rattle.reader.specs.declared.Answer.{Answer}
use Rattle.reader.specs.declared.MoveReader.{MoveReader}

-- a job that is refused has no moves
abbrev pub moves_in : List ℕ → ℕ
moves_in b = cond (eqb (refusal b) 0) (said b).records 0

-- record k, or no more
abbrev pub handed : List ℕ → ℕ → Option Move
handed b k = cond (ltb k (moves_in b)) (Some ((said b).move k)) None

-- a record that is handed out moves the cursor on by one
abbrev pub cursor : List ℕ → ℕ → ℕ
cursor b k = cond (ltb k (moves_in b)) (k + 1) k

-- the figures of what opening answers
abbrev pub answered : Fault → Answer
answered f = record { refusal = f.number; «record» = f.«record» }

-- the reader that opening gives: at the first move, with what refuses the job
abbrev pub opened : Bor (List ℕ) → MoveReader
opened s = record { job = s; answer = answered (fault s.now); at = 0 }

-- what a reader hands out, and the reader afterwards, which holds the same job
abbrev pub hands : MoveReader → Option Move
hands r = handed r.job.now r.at

abbrev pub moved : MoveReader → MoveReader
moved r = record { job = r.job; answer = r.answer; at = cursor r.job.now r.at }

-- the reader after k calls
abbrev pub after : ℕ → MoveReader → MoveReader
after zero r = r
after (suc k) r = moved (after k r)
