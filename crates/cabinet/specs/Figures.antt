-- The figures of the answers that a caller gets: document 01's number and values for each case, and those of the structs for C.
use Rattle.std.specs.Prelude.{Result, Ok, Err}
use Rattle.rules.specs.Fault.{Fault, with_record}
use Rattle.rules.specs.Answers as answers
use Rattle.rules.specs.Answers.{refusal_fault}
use Rattle.rules.specs.declared.answer.Refusal.{Refusal}
use Rattle.cabinet.specs.declared.place.Moved.{Moved}
use Rattle.cabinet.specs.declared.calls.PlannedFigures.{PlannedFigures}
use Rattle.cabinet.specs.declared.calls.MovedFigures.{MovedFigures}
use Rattle.cabinet.specs.declared.calls.AdvisedFigures.{AdvisedFigures}

abbrev pub figures_planned : PlannedFigures → Fault
figures_planned f = with_record f.refusal f.«record»

abbrev pub moved_figures : Result Moved Refusal → answers.MovedFigures
moved_figures (Ok m) = record { refusal = 0; state = m.place.state; goal = m.place.goal; «record» = m.«record» }
moved_figures (Err r) = record { refusal = (refusal_fault r).number; state = 0; goal = 0; «record» = (refusal_fault r).«record» }

abbrev pub figures_moved : MovedFigures → answers.MovedFigures
figures_moved f = record { refusal = f.refusal; state = f.state; goal = f.goal; «record» = f.«record» }

abbrev pub figures_advised : AdvisedFigures → answers.AdvisedFigures
figures_advised f = record { refusal = f.refusal; value = f.value; action = f.action; number = f.number; «record» = f.«record» }
