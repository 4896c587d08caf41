-- What salvaging returns: the refusal with its record, and the two lengths, for each case of its answer.
use Rattle.std.specs.Prelude.{ℕ, Result, Ok, Err}
use Rattle.rules.specs.Fault.{Fault, only}
use Rattle.rules.specs.Answers.{refusal_fault}
use Rattle.rules.specs.declared.answer.Refusal.{Refusal}
use Rattle.salvage.specs.declared.tool.Lengths.{Lengths}

pub record SalvagedFigures : Type 0 where
  pub fault : Fault
  pub job_length : ℕ
  pub pairs_length : ℕ

abbrev pub salvaged_figures : Result Lengths Refusal → SalvagedFigures
salvaged_figures (Ok x) = record { fault = only 0; job_length = x.job; pairs_length = x.pairs }
salvaged_figures (Err why) = record { fault = refusal_fault why; job_length = 0; pairs_length = 0 }
