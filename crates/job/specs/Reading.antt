-- What judging and reading answer: the number for each case with its record, and the layout where it is 0.
use Rattle.std.specs.Prelude.{ℕ, Bool, false, cond, not, List, eqb, Result, Ok, Err}
use Rattle.rules.specs.Fault.{Fault, only}
use Rattle.rules.specs.Bytes.{fault_but, refusal_but}
use Rattle.rules.specs.Answers.{refusal_fault, fault_of}
use Rattle.rules.specs.declared.answer.Refusal.{Refusal}
use Rattle.job.specs.Layout.{layout}
use Rattle.job.specs.declared.layout.Layout.{Layout}
use Rattle.job.specs.declared.form.Form.{Form}

abbrev pub verdict_fault : Result (Unit {0}) Refusal → Fault
verdict_fault r = fault_of r

-- a layout with every figure 0
abbrev pub no_layout : Layout
no_layout =
    record {
      states = 0;
      actions = 0;
      propositions = 0;
      goals = 0;
      first = 0;
      first_goal = 0;
      records = 0;
      labels_at = 0;
      moves_at = 0;
      goal_at = 0;
      form = Form.Old;
    }

pub record ReadingFigures : Type 0 where
  pub fault : Fault
  pub layout : Layout

abbrev pub reading_figures : Result Layout Refusal → ReadingFigures
reading_figures (Ok l) = record { fault = only 0; layout = l }
reading_figures (Err r) = record { fault = refusal_fault r; layout = no_layout }

-- what reading answers of the bytes b; a too large outcome may be forgiven
abbrev pub reading_but : Bool → List ℕ → ReadingFigures
reading_but forgive b =
    cond (not (eqb (refusal_but forgive b) 0)) (record { fault = fault_but forgive b; layout = no_layout })
    (record { fault = only 0; layout = layout b })

abbrev pub reading : List ℕ → ReadingFigures
reading b = reading_but false b
