-- `entered_does` meets its contract: the entry of the place that is entered is in the right plan.
use mathlib.Core.Path.{◌∙◌}
use native.Mathlib.Omega.{arith}
use Rattle.job.proofs.Asking.{goals_said, few_goals, entry_below}
use Rattle.checking.proofs.entries.entered_does.Goals as goal

pub overflow_cast-l : goal.overflow_cast-l
overflow_cast-l c = omega (arith, few_goals c.requires.fit)

pub read_entry-e-requires : goal.read_entry-e-requires
read_entry-e-requires c =
    let h = entry_below c.requires.fit c.requires.q_lt_goals c.requires.t_lt_states in
    rw (c.entry_number.ensures, c.place_entered-p.ensures) (omega (arith, h, c.requires.goals_in_bounds))

pub returns : goal.returns
returns c =
    c.outcome_does.ensures
    ∙ rw (
      c.read_entry-e.ensures,
      c.entry_number.ensures,
      c.place_entered-p.ensures,
      goals_said c.requires.fit,
    )
