-- `label_all` meets its contract: round 0, the rounds of winning, and the rounds of hope.
use native.Mathlib.Omega.{arith}
use Rattle.phases.proofs.Holding.{holds_begin, holds_none_past}
use Rattle.phases.proofs.Settling.{labelled_both}
use Rattle.labelling.proofs.rounds.label_all.Goals as goal

pub all_rounds-all-requires : goal.all_rounds-all-requires
all_rounds-all-requires c =
    let t = c.requires in
    let w = c.all_rounds-won.ensures _ _ _ (holds_begin t.fit c.begin-first.ensures) in
    record {
      fit = t.fit;
      goals_in_bounds = omega (arith, t.goals_in_bounds, w.holds.as_long);
      none_past = holds_none_past w.holds;
    }

pub returns : goal.returns
returns c =
    let t = c.requires.fit in
    let w = c.all_rounds-won.ensures _ _ _ (holds_begin t c.begin-first.ensures) in
    labelled_both t.keeps w (c.all_rounds-all.ensures _ _ _ w.holds)
