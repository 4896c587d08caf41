-- `label` meets its contract: Labels has a byte for each state, and nothing of it is masked away.
use mathlib.Core.Path.{◌∙◌}
use Rattle.job.proofs.Offsets.{label_masked}
use Rattle.job.proofs.ask.label.Goals as goal

pub returns : goal.returns
returns c =
    c.from.ensures ∙ label_masked c.requires.fit c.requires.s_lt_states c.part_below.ensures
