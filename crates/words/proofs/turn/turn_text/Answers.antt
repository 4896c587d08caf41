-- `turn::turn_text` meets its contract: the names are those that the text lists.
use mathlib.Core.Path.{◌∙◌}
use Rattle.words.proofs.Turning.{answered}
use Rattle.words.proofs.turn.turn_text.Goals as goal

pub returns : goal.returns
returns c =
    answered (c.names.ensures.1 ∙ c.of-states.ensures.1) (c.names-2.ensures.1 ∙ c.of-actions.ensures.1)
    (c.names-3.ensures.1 ∙ c.of-facts.ensures.1) (c.names-4.ensures.1 ∙ c.of-goals.ensures.1) c.turn_named.ensures
