-- `turn::turn_said` meets its contract.
use mathlib.Core.Path.{sym, ◌∙◌}
use Rattle.words.specs.Within.{blamed}
use Rattle.words.proofs.turn.turn_said.Goals as goal

pub returns-then-is_faulty : goal.returns-then-is_faulty
returns-then-is_faulty c = blamed

pub returns-then-not-is_whole : goal.returns-then-not-is_whole
returns-then-not-is_whole c = blamed

pub turn_whole-requires : goal.turn_whole-requires
turn_whole-requires c = sym c.is_whole.ensures ∙ c.if-not-is_whole.false
