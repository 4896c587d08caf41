-- A byte's class is that of the meaning: each byte of a class in turn.
use Rattle.std.proofs.Common.{rules}
use Rattle.lines.proofs.Wording.{class_of_blank, class_of_end, class_of_mark, class_of_letter}
use Rattle.lines.proofs.word.ClassFromU8.from.Goals as goal

pub returns-in-32 : goal.returns-in-32
returns-in-32 c = class_of_blank _ c.in-32.is

pub returns-in-10 : goal.returns-in-10
returns-in-10 c = class_of_end _ c.in-10.is

pub returns-in-58 : goal.returns-in-58
returns-in-58 c = class_of_mark _ c.in-58.is

pub returns-in_default : goal.returns-in_default
returns-in_default c = class_of_letter _ (search rules) (search rules) (search rules)
