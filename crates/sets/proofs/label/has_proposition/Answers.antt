-- `label::has_proposition` meets its contract: a byte has no bit from 8 on.
use borrow.Author.Tests.{le-ltb}
use mathlib.Core.Path.{sym, ◌∙◌}
use Rattle.sets.proofs.Bits.{bit_above}
use Rattle.sets.proofs.label.has_proposition.Goals as goal

pub returns-else-i-lt8 : goal.returns-else-i-lt8
returns-else-i-lt8 c = le-ltb c.args.i 8 c.if-i-lt8.false ∙ sym (bit_above _ 8 _ c.ranges.label.fits c.if-i-lt8.false)
