-- `put_three` meets its contract: three bytes, one after another.
use mathlib.Core.Path.{ap, ◌∙◌}
use Rattle.text.proofs.Putting.{puts_then}
use Rattle.lines.specs.Names.{index_of, found}
use Rattle.lines.specs.Tables.{names_of}
use Rattle.aims.proofs.put_three.Goals as goal

pub returns : goal.returns
returns c =
    let n = c.args.facts in
    let a = c.unwrap_or-a.ensures ∙ ap (found c.find.result) c.len.ensures ∙ c.find.ensures.index ∙ ap (index_of (names_of n)) c.bytes.ensures in
    let b = c.unwrap_or-b.ensures ∙ ap (found c.find-2.result) c.len-2.ensures ∙ c.find-2.ensures.index ∙ ap (index_of (names_of n)) c.bytes-2.ensures in
    rw (← a, ← b, ← c.from.ensures) (puts_then c.put.ensures (puts_then c.put-2.ensures c.put-3.ensures))
