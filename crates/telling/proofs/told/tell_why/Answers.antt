-- `told::tell_why` meets its contract: where the value is neither losing nor pending nothing is told.
use Prim.Native.Nat.{ℕ}
use mathlib.Core.Bool.{cond}
use mathlib.Core.List.{List, []}
use mathlib.Core.Path.{ap, ◌∙◌}
use lib.Dec.{eqb}
use borrow.Author.Rules.{rules}
use borrow.Author.Tests.{ne_eqb}
use Rattle.std.specs.Prelude.{◌≢◌}
use Rattle.game.specs.declared.entry.Entry.{Entry}
use Rattle.text.specs.Puts.{Puts}
use Rattle.text.specs.declared.Line.{Line}
use Rattle.text.proofs.Putting.{puts_none}
use Rattle.telling.proofs.told.tell_why.Goals as goal

quiet : (line : Line) (lost told : List ℕ) (v : ℕ) → v ≢ 0 → v ≢ 1 → Puts line (cond (eqb v 0) lost (cond (eqb v 1) told [])) line
quiet line lost told v not_lost not_hoped = rw (ne_eqb v 0 not_lost, ne_eqb v 1 not_hoped) (puts_none line)

pub returns : goal.returns
returns c =
    let not_lost : c.read_entry-e.result.value ≢ 0 = search rules in
    let not_hoped : c.read_entry-e.result.value ≢ 1 = search rules in
    let value = ap (λ (e : Entry). e.value) c.read_entry-e.ensures in
    quiet _ _ _ _ (λ z. not_lost (value ∙ z)) (λ z. not_hoped (value ∙ z))

pub returns-2 : goal.returns-2
returns-2 c =
    let not_lost : c.read_entry-e.result.value ≢ 0 = search rules in
    let not_hoped : c.read_entry-e.result.value ≢ 1 = search rules in
    let value = ap (λ (e : Entry). e.value) c.read_entry-e.ensures in
    quiet _ _ _ _ (λ z. not_lost (value ∙ z)) (λ z. not_hoped (value ∙ z))
