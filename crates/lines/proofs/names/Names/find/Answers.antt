-- `Names::find` meets its contract: none of the k names passed is spelt like the word.
use Rattle.std.proofs.Common.{◌≡◌, length, get_or, ◌+◌}
use mathlib.Core.Path.{sym, ap, ◌∙◌}
use Rattle.std.proofs.lemmas.List.{length-map}
use native.Mathlib.Omega.{arith}
use Rattle.lines.specs.Words.{same_word}
use Rattle.lines.specs.Tables.{names_of, name_at}
use Rattle.lines.proofs.Tabling.{found_here, found_later, found_none}
use Rattle.lines.proofs.names.Names.find.Goals as goal

pub returns-then-is_same-clause-index : goal.returns-then-is_same-clause-index
returns-then-is_same-clause-index c =
    let x = c.args in
    let z = found_here (names_of x.self) x.word.now c.loop-k.k (rw (length-map x.self.spans.now (name_at x.self.text.now)) c.loop-k-test.true) (ap (λ v. same_word v x.word.now) (sym c.get.ensures) ∙ sym c.is_same.ensures ∙ c.if-is_same.true) in
    omega (arith, z, c.loop-k.invariant)

pub loop-k-preserved : goal.loop-k-preserved
loop-k-preserved c =
    let x = c.args in
    let z = found_later (names_of x.self) x.word.now c.loop-k.k (rw (length-map x.self.spans.now (name_at x.self.text.now)) c.loop-k-test.true) (ap (λ v. same_word v x.word.now) (sym c.get.ensures) ∙ sym c.is_same.ensures ∙ c.if-is_same.false) in
    omega (arith, z, c.loop-k.invariant)

pub returns-clause-index : goal.returns-clause-index
returns-clause-index c =
    let x = c.args in
    let z = found_none (names_of x.self) x.word.now c.loop-k.k (rw (length-map x.self.spans.now (name_at x.self.text.now)) c.loop-k-test.false) in
    omega (arith, z, c.loop-k.invariant, c.loop-k-test.false)
