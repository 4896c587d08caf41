-- `ActionSet::without` meets its contract.
use borrow.Author.Rules.{rules}
use mir.Syntax.{w16}
use mir.Val.{Fits}
use Rattle.sets.proofs.Bits.{bit_without}
use Rattle.sets.proofs.actions.ActionSet.without.Goals as goal

pub returns : goal.returns
returns c k =
    let a = c.args in
    let f : Fits w16 a.self.bits = search rules in
    let g : Fits w16 a.other.bits = search rules in
    bit_without a.self.bits a.other.bits 16 k f.fits g.fits
