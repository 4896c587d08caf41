-- `ActionSet::lowest` meets its contract.
use borrow.Author.Rules.{rules}
use native.Mathlib.Omega.{arith}
use lib.Count.{trailing_le}
use mir.Syntax.{w16}
use mir.Val.{Fits}
use Rattle.sets.proofs.Bits.{bit_none}
use Rattle.sets.proofs.LowestBit.{trailing_lowest}
use Rattle.sets.proofs.actions.ActionSet.lowest.Goals as goal

pub returns-then-self-eq0 : goal.returns-then-self-eq0
returns-then-self-eq0 c = rw c.if-self-eq0.true bit_none

pub overflow_cast-result : goal.overflow_cast-result
overflow_cast-result c = omega (arith, trailing_le 16 c.args.self.bits)

pub returns : goal.returns
returns c =
    let n = c.args.self.bits in
    let f : Fits w16 n = search rules in
    trailing_lowest 16 n (omega (arith, c.if-self-eq0.false)) f.fits
