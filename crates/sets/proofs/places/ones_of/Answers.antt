-- `places::ones_of` meets its contract.
use borrow.Author.Rules.{rules}
use native.Mathlib.Omega.{arith}
use lib.Count.{ones-le}
use mir.Syntax.{w64}
use mir.Val.{Fits}
use Rattle.sets.proofs.places.ones_of.Goals as goal

pub overflow_cast-result : goal.overflow_cast-result
overflow_cast-result c =
    let word : Fits w64 c.args.word = search rules in
    omega (arith, ones-le 64 _ word.fits)
