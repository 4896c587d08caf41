-- `label::lies_below` meets its contract: no proposition from p up to i is true.
use borrow.Author.Tests.{lt-ltb, le-ltb}
use mathlib.Core.Path.{sym, ◌∙◌}
use Prim.Native.Nat.{◌^◌}
use native.Mathlib.Omega.{arith}
use Rattle.sets.proofs.Bits.{set_above, clear_above}
use Rattle.sets.proofs.label.lies_below.Goals as goal

pub returns-then-has_proposition : goal.returns-then-has_proposition
returns-then-has_proposition c =
    let a = c.args in
    sym (le-ltb a.label (2 ^ a.p)
    (set_above a.label a.p c.loop-i.i c.loop-i.auto.i (sym c.has_proposition.ensures ∙ c.if-has_proposition.true)))

pub returns : goal.returns
returns c =
    let a = c.args in
    sym (lt-ltb a.label (2 ^ a.p)
    (clear_above 8 a.label a.p c.ranges.label.fits (λ k h l. c.loop-i.invariant k (omega arith) l)))
