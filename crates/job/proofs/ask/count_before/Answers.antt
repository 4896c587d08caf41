-- `count_before` meets its contract: of the records in doubt each look settles the upper or the lower part.
use Prim.Native.Nat.{◌+◌, ◌-◌, ◌/◌}
use mathlib.Core.Path.{◌≡◌, sym, ◌∙◌}
use native.Mathlib.Omega.{arith}
use Rattle.rules.specs.Bytes.{said, before}
use Rattle.job.specs.Found.{triple}
use Rattle.job.proofs.Finding.{figures_before, parted_under, parted_beyond}
use Rattle.job.proofs.ask.count_before.Goals as goal

pub loop-low-preserved-then-lt : goal.loop-low-preserved-then-lt
loop-low-preserved-then-lt c =
    let x = c.args in
    let at = c.loop-low in
    let m = (said x.job.now).move (at.low + (at.high - at.low) / 2) in
    let answered : c.lt.result ≡ before m (triple x.s x.a x.t) =
    (rw (c.figures.ensures, c.move_at.ensures) at c.lt.ensures) ∙ figures_before m x.s x.a x.t in
    let more = c.loop-low-test.true in
    (omega arith, parted_under c.requires.keeps at.invariant.1 (omega arith) (sym answered ∙ c.if-lt.true))

pub loop-low-preserved : goal.loop-low-preserved
loop-low-preserved c =
    let x = c.args in
    let at = c.loop-low in
    let m = (said x.job.now).move (at.low + (at.high - at.low) / 2) in
    let answered : c.lt.result ≡ before m (triple x.s x.a x.t) =
    (rw (c.figures.ensures, c.move_at.ensures) at c.lt.ensures) ∙ figures_before m x.s x.a x.t in
    let more = c.loop-low-test.true in
    (omega arith, parted_beyond c.requires.keeps at.invariant.1 (omega arith) (sym answered ∙ c.if-lt.false))

pub returns : goal.returns
returns c =
    let at = c.loop-low in
    let e : at.high ≡ at.low = omega (arith, c.loop-low-test.false, at.invariant.0) in
    rw e at at.invariant.1
