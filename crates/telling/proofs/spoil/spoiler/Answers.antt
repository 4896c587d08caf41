-- `spoil::spoiler` meets its contract: no record beside those of the state and action spoils it, and of these it is looked for from above.
use Prim.Native.Nat.{suc, ◌-◌}
use mathlib.Core.Path.{◌≡◌, sym, ◌∙◌}
use native.Mathlib.Omega.{arith}
use Rattle.rules.specs.Bytes.{said}
use Rattle.rules.specs.Answers.{value_number}
use Rattle.telling.proofs.Seeking.{sought_from, sought_down, sought_found, sought_none, not_among}
use Rattle.telling.proofs.spoil.spoiler.Goals as goal

pub loop-k-init : goal.loop-k-init
loop-k-init c =
    let x = c.args in
    let t = c.of_action-r.ensures in
    sought_from _ _ _ t.inside (λ k h g. not_among (said x.job.now) x.plan.now x.s x.q x.a (value_number x.v) t k g (λ low high. omega arith))

pub returns-then-is_spoiling : goal.returns-then-is_spoiling
returns-then-is_spoiling c =
    let k = c.loop-k.k in
    let z : suc (k - 1) ≡ k = omega (arith, c.loop-k-test.true) in
    sought_found (k - 1) (rw z c.loop-k.invariant) (sym c.is_spoiling.ensures ∙ c.if-is_spoiling.true)

pub loop-k-preserved : goal.loop-k-preserved
loop-k-preserved c =
    let k = c.loop-k.k in
    let z : suc (k - 1) ≡ k = omega (arith, c.loop-k-test.true) in
    sought_down (k - 1) (rw z c.loop-k.invariant) (sym c.is_spoiling.ensures ∙ c.if-is_spoiling.false)

pub returns : goal.returns
returns c =
    let x = c.args in
    let at = c.loop-k in
    let end = c.loop-k-test.false in
    sought_none at.invariant
    (λ i h. not_among (said x.job.now) x.plan.now x.s x.q x.a (value_number x.v) c.of_action-r.ensures i (omega (arith, at.invariant.few)) (λ low high. omega arith))
