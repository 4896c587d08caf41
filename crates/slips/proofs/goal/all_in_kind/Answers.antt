-- `all_in_kind` meets its contract. The clauses passed are so.
use mathlib.Core.Path.{◌≡◌, sym, ◌∙◌}
use native.Mathlib.Omega.{arith}
use Rattle.game.proofs.Tests.{every_more, every_stops}
use Rattle.slips.specs.Writing.{in_kind_at}
use Rattle.slips.proofs.goal.all_in_kind.Goals as goal

pub returns-then-not-is_in_kind : goal.returns-then-not-is_in_kind
returns-then-not-is_in_kind c =
    let a = c.args in
    sym (every_stops (in_kind_at a.s.now a.p) a.n c.loop-i.i (omega arith)
    (sym c.is_in_kind.ensures ∙ c.if-not-is_in_kind.true))

pub loop-i-preserved : goal.loop-i-preserved
loop-i-preserved c =
    let a = c.args in
    every_more (in_kind_at a.s.now a.p) c.loop-i.i c.loop-i.invariant (sym c.is_in_kind.ensures ∙ c.if-not-is_in_kind.false)

pub returns : goal.returns
returns c =
    let e : c.loop-i.i ≡ c.args.n = omega arith in
    sym (rw e at c.loop-i.invariant)
