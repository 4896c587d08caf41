-- `bundle::follow_one_another` meets its contract: a turn tests one entry more, and no sum wraps.
use Rattle.totals.proofs.Bundles.{order_stops, order_more, due_next}
use Rattle.totals.specs.Bundle.{entries, contents_size}
use mathlib.Core.Path.{◌≡◌, refl, sym, ap}
use native.Mathlib.Omega.{arith}
use Rattle.totals.proofs.bundle.follow_one_another.Goals as goal

pub loop-i-init : goal.loop-i-init
loop-i-init c = (ap contents_size c.requires.n_value, (refl, omega arith))

pub begins-requires : goal.begins-requires
begins-requires c =
    record {
      i_in_bounds = omega arith;
      i_bound = omega arith;
    }

pub returns-then-not-begins : goal.returns-then-not-begins
returns-then-not-begins c =
    order_stops c.args.contents.now c.loop-i.i c.loop-i.at _ c.loop-i.invariant.0 c.begins.ensures
    (omega (arith, c.requires.n_value)) c.if-not-begins.true

pub size_of-at-requires : goal.size_of-at-requires
size_of-at-requires c =
    record {
      i_in_bounds = omega arith;
      i_bound = omega arith;
    }

pub overflow_add-at-in-loop-i : goal.overflow_add-at-in-loop-i
overflow_add-at-in-loop-i c = omega (arith, c.size_of-at.ensures.upper_bound)

pub loop-i-preserved : goal.loop-i-preserved
loop-i-preserved c =
    let h = c.args.contents.now in
    let i = c.loop-i.i in (
      due_next h i c.loop-i.at _ c.loop-i.invariant.0 c.begins.ensures c.if-not-begins.false _ c.size_of-at.ensures.value,
      (
        order_more h i c.loop-i.at _ c.loop-i.invariant.0 c.begins.ensures c.if-not-begins.false c.loop-i.invariant.1.0,
        omega (arith, c.size_of-at.ensures.upper_bound),
      ),
    )

pub returns : goal.returns
returns c =
    let e : c.loop-i.i ≡ entries c.args.contents.now = omega (arith, c.requires.n_value) in
    sym (rw e at c.loop-i.invariant.1.0)
