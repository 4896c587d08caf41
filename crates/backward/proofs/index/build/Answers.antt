-- `build` meets its contract: the records passed, from the last on, are listed.
use Prim.Native.Nat.{◌+◌, ◌-◌}
use mathlib.Core.Path.{◌≡◌, ap}
use native.Mathlib.Omega.{arith}
use Rattle.rules.specs.declared.place.Move.{Move}
use Rattle.job.proofs.Asking.{records_said, states_said, few_records, outcome_below}
use Rattle.backward.proofs.Listing.{indexing_none, indexing_from, indexing_more}
use Rattle.backward.proofs.index.build.Goals as goal

pub overflow_cast-n : goal.overflow_cast-n
overflow_cast-n c = omega (arith, few_records c.requires.fit)

pub loop-k-init : goal.loop-k-init
loop-k-init c =
    let f = c.requires.fit in
    rw (records_said f) (indexing_none (rw (states_said f, records_said f) at c.fill.ensures))

pub overflow_cast-k : goal.overflow_cast-k
overflow_cast-k c = omega (arith, few_records c.requires.fit)

pub link-requires : goal.link-requires
link-requires c =
    let a = c.loop-k in
    let t = outcome_below c.requires.fit (a.k - 1) (omega arith) in
    record {
      t_lt_states = rw c.move_at-m.ensures t;
      k_in_bounds = omega (
        arith,
        a.invariant.as_long,
        c.fill.ensures.as_long,
        c.requires.records_in_bounds,
      );
    }

pub loop-k-preserved : goal.loop-k-preserved
loop-k-preserved c =
    let f = c.requires.fit in
    let a = c.loop-k in
    let b = outcome_below f (a.k - 1) (omega arith) in
    let e : a.k ≡ a.k - 1 + 1 = omega arith in
    indexing_more (rw e at a.invariant) (omega (arith, records_said f)) (ap (λ (m : Move). m.outcome) c.move_at-m.ensures)
    (rw (c.move_at-m.ensures, ← states_said f) b) (rw (states_said f) at c.link.ensures)

pub returns : goal.returns
returns c = let f = c.requires.fit in
    let z : c.loop-k.k ≡ 0 = omega arith in
    indexing_from (rw (states_said f, records_said f) at c.fill.ensures)
    (rw z at c.loop-k.invariant)
