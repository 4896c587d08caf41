-- `fits_all` meets its contract: every state passed has entries that may all stand where they stand.
use Prim.Native.Nat.{◌+◌, ◌*◌, ◌≤◌}
use mathlib.Core.Path.{◌≡◌, refl}
use native.Mathlib.Nat.{mul-le-mul, zero-mul}
use native.Mathlib.Omega.{arith}
use lib.Arith.{digits_lt}
use Rattle.job.proofs.Asking.{few_places, some_goals, few_goals}
use Rattle.labelling.proofs.Ranging.{from_start}
use Rattle.labelling.proofs.Rounding.{next_row}
use Rattle.checking.proofs.Judging.{all_none, all_on, until_part, until_end}
use Rattle.checking.proofs.entries.fits_all.Goals as goal

pub loop-s-init : goal.loop-s-init
loop-s-init c = (from_start _, all_none (omega (arith, zero-mul c.args.l.goals)))

pub range_end-end-requires : goal.range_end-end-requires
range_end-end-requires c =
    record {
      fit = c.requires.fit;
      from = c.loop-s.invariant.0;
    }

pub fits_state-x-requires : goal.fits_state-x-requires
fits_state-x-requires c =
    let p = c.requires in
    record {
      fit = p.fit;
      state = c.loop-s-test.true;
      range = record { begins = c.loop-s.invariant.0; ends = c.range_end-end.ensures.1; in_order = c.range_end-end.ensures.0 };
      whole = p.goals_in_bounds;
      own_whole = p.goals_in_bounds_2;
    }

pub overflow_mul-s : goal.overflow_mul-s
overflow_mul-s c =
    let p = c.requires.fit in
    omega (arith, few_places p, digits_lt c.loop-s-test.true (some_goals p))

pub overflow_add-s : goal.overflow_add-s
overflow_add-s c =
    let p = c.requires.fit in
    omega (arith, few_places p, few_goals p, digits_lt c.loop-s-test.true (some_goals p))

pub returns-then-x-s : goal.returns-then-x-s
returns-then-x-s c =
    let g = c.args.l.goals in
    let h : (c.loop-s.s + 1) * g ≤ c.args.l.states * g = mul-le-mul (omega (arith, c.loop-s-test.true)) (omega arith) in
    until_part c.loop-s.invariant.1 (omega arith) c.fits_state-x.ensures c.if-x-s.true
    (omega (arith, h, next_row c.loop-s.s g))

pub loop-s-preserved : goal.loop-s-preserved
loop-s-preserved c =
    let g = c.args.l.goals in (
      c.range_end-end.ensures.1,
      rw (next_row c.loop-s.s g) (all_on c.loop-s.invariant.1 c.fits_state-x.ensures (omega (arith, c.if-x-s.false))),
    )

pub overflow_mul-result : goal.overflow_mul-result
overflow_mul-result c =
    let x = c.args.l in
    omega (arith, few_places c.requires.fit)

pub returns : goal.returns
returns c =
    let x = c.args.l in
    let e : c.loop-s.s ≡ x.states = omega arith in
    until_end (rw e at c.loop-s.invariant.1) (omega arith) refl
