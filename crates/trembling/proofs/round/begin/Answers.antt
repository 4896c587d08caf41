-- `begin` meets its contract: each turn is round 0 at one larger place more.
use Prim.Native.Nat.{◌+◌, ◌*◌, ◌%◌}
use mathlib.Core.Path.{◌≡◌, sym, ap, subst}
use native.Mathlib.Nat.{mod-lt, div-lt_iff_lt-mul}
use native.Mathlib.Omega.{arith}
use borrow.Author.Rules.{rules}
use Rattle.job.proofs.Asking.{few_places, some_goals}
use Rattle.phases.specs.Round.{begun_entry}
use Rattle.phases.proofs.Passes.{pass_none, pass_join, pass_at}
use Rattle.trembling.specs.Round.{met_at, first_entry, Begun}
use Rattle.trembling.proofs.Rounding.{few_all, some_places}
use Rattle.trembling.proofs.round.begin.Goals as goal

pub overflow_mul-places : goal.overflow_mul-places
overflow_mul-places c = omega (arith, few_places c.requires.fit)

pub overflow_mul-i-end : goal.overflow_mul-i-end
overflow_mul-i-end c =
    omega (arith, few_all c.args.slips (c.args.l.states * c.args.l.goals) c.requires.slips_bound (few_places c.requires.fit))

pub loop-i-init : goal.loop-i-init
loop-i-init c = (search rules, pass_none)

pub nonzero_rem-x : goal.nonzero_rem-x
nonzero_rem-x c = some_places c.requires.fit

pub nonzero_div-x : goal.nonzero_div-x
nonzero_div-x c = some_goals c.requires.fit

pub nonzero_rem-x-in-loop-i : goal.nonzero_rem-x-in-loop-i
nonzero_rem-x-in-loop-i c = some_goals c.requires.fit

pub is_accepted-accepted-requires : goal.is_accepted-accepted-requires
is_accepted-accepted-requires c =
    let g = some_goals c.requires.fit in
    let many = c.args.l.states * c.args.l.goals in
    record {
      fit = c.requires.fit;
      s_lt_states = (div-lt_iff_lt-mul g).1 (mod-lt c.loop-i.i (some_places c.requires.fit));
      q_lt_goals = mod-lt (c.loop-i.i % many) g;
    }

pub begin_place-requires : goal.begin_place-requires
begin_place-requires c =
    let v = c.loop-i.invariant in
    let few = few_all c.args.slips (c.args.l.states * c.args.l.goals) c.requires.slips_bound (few_places c.requires.fit) in
    (omega arith, (omega (arith, c.loop-i-test.true, few), omega (arith, c.loop-i-test.true, v.1.as_long, c.requires.goals_in_bounds)))

pub loop-i-preserved : goal.loop-i-preserved
loop-i-preserved c =
    let v = c.loop-i.invariant in
    let x = c.args in
    let e = sym c.is_accepted-accepted.ensures in
    (v.0, pass_join (omega arith) (omega arith) v.1 (pass_at (met_at x.job.now x.l) (first_entry x.job.now x.l) e (ap begun_entry e) c.begin_place.ensures))

pub shape_of-plan : goal.shape_of-plan
shape_of-plan c = c.loop-i.invariant.1.as_long

pub returns : goal.returns
returns c =
    let v = c.loop-i.invariant in
    let x = c.args in
    let n : c.loop-i.i ≡ (x.slips + 1) * (x.l.states * x.l.goals) = omega arith in (
      c.empty-new.result.words,
      v.0,
      c.empty-new.ensures,
      subst (λ m. Begun x.job.now x.l 0 m c.empty-new.result.words x.plan.now c.loop-i.new.words c.loop-i.plan) n v.1,
    )
