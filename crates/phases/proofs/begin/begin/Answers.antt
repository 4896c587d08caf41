-- `begin` meets its contract: each turn is round 0 at one place more.
use Prim.Native.Nat.{◌*◌}
use mathlib.Core.Path.{◌≡◌, sym, ap}
use native.Mathlib.Omega.{arith}
use borrow.Author.Rules.{rules}
use Rattle.job.proofs.Asking.{few_places, some_goals}
use Rattle.phases.specs.Round.{begun_entry, first_entry, met_at}
use Rattle.phases.proofs.Passes.{pass_none, pass_join, pass_at}
use Rattle.phases.proofs.begin.begin.Goals as goal

pub overflow_mul-i-end : goal.overflow_mul-i-end
overflow_mul-i-end c = omega (arith, few_places c.requires.fit)

pub loop-i-init : goal.loop-i-init
loop-i-init c = (search rules, pass_none)

pub nonzero_div-i : goal.nonzero_div-i
nonzero_div-i c = some_goals c.requires.fit

pub nonzero_rem-i : goal.nonzero_rem-i
nonzero_rem-i c = some_goals c.requires.fit

pub loop-i-preserved : goal.loop-i-preserved
loop-i-preserved c =
    let v = c.loop-i.invariant in
    let l = c.args.l in
    let e = sym c.is_accepted-accepted.ensures in (
      v.0,
      pass_join (omega arith) (omega arith) v.1
          (pass_at (met_at c.args.job.now l) (first_entry c.args.job.now l) e (ap begun_entry e) c.begin_place.ensures),
    )

pub shape_of-plan : goal.shape_of-plan
shape_of-plan c = c.loop-i.invariant.1.as_long

pub returns : goal.returns
returns c =
    let v = c.loop-i.invariant in
    let l = c.args.l in
    let n : c.loop-i.i ≡ l.states * l.goals = omega arith in
    (c.empty-new.result.words, v.0, c.empty-new.ensures, rw (← n) v.1)
