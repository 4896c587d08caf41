-- `round::look` meets its contract.
use native.Mathlib.Omega.{arith}
use Prim.Native.Nat.{◌*◌, ◌-◌, ◌≤◌}
use Rattle.rules.specs.Job.{place}
use Rattle.rules.specs.Bytes.{said}
use Rattle.job.proofs.Asking.{few_places, lawful}
use Rattle.trembling.proofs.Others.{chosen_last, chosen_slip}
use Rattle.trembling.proofs.Rounding.{few_slips}
use Rattle.trembling.proofs.round.look_for.Goals as goal

pub overflow_mul-places : goal.overflow_mul-places
overflow_mul-places c = omega (arith, few_places c.requires.fit)

pub overflow_mul-own : goal.overflow_mul-own
overflow_mul-own c =
    omega (arith, few_slips c.args.k (c.args.l.states * c.args.l.goals) c.requires.k_bound (few_places c.requires.fit))

pub scan-x-requires : goal.scan-x-requires
scan-x-requires c =
    let few = few_slips c.args.k (c.args.l.states * c.args.l.goals) c.requires.k_bound (few_places c.requires.fit) in
    record {
      fit = c.requires.fit;
      q_lt_goals = c.requires.q_lt_goals;
      range = c.requires.range;
      goals_bound = few;
      goals_bound_2 = few;
    }

pub returns-then-k-eq0 : goal.returns-then-k-eq0
returns-then-k-eq0 c =
    let a = c.args in
    chosen_last (said a.job.now) (lawful c.requires.fit) c.requires.fit.keeps.few_actions (place a.s a.q) a.l.goals
    (a.l.states * a.l.goals) a.old.now.words c.scan-x.result a.phase a.k c.if-k-eq0.true c.scan-x.ensures
    c.choose.result c.choose.ensures

pub overflow_mul-less : goal.overflow_mul-less
overflow_mul-less c =
    let k : c.args.k - 1 ≤ 3 = omega (arith, c.requires.k_bound) in
    omega (arith, few_slips (c.args.k - 1) (c.args.l.states * c.args.l.goals) k (few_places c.requires.fit))

pub scan-x-requires-2 : goal.scan-x-requires-2
scan-x-requires-2 c =
    let n = c.args.l.states * c.args.l.goals in
    let k : c.args.k - 1 ≤ 3 = omega (arith, c.requires.k_bound) in
    record {
      fit = c.requires.fit;
      q_lt_goals = c.requires.q_lt_goals;
      range = c.requires.range;
      goals_bound = few_slips c.args.k n c.requires.k_bound (few_places c.requires.fit);
      goals_bound_2 = few_slips (c.args.k - 1) n k (few_places c.requires.fit);
    }

pub returns : goal.returns
returns c =
    let a = c.args in
    chosen_slip (said a.job.now) (lawful c.requires.fit) c.requires.fit.keeps.few_actions (place a.s a.q) a.l.goals
    (a.l.states * a.l.goals) a.old.now.words c.scan-x-2.result a.phase a.k c.if-k-eq0.false c.scan-x-2.ensures
    c.choose_slip.result c.choose_slip.ensures
