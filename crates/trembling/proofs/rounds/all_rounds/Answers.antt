-- `all_rounds` meets its contract: each turn of the loop makes one round, and the size of the set tells whether it added a larger place. Below, s
-- is the start, a the loop's head, p past the round.
use Prim.Native.Nat.{◌+◌, ◌*◌, ◌/◌, ◌≤◌, ◌<◌}
use mathlib.Core.Path.{refl, sym, ◌∙◌}
use native.Mathlib.Omega.{arith}
use Rattle.rules.specs.Bytes.{said}
use Rattle.job.proofs.Asking.{few_places}
use Rattle.trembling.specs.Sets.{most_larger}
use Rattle.trembling.proofs.Rounding.{few_all}
use Rattle.trembling.proofs.Settling.{larger_none, larger_more, larger_grows, larger_stop, larger_full, larger_empty}
use Rattle.trembling.proofs.rounds.all_rounds.Goals as goal

pub overflow_mul-n : goal.overflow_mul-n
overflow_mul-n c = omega (arith, few_places c.requires.fit)

pub overflow_mul-n-2 : goal.overflow_mul-n-2
overflow_mul-n-2 c =
    let most : (c.args.slips + 1) * (c.args.l.states * c.args.l.goals) ≤ most_larger =
    few_all c.args.slips (c.args.l.states * c.args.l.goals) c.requires.slips_bound (few_places c.requires.fit) in
    omega (arith, most)

pub overflow_add-used : goal.overflow_add-used
overflow_add-used c =
    let most : (c.args.slips + 1) * (c.args.l.states * c.args.l.goals) ≤ most_larger =
    few_all c.args.slips (c.args.l.states * c.args.l.goals) c.requires.slips_bound (few_places c.requires.fit) in
    omega (arith, most)

pub len_in-few-requires : goal.len_in-few-requires
len_in-few-requires c =
    let most = few_all c.args.slips (c.args.l.states * c.args.l.goals) c.requires.slips_bound (few_places c.requires.fit) in
    (omega arith, (omega (arith, most), omega (arith, most)))

pub returns-then-few-eq0 : goal.returns-then-few-eq0
returns-then-few-eq0 c =
    let hold : (c.args.slips + 1) * (c.args.l.states * c.args.l.goals) ≤ 64 * (((c.args.slips + 1) * (c.args.l.states * c.args.l.goals) + 63) / 64) =
    omega arith in
    larger_empty c.requires.fit c.args.slips c.args.phase (64 * (((c.args.slips + 1) * (c.args.l.states * c.args.l.goals) + 63) / 64)) (hold) (sym c.len_in-few.ensures ∙ c.if-few-eq0.true)

pub loop-few-init : goal.loop-few-init
loop-few-init c =
    let x = c.args in
    (omega (arith, c.if-few-eq0.false), refl, c.len_in-few.ensures, larger_none (said x.job.now) x.slips x.phase _ _)

pub overflow_add-k : goal.overflow_add-k
overflow_add-k c =
    let most : (c.args.slips + 1) * (c.args.l.states * c.args.l.goals) ≤ most_larger =
    few_all c.args.slips (c.args.l.states * c.args.l.goals) c.requires.slips_bound (few_places c.requires.fit) in
    let below : c.loop-few.k + 1 < most_larger =
    omega (arith, c.loop-few.invariant.0, c.loop-few-test.true, most) in
    omega (arith, below)

pub overflow_cast-k : goal.overflow_cast-k
overflow_cast-k c =
    let most : (c.args.slips + 1) * (c.args.l.states * c.args.l.goals) ≤ most_larger =
    few_all c.args.slips (c.args.l.states * c.args.l.goals) c.requires.slips_bound (few_places c.requires.fit) in
    let below : c.loop-few.k + 1 < most_larger =
    omega (arith, c.loop-few.invariant.0, c.loop-few-test.true, most) in
    omega (arith, below)

pub one_round-next-requires : goal.one_round-next-requires
one_round-next-requires c =
    record {
      fit = c.requires.fit;
      slips_bound = c.requires.slips_bound;
      goals_in_bounds = omega (arith, c.requires.goals_in_bounds, c.loop-few.invariant.1);
    }

pub len_in-more-requires : goal.len_in-more-requires
len_in-more-requires c =
    let most = few_all c.args.slips (c.args.l.states * c.args.l.goals) c.requires.slips_bound (few_places c.requires.fit) in
    (omega arith, (omega (arith, most), omega (arith, most)))

pub shape_of-plan-then-more-few : goal.shape_of-plan-then-more-few
shape_of-plan-then-more-few c =
    omega (arith, c.loop-few.invariant.1, c.one_round-next.ensures.as_long)

pub returns-then-more-few : goal.returns-then-more-few
returns-then-more-few c =
    let hold : (c.args.slips + 1) * (c.args.l.states * c.args.l.goals) ≤ 64 * (((c.args.slips + 1) * (c.args.l.states * c.args.l.goals) + 63) / 64) =
    omega arith in
    larger_stop c.requires.fit c.args.slips c.loop-few.k c.loop-few.invariant.3 c.one_round-next.ensures (64 * (((c.args.slips + 1) * (c.args.l.states * c.args.l.goals) + 63) / 64)) (hold)
    (sym c.len_in-more.ensures ∙ c.if-more-few.true ∙ c.loop-few.invariant.2)

pub overflow_add-k-in-loop-few : goal.overflow_add-k-in-loop-few
overflow_add-k-in-loop-few c =
    let most : (c.args.slips + 1) * (c.args.l.states * c.args.l.goals) ≤ most_larger =
    few_all c.args.slips (c.args.l.states * c.args.l.goals) c.requires.slips_bound (few_places c.requires.fit) in
    let below : c.loop-few.k + 1 < most_larger =
    omega (arith, c.loop-few.invariant.0, c.loop-few-test.true, most) in
    omega (arith, below)

pub loop-few-smaller : goal.loop-few-smaller
loop-few-smaller c =
    let more : c.loop-few.few < c.len_in-more.result =
    let grows = larger_grows c.requires.fit c.args.slips c.loop-few.k c.loop-few.invariant.3 c.one_round-next.ensures (64 * (((c.args.slips + 1) * (c.args.l.states * c.args.l.goals) + 63) / 64)) in
    omega (arith, c.loop-few.invariant.2, c.len_in-more.ensures, grows, c.if-more-few.false) in
    omega (arith, more, c.loop-few-test.true)

pub loop-few-preserved : goal.loop-few-preserved
loop-few-preserved c =
    let more : c.loop-few.few < c.len_in-more.result =
    let grows = larger_grows c.requires.fit c.args.slips c.loop-few.k c.loop-few.invariant.3 c.one_round-next.ensures (64 * (((c.args.slips + 1) * (c.args.l.states * c.args.l.goals) + 63) / 64)) in
    omega (arith, c.loop-few.invariant.2, c.len_in-more.ensures, grows, c.if-more-few.false) in (
      omega (arith, c.loop-few.invariant.0, more),
      omega (arith, c.loop-few.invariant.1, c.one_round-next.ensures.as_long),
      c.len_in-more.ensures,
      larger_more c.requires.fit c.args.slips c.loop-few.k c.loop-few.invariant.3 c.one_round-next.ensures,
    )

pub shape_of-plan : goal.shape_of-plan
shape_of-plan c = c.loop-few.invariant.1

pub returns : goal.returns
returns c =
    let hold : (c.args.slips + 1) * (c.args.l.states * c.args.l.goals) ≤ 64 * (((c.args.slips + 1) * (c.args.l.states * c.args.l.goals) + 63) / 64) =
    omega arith in
    larger_full c.requires.fit c.args.slips c.loop-few.k c.loop-few.invariant.3 (64 * (((c.args.slips + 1) * (c.args.l.states * c.args.l.goals) + 63) / 64)) (hold)
    (omega (arith, c.loop-few-test.false, c.loop-few.invariant.2))
