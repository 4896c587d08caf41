-- `all_rounds` meets its contract: each turn of the loop makes one round, and the size of the set tells whether it added a place. Fewer places are
-- then not yet in the set, so that the loop ends.
use Prim.Native.Nat.{◌*◌, ◌≤◌, ◌<◌}
use mathlib.Core.Path.{refl, sym, ◌∙◌}
use native.Mathlib.Omega.{arith}
use Rattle.rules.specs.Bytes.{said}
use Rattle.sets.specs.Sets.{member}
use Rattle.sets.proofs.Sizes.{count_within}
use Rattle.job.proofs.Asking.{few_places, places_said}
use Rattle.phases.specs.Rounds.{NonePast}
use Rattle.phases.proofs.Settling.{going_none, going_more, going_grows, going_past, going_stop}
use Rattle.labelling.proofs.rounds.all_rounds.Goals as goal

pub loop-few-init : goal.loop-few-init
loop-few-init c = (omega arith, refl, c.len_in-few.ensures, c.requires.none_past, going_none _ _ _ _)

pub overflow_add-k : goal.overflow_add-k
overflow_add-k c =
    let few-enough : c.loop-few.few ≤ c.args.l.states * c.args.l.goals =
    let u = c.words_for-used.result in
    omega (
      arith,
      c.loop-few.invariant.2,
      count_within (member c.loop-few.got.words) _ (64 * u) c.loop-few.invariant.3,
      places_said c.requires.fit,
    ) in
    omega (arith, c.loop-few.invariant.0, few-enough, few_places c.requires.fit)

pub overflow_cast-k : goal.overflow_cast-k
overflow_cast-k c =
    let few-enough : c.loop-few.few ≤ c.args.l.states * c.args.l.goals =
    let u = c.words_for-used.result in
    omega (
      arith,
      c.loop-few.invariant.2,
      count_within (member c.loop-few.got.words) _ (64 * u) c.loop-few.invariant.3,
      places_said c.requires.fit,
    ) in
    omega (arith, c.loop-few.invariant.0, few-enough, few_places c.requires.fit)

pub returns-then-more-few : goal.returns-then-more-few
returns-then-more-few c =
    going_stop c.requires.fit c.loop-few.invariant.4 c.one_round-next.ensures _
    c.words_for-used.ensures.0 (sym c.len_in-more.ensures ∙ c.if-more-few.true ∙ c.loop-few.invariant.2)

pub overflow_add-k-in-loop-few : goal.overflow_add-k-in-loop-few
overflow_add-k-in-loop-few c =
    let few-enough : c.loop-few.few ≤ c.args.l.states * c.args.l.goals =
    let u = c.words_for-used.result in
    omega (
      arith,
      c.loop-few.invariant.2,
      count_within (member c.loop-few.got.words) _ (64 * u) c.loop-few.invariant.3,
      places_said c.requires.fit,
    ) in
    omega (arith, c.loop-few.invariant.0, few-enough, few_places c.requires.fit)

pub loop-few-smaller : goal.loop-few-smaller
loop-few-smaller c =
    let more : (c.loop-few.few < c.len_in-more.result) × NonePast (said c.args.job.now) c.one_round-next.result.words =
    let u = c.words_for-used.result in (
      omega (arith, c.loop-few.invariant.2, c.len_in-more.ensures, c.if-more-few.false, going_grows c.requires.fit c.loop-few.invariant.4 c.one_round-next.ensures (64 * u)),
      going_past c.requires.fit c.loop-few.invariant.4 c.one_round-next.ensures c.loop-few.invariant.3,
    ) in
    let u = c.words_for-used.result in
    omega (
      arith,
      (more).0,
      c.len_in-more.ensures,
      count_within (member c.one_round-next.result.words) _ (64 * u) (more).1,
      places_said c.requires.fit,
    )

pub loop-few-preserved : goal.loop-few-preserved
loop-few-preserved c =
    let more : (c.loop-few.few < c.len_in-more.result) × NonePast (said c.args.job.now) c.one_round-next.result.words =
    let u = c.words_for-used.result in (
      omega (arith, c.loop-few.invariant.2, c.len_in-more.ensures, c.if-more-few.false, going_grows c.requires.fit c.loop-few.invariant.4 c.one_round-next.ensures (64 * u)),
      going_past c.requires.fit c.loop-few.invariant.4 c.one_round-next.ensures c.loop-few.invariant.3,
    ) in (
      omega (arith, c.loop-few.invariant.0, (more).0),
      omega (arith, c.loop-few.invariant.1, c.one_round-next.ensures.as_long),
      c.len_in-more.ensures,
      (more).1,
      going_more c.requires.fit c.loop-few.invariant.4 c.one_round-next.ensures,
    )
