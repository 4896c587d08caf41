-- `fits_state` meets its contract: every entry passed may stand where it stands.
use mathlib.Core.Path.{◌≡◌, refl, sym, ◌∙◌}
use native.Mathlib.Omega.{arith}
use lib.Arith.{digits_lt}
use Rattle.job.proofs.Asking.{few_places, some_goals, few_goals}
use Rattle.checking.proofs.Judging.{all_none, all_more, until_fail, until_end}
use Rattle.checking.proofs.entries.fits_state.Goals as goal

pub overflow_mul-first : goal.overflow_mul-first
overflow_mul-first c =
    let p = c.requires in
    omega (arith, few_places p.fit, digits_lt p.state (some_goals p.fit))

pub loop-q-init : goal.loop-q-init
loop-q-init c = all_none (omega arith)

pub fits_place-requires : goal.fits_place-requires
fits_place-requires c =
    record {
      ready = c.requires;
      q_lt_goals = c.loop-q-test.true;
    }

pub loop-q-preserved : goal.loop-q-preserved
loop-q-preserved c =
    all_more c.loop-q.invariant (sym c.fits_place.ensures ∙ c.if-not-fits_place.false) (omega arith)

pub overflow_add-result : goal.overflow_add-result
overflow_add-result c =
    let p = c.requires in
    omega (arith, few_places p.fit, digits_lt p.state c.loop-q-test.true)

pub returns-then-not-fits_place : goal.returns-then-not-fits_place
returns-then-not-fits_place c =
    until_fail c.loop-q.invariant (omega arith) (omega arith) (sym c.fits_place.ensures ∙ c.if-not-fits_place.true)

pub overflow_add-result-2 : goal.overflow_add-result-2
overflow_add-result-2 c =
    let p = c.requires in
    omega (arith, few_places p.fit, digits_lt p.state (some_goals p.fit), few_goals p.fit)

pub returns : goal.returns
returns c =
    let e : c.loop-q.q ≡ c.args.l.goals = omega arith in
    until_end (rw e at c.loop-q.invariant) (omega arith) refl
