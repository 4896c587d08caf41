-- `Place::advice` meets its contract: what reading refuses is refused; the plan's length is judged, then the place, then the entry's shape.
use Prim.Native.Nat.{ℕ}
use mathlib.Core.List.{List}
use mathlib.Core.Path.{◌≡◌, sym, ◌∙◌}
use native.Mathlib.Omega.{arith}
use lib.Arith.{digits_lt}
use Rattle.std.proofs.lemmas.Result.{err_from_is_err_and}
use Rattle.rules.specs.Plan.{entry}
use Rattle.game.specs.declared.entry.Entry.{Entry}
use Rattle.job.proofs.Asking.{few_states, few_goals, few_places}
use Rattle.job.proofs.Readings.{read_fit}
use Rattle.cabinet.proofs.Answering.{place_said, on_place, advice_refused, advice_short, advice_no_place, advice_shapeless, advice_says}
use Rattle.cabinet.proofs.place.Place.advice.Goals as goal

-- the entry that is read is the place's
there : (p : List ℕ) (i n : ℕ) (e : Entry) → i ≡ n → e ≡ entry p i → e ≡ entry p n
there p i n e m q = rw m at q

pub returns-in_err-l : goal.returns-in_err-l
returns-in_err-l c =
    let a = c.args in
    let p = err_from_is_err_and c.from_residual.result c.from_residual.ensures.1 in
    rw (p.1, p.2) (advice_refused a.job.now c.in_err-l.field-0.0 c.in_err-l.ensures a.plan.now a.self.state a.self.goal)

pub overflow_mul-places : goal.overflow_mul-places
overflow_mul-places c =
    let f = read_fit c.args.job.now c.in_ok-l.l c.in_ok-l.ensures in
    omega (arith, few_places f)

pub overflow_mul-places-2 : goal.overflow_mul-places-2
overflow_mul-places-2 c =
    let f = read_fit c.args.job.now c.in_ok-l.l c.in_ok-l.ensures in
    omega (arith, few_places f)

pub returns-then-plan-places : goal.returns-then-plan-places
returns-then-plan-places c =
    let f = read_fit c.args.job.now c.in_ok-l.l c.in_ok-l.ensures in
    advice_short f c.args.plan.now c.args.self.state c.args.self.goal c.if-plan-places.true

pub returns-then-not-is_of : goal.returns-then-not-is_of
returns-then-not-is_of c =
    let f = read_fit c.args.job.now c.in_ok-l.l c.in_ok-l.ensures in
    advice_no_place f c.args.plan.now c.args.self.state c.args.self.goal c.if-plan-places.false
    (place_said f _ _ ∙ sym c.is_of.ensures ∙ c.if-not-is_of.true)

pub overflow_cast-p : goal.overflow_cast-p
overflow_cast-p c =
    let f = read_fit c.args.job.now c.in_ok-l.l c.in_ok-l.ensures in
    omega (arith, few_states f, few_goals f, on_place f _ _ (sym c.is_of.ensures ∙ c.if-not-is_of.false))

pub overflow_cast-p-2 : goal.overflow_cast-p-2
overflow_cast-p-2 c =
    let f = read_fit c.args.job.now c.in_ok-l.l c.in_ok-l.ensures in
    omega (arith, few_states f, few_goals f, on_place f _ _ (sym c.is_of.ensures ∙ c.if-not-is_of.false))

pub overflow_cast-l : goal.overflow_cast-l
overflow_cast-l c =
    let f = read_fit c.args.job.now c.in_ok-l.l c.in_ok-l.ensures in
    omega (arith, few_goals f)

pub read_entry-e-requires : goal.read_entry-e-requires
read_entry-e-requires c =
    let f = read_fit c.args.job.now c.in_ok-l.l c.in_ok-l.ensures in
    let on = on_place f _ _ (sym c.is_of.ensures ∙ c.if-not-is_of.false) in
    omega (arith, c.entry_number.ensures, digits_lt on.0 on.1, c.if-plan-places.false)

pub returns-in-None : goal.returns-in-None
returns-in-None c =
    let f = read_fit c.args.job.now c.in_ok-l.l c.in_ok-l.ensures in
    advice_shapeless f c.args.plan.now c.args.self.state c.args.self.goal c.if-plan-places.false
    (place_said f _ _ ∙ sym c.is_of.ensures ∙ c.if-not-is_of.false)
    (there c.args.plan.now _ _ _ c.entry_number.ensures c.read_entry-e.ensures)
    c.in-None.ensures

pub returns-in-Some : goal.returns-in-Some
returns-in-Some c =
    let f = read_fit c.args.job.now c.in_ok-l.l c.in_ok-l.ensures in
    advice_says f c.args.plan.now c.args.self.state c.args.self.goal c.if-plan-places.false
    (place_said f _ _ ∙ sym c.is_of.ensures ∙ c.if-not-is_of.false)
    (there c.args.plan.now _ _ _ c.entry_number.ensures c.read_entry-e.ensures)
    c.in-Some.value c.in-Some.ensures
