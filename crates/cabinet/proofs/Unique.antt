-- Two results that one promise allows are the same, for each of the calls for C and for the methods.
use Prim.Native.Nat.{ℕ}
use mathlib.Core.List.{List}
use mathlib.Core.Path.{◌≡◌, refl, sym, ◌∙◌}
use Rattle.std.specs.Prelude.{Result, Ok, Err}
use Rattle.rules.specs.Fault.{Fault}
use Rattle.rules.specs.Calls.{Planning, started, followed, advised}
use Rattle.rules.specs.Answers as answers
use Rattle.rules.proofs.Figures.{known_by, by_refusal, by_refusal_back}
use Rattle.rules.proofs.Unique.{planning_unique}
use Rattle.cabinet.specs.Figures.{figures_planned, moved_figures, figures_moved, figures_advised}
use Rattle.rules.specs.declared.answer.Refusal.{Refusal}
use Rattle.cabinet.specs.declared.place.Moved.{Moved}
use Rattle.cabinet.specs.declared.calls.PlannedFigures.{PlannedFigures}
use Rattle.cabinet.specs.declared.calls.MovedFigures.{MovedFigures}
use Rattle.cabinet.specs.declared.calls.AdvisedFigures.{AdvisedFigures}

-- ---- what is answered is known by its figures

pub figures_moved_known : (f f' : MovedFigures) → figures_moved f ≡ figures_moved f' → f ≡ f'
figures_moved_known =
    known_by figures_moved (λ f. record { refusal = f.refusal; state = f.state; goal = f.goal; «record» = f.«record» }) (λ f. refl)

pub figures_advised_known : (f f' : AdvisedFigures) → figures_advised f ≡ figures_advised f' → f ≡ f'
figures_advised_known =
    known_by figures_advised
    (λ f. record { refusal = f.refusal; value = f.value; action = f.action; number = f.number; «record» = f.«record» })
    (λ f. refl)

abbrev moved_of : answers.MovedFigures → Result Moved Refusal
moved_of f = by_refusal f.refusal f.«record» (Ok (record { place = record { state = f.state; goal = f.goal }; «record» = f.«record» })) Err

moved_back : (r : Result Moved Refusal) → moved_of (moved_figures r) ≡ r
moved_back (Ok m) = refl
moved_back (Err r) = by_refusal_back r _ Err

pub moved_known : (r s : Result Moved Refusal) → moved_figures r ≡ moved_figures s → r ≡ s
moved_known = known_by moved_figures moved_of moved_back

-- ---- the calls for C

pub plan_unique : {b before after after' : List ℕ} (r r' : PlannedFigures) → Planning b before (figures_planned r) after
    → Planning b before (figures_planned r') after' → (r ≡ r') × (after ≡ after')
plan_unique r r' p p' =
    let (e, a) = planning_unique p p' in
    (known_by figures_planned (λ (f : Fault). record { refusal = f.number; «record» = f.«record» }) (λ f. refl) r r' e, a)

pub start_unique : (b : List ℕ) (r r' : MovedFigures) → figures_moved r ≡ started b → figures_moved r' ≡ started b → r ≡ r'
start_unique b r r' e e' = figures_moved_known r r' (e ∙ sym e')

pub follow_unique : (b : List ℕ) (s q a t : ℕ) (r r' : MovedFigures) → figures_moved r ≡ followed b s q a t
    → figures_moved r' ≡ followed b s q a t → r ≡ r'
follow_unique b s q a t r r' e e' = figures_moved_known r r' (e ∙ sym e')

pub advice_unique : (b p : List ℕ) (s q : ℕ) (r r' : AdvisedFigures) → figures_advised r ≡ advised b p s q
    → figures_advised r' ≡ advised b p s q → r ≡ r'
advice_unique b p s q r r' e e' = figures_advised_known r r' (e ∙ sym e')

-- ---- the methods: starting and following; `advised_unique` of the rules says it of advice

pub moved_unique : (f : answers.MovedFigures) (r r' : Result Moved Refusal) → moved_figures r ≡ f → moved_figures r' ≡ f → r ≡ r'
moved_unique f r r' e e' = moved_known r r' (e ∙ sym e')
