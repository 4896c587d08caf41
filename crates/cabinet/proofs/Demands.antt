-- The three demands, over the promises of the calls for C, in the demands' order.
use Prim.Native.Nat.{ℕ, ◌≤◌}
use mathlib.Core.Bool.{Bool, true, false, cond, not}
use mathlib.Core.List.{List}
use mathlib.Core.Logic.{◌↔◌, ◌≢◌}
use mathlib.Core.Path.{◌≡◌, refl}
use borrow.Author.Tests.{eq-eqb, ne_eqb, lt-ltb, le-ltb}
use lib.Dec.{ltb, eqb}
use lib.ListN.{length}
use Rattle.game.specs.Game.{Play, last, Inside, Way, run, Obeys, Follows, Right}
use Rattle.rules.specs.Job.{place, places, entry_number, entered, start, recorded, record_number, arena}
use Rattle.rules.specs.Fault.{Fault, only}
use Rattle.rules.specs.Bytes.{fault, refusal, said}
use Rattle.rules.specs.Keeps.{Keeps}
use Rattle.rules.specs.Plan.{entry, room, shaped}
use Rattle.rules.specs.Calls.{Planning, refused, no_room, planned, refused_move, moved_by, moved_to, started, is_place, followed}
use Rattle.rules.specs.Calls.{refused_advice, advice_of, advised}
use Rattle.rules.specs.Answers as answers
use Rattle.game.specs.Demands.{ValueTold, WinningKept, PendingKept}
use Rattle.rules.specs.declared.place.Place.{Place}
use Rattle.rules.proofs.Numbers.{told}
use Rattle.rules.proofs.Planned.{entry_of, planned_exactly, planned_right}
use Rattle.labelling.proofs.Demands.{values_told, followable, followed_on, followed_wins, followed_hopes}

-- ---- 1. Bad input is refused by number, first fault first, and a refusal changes nothing.

-- the first number of the table that applies to planning, with its record, or 0
abbrev pub plan_fault : (b before : List ℕ) → Fault
plan_fault b before = cond (not (eqb (refusal b) 0)) (fault b) (cond (ltb (length before) (room (said b))) (only 7) (only 0))

-- Planning answers that number, and a refusal changes nothing in the plan buffer: without exception, whatever the number.
pub planning_refuses : {b before after : List ℕ} {f : Fault} → Planning b before f after
    → (f ≡ plan_fault b before) × ((f.number ≡ 0 → ⊥) → after ≡ before)
planning_refuses {b} (refused n) = (rw (ne_eqb (refusal b) 0 n), λ z. refl)
planning_refuses {b} {before} (no_room e l) = (rw (eq-eqb (refusal b) 0 e, lt-ltb (length before) (room (said b)) l), λ z. refl)
planning_refuses {b} {before} (planned e l p) =
    (rw (eq-eqb (refusal b) 0 e, le-ltb (length before) (room (said b)) l), λ z. absurd (z refl))

-- Every other figure of a refusal is 0, save that 12 and 13 name a record.
abbrev pub RecordClear : Fault → Type 0
RecordClear f = f.number ≢ 12 → f.number ≢ 13 → f.«record» ≡ 0

abbrev pub MovedClear : answers.MovedFigures → Type 0
MovedClear f = (f.refusal ≡ 0 → ⊥) → (f.state ≡ 0) × (f.goal ≡ 0) × (f.refusal ≢ 12 → f.refusal ≢ 13 → f.«record» ≡ 0)

abbrev pub AdvisedClear : answers.AdvisedFigures → Type 0
AdvisedClear f =
    (f.refusal ≡ 0 → ⊥) → (f.value ≡ 0) × (f.action ≡ 0) × (f.number ≡ 0) × (f.refusal ≢ 12 → f.refusal ≢ 13 → f.«record» ≡ 0)

pub planning_clear : {b before after : List ℕ} {f : Fault} → Planning b before f after → RecordClear f
planning_clear {b} (refused n) = (told b).no_record
planning_clear (no_room e l) = λ x y. refl
planning_clear (planned e l p) = λ x y. refl

past_move : (t : Bool) (f : Fault) (y : answers.MovedFigures) → RecordClear f → MovedClear y → MovedClear (cond t (refused_move f) y)
past_move true f y r h = λ z. (refl, refl, r)
past_move false f y r h = h

pub past_advice : (t : Bool) (f : Fault) (y : answers.AdvisedFigures) → RecordClear f → AdvisedClear y
    → AdvisedClear (cond t (refused_advice f) y)
past_advice true f y r h = λ z. (refl, refl, refl, r)
past_advice false f y r h = h

pub started_clear : (b : List ℕ) → MovedClear (started b)
started_clear b =
    past_move (not (eqb (refusal b) 0)) (fault b) (moved_to (start (said b))) (told b).no_record (λ z. absurd (z refl))

pub followed_clear : (b : List ℕ) (s q a t : ℕ) → MovedClear (followed b s q a t)
followed_clear b s q a t =
    let j = said b in
    let to = moved_by (record_number j s a t) (entered j q t) in
    let known = cond (not (recorded j s a t)) (refused_move (only 11)) to in
    past_move (not (eqb (refusal b) 0)) (fault b) (cond (not (is_place j s q)) (refused_move (only 9)) known) (told b).no_record
    (past_move (not (is_place j s q)) (only 9) known (λ x y. refl)
    (past_move (not (recorded j s a t)) (only 11) to (λ x y. refl) (λ z. absurd (z refl))))

pub advised_clear : (b p : List ℕ) (s q : ℕ) → AdvisedClear (advised b p s q)
advised_clear b p s q =
    let j = said b in
    let e = entry p (entry_number j.goals (place s q)) in
    let shape = shaped j.actions (places j) e in
    let known = cond (not shape) (refused_advice (only 10)) (advice_of e) in
    let at = cond (not (is_place j s q)) (refused_advice (only 9)) known in
    past_advice (not (eqb (refusal b) 0)) (fault b) (cond (ltb (length p) (room j)) (refused_advice (only 7)) at) (told b).no_record
    (past_advice (ltb (length p) (room j)) (only 7) at (λ x y. refl)
    (past_advice (not (is_place j s q)) (only 9) known (λ x y. refl)
    (past_advice (not shape) (only 10) (advice_of e) (λ x y. refl) (λ z. absurd (z refl)))))

-- ---- 2. A job is planned exactly when it keeps the rules and the plan has room; each value is the place's; every byte is fixed.

pub demand_2 : {b before after : List ℕ} {f : Fault} → Planning b before f after
    → ((f.number ≡ 0) ↔ (Keeps b × (room (said b) ≤ length before)))
    × (f.number ≡ 0 → (p : Place) → Inside (arena (said b)) p → Right (arena (said b)) p (entry_of b after p))
demand_2 p = (planned_exactly p, planned_right p)

-- ---- 3. Whoever follows the plan. (Following by the calls makes the moves of the game: `followed_listed` and `listed_followed` of
-- Starting.antt.)

module _ {b before after : List ℕ} (done : Planning b before (only 0) after) where
  -- the plan says of each place what the place is, and can be followed
  pub demand_3_values : (p : Place) → Inside (arena (said b)) p → ValueTold (arena (said b)) p (entry_of b after p)
  demand_3_values = values_told done

  pub demand_3_ways : (h : Play Place) → Inside (arena (said b)) (last h) → (σ : Way (arena (said b)))
      × Follows (arena (said b)) (entry_of b after) σ h
  demand_3_ways = followable done

  -- after any play h, for whoever follows the plan from there on; `demand_3_on`: in mid-run it is followed still, so that all of this holds
  -- there too
  module _ (σ : Way (arena (said b))) (h : Play Place) (follows : Follows (arena (said b)) (entry_of b after) σ h)
      (i : Inside (arena (said b)) (last h)) where
    pub demand_3_on : (o : ℕ → Place) → Obeys (arena (said b)) σ o h → (n : ℕ)
        → Follows (arena (said b)) (entry_of b after) σ (run (arena (said b)) σ o h n)
        × Inside (arena (said b)) (last (run (arena (said b)) σ o h n))
    demand_3_on = followed_on done σ h follows i

    pub demand_3_winning : (entry_of b after (last h)).value ≡ 2 → WinningKept (arena (said b)) (entry_of b after) σ h
    demand_3_winning = followed_wins done σ h follows i

    pub demand_3_pending : (entry_of b after (last h)).value ≡ 1 → PendingKept (arena (said b)) (entry_of b after) σ h
    demand_3_pending = followed_hopes done σ h follows i
