-- The class of a job from what was read and planned of it.
use Prim.Native.Nat.{ℕ, ◌+◌, ◌*◌, ◌≤◌}
use mathlib.Core.List.{List}
use mathlib.Core.Path.{◌≡◌, refl, sym, ap, subst, ◌∙◌}
use native.Mathlib.Omega.{arith}
use lib.ListN.{length}
use Rattle.std.specs.Prelude.{Err}
use Rattle.game.specs.declared.entry.Entry.{Entry}
use Rattle.rules.specs.Job.{entry_number, entered, start}
use Rattle.rules.specs.Fault.{Fault, only}
use Rattle.rules.specs.Bytes.{refusal, said}
use Rattle.rules.specs.Answers.{refusal_fault}
use Rattle.rules.specs.Plan.{entry}
use Rattle.rules.specs.Calls.{Planning}
use Rattle.rules.specs.declared.answer.Refusal.{Refusal}
use Rattle.rules.specs.declared.place.Place.{Place}
use Rattle.rules.proofs.Arenas.{start_inside}
use Rattle.rules.proofs.Figures.{refusal_some}
use Rattle.rules.proofs.Kept.{kept, places_few}
use Rattle.rules.proofs.Planned.{planned_exactly, planned_long, planned_right}
use Rattle.job.specs.Layout.{Fit}
use Rattle.job.specs.Reading.{reading, reading_figures}
use Rattle.job.specs.declared.layout.Layout.{Layout}
use Rattle.job.proofs.Asking.{goals_said, places_said, start_said, first_state, first_goal_state, entry_below}
use Rattle.job.proofs.Readings.{read_refused}
use Rattle.totals.specs.Classes.{entry_room, Falls, RefusedFor, refused, by_number, started_class}
use Rattle.totals.specs.declared.class.Class.{Class}
use Rattle.totals.proofs.Falling.{right_falls}

-- what reading refuses falls in the class of its number
pub read_refuses : (b : List ℕ) (r : Refusal) → length b ≤ entry_room → reading_figures (Err r) ≡ reading b → RefusedFor b r
read_refuses b r h e =
    let same : refusal b ≡ (refusal_fault r).number = ap (λ (f : Fault). f.number) (read_refused b r e) in
    refused (by_number h same) (λ o. omega (arith, (refusal_some r).1))

module _ {b : List ℕ} {l : Layout} (f : Fit b l) {own own' : List ℕ} where
  -- a job that was read is planned where there is room for every plan
  pub never_refused : (r : Refusal) → Planning b own (refusal_fault r) own' → 65536 ≤ length own → ⊥
  never_refused r d long =
      omega (arith, (planned_exactly d).1 (f.keeps, omega (arith, places_few f.keeps)), (refusal_some r).1)

  module _ (d : Planning b own (only 0) own') {p : Place} (here : p ≡ entered (said b) l.first_goal l.first) {i : ℕ}
      (at : i ≡ entry_number l.goals p) where
    -- the starting place's entry is one of the plan's
    pub entry_there : 4 * i + 4 ≤ length own'
    entry_there =
        let e : entry_number l.goals p ≡ l.first * l.goals + (entered (said b) l.first_goal l.first).goal =
        ap (entry_number l.goals) here in
        omega (arith, at, e, entry_below f (first_goal_state f) (first_state f), places_said f, planned_long d refl)

    pub class_planned : length b ≤ entry_room → {e : Entry} {c : Class} → e ≡ entry own' i → c ≡ started_class e → Falls b c
    class_planned h {e} {c} is made =
        let j = said b in
        let number : i ≡ entry_number j.goals (start j) =
        at ∙ (λ k. entry_number (goals_said f k) ((here ∙ start_said f) k)) in
        let there : e ≡ entry own' (entry_number j.goals (start j)) = is ∙ ap (entry own') number in
        let right = planned_right d refl (start j) (start_inside b f.keeps) in
        subst (Falls b) (sym (made ∙ ap started_class there))
        (right_falls (record { short = h; sound = (kept b).1 f.keeps }) right)
