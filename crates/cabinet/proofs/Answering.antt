-- What each call answers, by the tests that were made: of bytes that are refused, and of bytes that keep the rules, in the figures of their
-- layout.
use Prim.Native.Nat.{ℕ, ◌+◌, ◌*◌, ◌≤◌, ◌<◌}
use mathlib.Core.Bool.{true, false, ◌&&◌}
use mathlib.Core.List.{List}
use mathlib.Core.Path.{◌≡◌, sym, ap, ◌∙◌}
use borrow.Author.Tests.{ne_eqb, lt-ltb, le-ltb}
use Rattle.game.proofs.Tests.{and_iff, ltb_iff}
use lib.Dec.{ltb, eqb}
use lib.ListN.{length}
use Rattle.rules.specs.Job.{place, places, entry_number, entered, record_number}
use Rattle.rules.specs.Fault.{only}
use Rattle.rules.specs.Bytes.{refusal, said}
use Rattle.rules.specs.Plan.{entry, room, shaped}
use Rattle.rules.specs.Answers.{MovedFigures, refusal_fault, advised_figures, ShapeOf}
use Rattle.rules.specs.Calls.{refused_move, moved_by, moved_to, started, is_place, followed, refused_advice, advice_of, advised}
use Rattle.rules.specs.declared.answer.Refusal.{Refusal}
use Rattle.rules.specs.declared.answer.Value.{Value}
use Rattle.game.specs.declared.entry.Entry.{Entry}
use Rattle.std.specs.Prelude.{Some, None, Result, Ok, Err}
use Rattle.rules.proofs.Kept.{kept}
use Rattle.rules.proofs.Recorded.{match_iff, number_matches, matches_alone}
use Rattle.job.specs.Found.{FoundOf}
use Rattle.job.specs.Layout.{Fit}
use Rattle.job.specs.Reading.{reading, reading_figures}
use Rattle.job.specs.declared.layout.Layout.{Layout}
use Rattle.job.proofs.Asking.{states_said, actions_said, goals_said, records_said, places_said, start_said, found_below}
use Rattle.job.proofs.Readings.{read_fit, read_refused, read_refused_some}

-- ---- what reading answered

pub was_read : (b : List ℕ) {x : Result Layout Refusal} {l : Layout} → x ≡ Ok l → reading_figures x ≡ reading b → Fit b l
was_read b {l = l} i e = read_fit b l (ap reading_figures (sym i) ∙ e)

module _ (b : List ℕ) (r : Refusal) (answer : reading_figures (Err r) ≡ reading b) where
  faulty : eqb (refusal b) 0 ≡ false
  faulty = ne_eqb (refusal b) 0 (read_refused_some b r answer)

  pub start_refused : refused_move (refusal_fault r) ≡ started b
  start_refused = rw (faulty, read_refused b r answer)

  pub follow_refused : (s q a t : ℕ) → refused_move (refusal_fault r) ≡ followed b s q a t
  follow_refused s q a t = rw (faulty, read_refused b r answer)

  pub advice_refused : (p : List ℕ) (s q : ℕ) → refused_advice (refusal_fault r) ≡ advised b p s q
  advice_refused p s q = rw (faulty, read_refused b r answer)

-- ---- the bytes keep the rules

module _ {b : List ℕ} {l : Layout} (f : Fit b l) where
  sound : refusal b ≡ 0
  sound = (kept b).1 f.keeps

  pub start_fit : {y : MovedFigures} → y ≡ moved_to (entered (said b) l.first_goal l.first) → y ≡ started b
  start_fit e = rw sound (e ∙ ap moved_to (start_said f))

  -- whether s, q is a place
  module _ (s q : ℕ) where
    pub place_said : is_place (said b) s q ≡ (ltb s l.states && ltb q l.goals)
    place_said = rw (← states_said f, ← goals_said f)

    pub on_place : (ltb s l.states && ltb q l.goals) ≡ true → (s < l.states) × (q < l.goals)
    on_place = (and_iff (ltb_iff s l.states) (ltb_iff q l.goals)).0

  module _ (s q a t : ℕ) where
    pub follow_no_place : is_place (said b) s q ≡ false → refused_move (only 9) ≡ followed b s q a t
    follow_no_place p = rw (sound, p)

    -- what looking for the record answered
    pub follow_unknown : is_place (said b) s q ≡ true → FoundOf (said b) s a t None → refused_move (only 11) ≡ followed b s q a t
    follow_unknown p n = rw (sound, p, n)

    pub follow_moves : is_place (said b) s q ≡ true → {k : ℕ} → FoundOf (said b) s a t (Some k)
        → {y : MovedFigures} → y ≡ moved_by k (entered (said b) q t) → y ≡ followed b s q a t
    follow_moves p {k = k} h e =
        let (y, l, r) = h in
        let same : k ≡ record_number (said b) s a t =
        matches_alone f.keeps ((match_iff (said b) s a t k).0 (l, r)) (number_matches (said b) s a t y) in
        rw (sound, p, y) (e ∙ ap (λ (n : ℕ). moved_by n (entered (said b) q t)) same)

  -- the number of a record that was found is one of the job's
  pub record_below : (s a t : ℕ) {k : ℕ} → FoundOf (said b) s a t (Some k) → k < l.records
  record_below s a t h = let (y, i, r) = h in rw (records_said f) i

  -- the outcome of a record that was found is a state
  pub outcome_state : (s a t : ℕ) {k : ℕ} → FoundOf (said b) s a t (Some k) → t < l.states
  outcome_state s a t h = let (y, l, r) = h in found_below f s a t l r

  module _ (p : List ℕ) (s q : ℕ) where
    pub advice_short : length p < 4 * (l.states * l.goals) → refused_advice (only 7) ≡ advised b p s q
    advice_short h = rw (sound, lt-ltb (length p) (room (said b)) (rw (places_said f) at h))

    module _ (h : 4 * (l.states * l.goals) ≤ length p) where
      long : ltb (length p) (room (said b)) ≡ false
      long = le-ltb (length p) (room (said b)) (rw (places_said f) at h)

      pub advice_no_place : is_place (said b) s q ≡ false → refused_advice (only 9) ≡ advised b p s q
      advice_no_place i = rw (sound, long, i)

      -- e was read as the entry of the place
      module _ (i : is_place (said b) s q ≡ true) {e : Entry} (r : e ≡ entry p (s * l.goals + q)) where
        abbrev there : Entry
        there = entry p (entry_number (said b).goals (place s q))

        is_there : e ≡ there
        is_there = r ∙ ap (λ (n : ℕ). entry p (s * n + q)) (goals_said f)

        shape_said : shaped (said b).actions (places (said b)) there ≡ shaped l.actions (l.states * l.goals) e
        shape_said = rw (actions_said f, places_said f, is_there)

        -- its shape
        pub advice_shapeless : ShapeOf l.actions (l.states * l.goals) e None → refused_advice (only 10) ≡ advised b p s q
        advice_shapeless n = rw (sound, long, i, shape_said, n)

        pub advice_says : (v : Value) → ShapeOf l.actions (l.states * l.goals) e (Some v)
            → advised_figures (Ok (record { value = v; action = e.action; number = e.number })) ≡ advised b p s q
        advice_says v h = let (y, n) = h in rw (sound, long, i, shape_said, y, ← n) (ap advice_of is_there)
