-- What advice on plans for slips of the arm answers, by the tests that were made.
use Prim.Native.Nat.{ℕ, suc, ◌+◌, ◌*◌, ◌≤◌, ◌<◌}
use mathlib.Core.Bool.{true, false}
use mathlib.Core.List.{List}
use mathlib.Core.Path.{◌≡◌, ap, ◌∙◌}
use native.Mathlib.Numerals.{add-one}
use native.Mathlib.Omega.{arith}
use borrow.Author.Tests.{ne_eqb, lt-ltb, le-ltb}
use lib.Arith.{digits_lt}
use lib.Dec.{ltb}
use lib.ListN.{length}
use Rattle.std.specs.Prelude.{Option, Some, None, Ok, Err}
use Rattle.rules.specs.Job.{place, places}
use Rattle.rules.specs.Bytes.{refusal, said}
use Rattle.rules.specs.Plan.{entry, shaped}
use Rattle.rules.specs.Fault.{only}
use Rattle.rules.specs.Answers.{refusal_fault, advised_figures, ShapeOf}
use Rattle.rules.specs.Calls.{refused_advice, advice_of}
use Rattle.rules.specs.declared.answer.Refusal.{Refusal}
use Rattle.rules.specs.declared.answer.Value.{Value}
use Rattle.game.specs.declared.entry.Entry.{Entry}
use Rattle.rules.proofs.Kept.{kept}
use Rattle.job.specs.Layout.{Fit}
use Rattle.job.specs.Reading.{reading, reading_figures}
use Rattle.job.specs.declared.layout.Layout.{Layout}
use Rattle.job.proofs.Asking.{states_said, actions_said, goals_said, places_said}
use Rattle.job.proofs.Readings.{read_refused, read_refused_some}
use Rattle.larger.specs.Larger.{larger}
use Rattle.larger.specs.Plans.{larger_number, larger_places, larger_room}
use Rattle.larger.specs.Calls.{is_larger, advised_slips}
use Rattle.trembling.proofs.Planning.{room_said}

-- the number of a larger place is below their count
pub larger_below : (K k : ℕ) {s q states goals : ℕ} → k ≤ K → s < states → q < goals
    → k * (states * goals) + (s * goals + q) < (K + 1) * (states * goals)
larger_below K k h hs hq = let l : k < K + 1 = omega arith in digits_lt l (digits_lt hs hq)

-- reading refused
pub slips_refused : (b : List ℕ) (r : Refusal) → reading_figures (Err r) ≡ reading b
    → (K : ℕ) (p : List ℕ) (s q k : ℕ) → refused_advice (refusal_fault r) ≡ advised_slips b K p s q k
slips_refused b r e K p s q k = rw (ne_eqb (refusal b) 0 (read_refused_some b r e), read_refused b r e)

module _ {b : List ℕ} {l : Layout} (f : Fit b l) (K : ℕ) (p : List ℕ) (s q k : ℕ) where
  sound : refusal b ≡ 0
  sound = (kept b).1 f.keeps

  pub slips_many : 3 < K → refused_advice (only 18) ≡ advised_slips b K p s q k
  slips_many h = rw (sound, lt-ltb 3 K h)

  module _ (few : K ≤ 3) where
    pub slips_short : length p < 4 * ((K + 1) * (l.states * l.goals)) → refused_advice (only 7) ≡ advised_slips b K p s q k
    slips_short h =
        let e = room_said f K in
        rw (sound, le-ltb 3 K few, lt-ltb (length p) (larger_room (said b) K) (omega arith))

    module _ (h : 4 * ((K + 1) * (l.states * l.goals)) ≤ length p) where
      long : ltb (length p) (larger_room (said b) K) ≡ false
      long = let e = room_said f K in le-ltb (length p) (larger_room (said b) K) (omega arith)

      -- whether s, q, k is a larger place
      no_larger : is_larger (said b) K s q k ≡ false → refused_advice (only 9) ≡ advised_slips b K p s q k
      no_larger i = rw (sound, le-ltb 3 K few, long, i)

      pub slips_no_state : l.states ≤ s → refused_advice (only 9) ≡ advised_slips b K p s q k
      slips_no_state g = no_larger (rw (le-ltb s (said b).states (rw (states_said f) at g)))

      module _ (hs : s < l.states) where
        pub slips_no_goal : l.goals ≤ q → refused_advice (only 9) ≡ advised_slips b K p s q k
        slips_no_goal g =
            no_larger (rw (lt-ltb s (said b).states (rw (states_said f) at hs), le-ltb q (said b).goals (rw (goals_said f) at g)))

        module _ (hq : q < l.goals) where
          pub slips_not_left : K < k → refused_advice (only 9) ≡ advised_slips b K p s q k
          slips_not_left g =
              no_larger
              (rw (
                lt-ltb s (said b).states (rw (states_said f) at hs),
                lt-ltb q (said b).goals (rw (goals_said f) at hq),
                le-ltb k (suc K) (omega arith),
              ))

          -- e was read as the entry of the larger place
          module _ (hk : k ≤ K) {e : Entry} (r : e ≡ entry p (k * (l.states * l.goals) + (s * l.goals + q))) where
            is_one : is_larger (said b) K s q k ≡ true
            is_one =
                rw (
                  lt-ltb s (said b).states (rw (states_said f) at hs),
                  lt-ltb q (said b).goals (rw (goals_said f) at hq),
                  lt-ltb k (suc K) (omega arith),
                )

            abbrev there : Entry
            there = entry p (larger_number (said b) (larger k (place s q)))

            is_there : e ≡ there
            is_there =
                r ∙ ap (λ (n : ℕ). entry p (k * n + (s * l.goals + q))) (places_said f)
                ∙ ap (λ (n : ℕ). entry p (k * places (said b) + (s * n + q))) (goals_said f)

            shape_said : shaped (said b).actions (larger_places (said b) K) there
                ≡ shaped l.actions ((K + 1) * (l.states * l.goals)) e
            shape_said = rw (actions_said f, places_said f, is_there, add-one K)

            -- its shape, x, was matched
            pub slips_shapeless : {x : Option Value} → x ≡ None → ShapeOf l.actions ((K + 1) * (l.states * l.goals)) e x
                → refused_advice (only 10) ≡ advised_slips b K p s q k
            slips_shapeless m g = let n = rw m at g in rw (sound, le-ltb 3 K few, long, is_one, shape_said, n)

            pub slips_says : {x : Option Value} {v : Value} → x ≡ Some v → ShapeOf l.actions ((K + 1) * (l.states * l.goals)) e x
                → advised_figures (Ok (record { value = v; action = e.action; number = e.number })) ≡ advised_slips b K p s q k
            slips_says m g =
                let (y, n) = rw m at g in rw (sound, le-ltb 3 K few, long, is_one, shape_said, y, ← n) (ap advice_of is_there)
