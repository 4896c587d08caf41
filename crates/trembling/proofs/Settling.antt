-- The larger places of a job are numbered, and what labelling them leaves.
use Prim.Native.Nat.{ℕ, suc, ◌+◌, ◌*◌, ◌/◌, ◌%◌, ◌≤◌, ◌<◌}
use mathlib.Core.Bool.{Bool, and-true, or-false}
use mathlib.Core.List.{List}
use mathlib.Core.Path.{◌≡◌, ap, ap₂, ◌∙◌, subst}
use native.Mathlib.Nat.{mod-lt, mul-le-mul}
use native.Mathlib.Numerals.{add-one}
use native.Mathlib.Omega.{arith}
use lib.Arith.{digits_lt, digits_div, digits_mod}
use lib.Dec.{ltb}
use Rattle.sets.specs.Sets.{member, count}
use Rattle.game.specs.Game.{Lawful}
use Rattle.rules.specs.Job.{Job, place, places, entry_number, arena}
use Rattle.rules.specs.Bytes.{said}
use Rattle.rules.specs.declared.place.Place.{Place}
use Rattle.game.specs.declared.entry.Entry.{Entry}
use Rattle.rules.proofs.Arenas.{inside_iff, arena_lawful}
use Rattle.rules.proofs.Rows.{row_of}
use Rattle.job.specs.Layout.{Fit, layout}
use Rattle.job.specs.declared.layout.Layout.{Layout}
use Rattle.job.proofs.Asking.{places_said}
use Rattle.phases.specs.declared.phase.Phase.{Phase}
use Rattle.phases.proofs.Passes.{between_zero}
use Rattle.phases.proofs.Holding.{place_inside, number_place}
use Rattle.phases.proofs.Steps.{first_says, wins_by, wins_says}
use Rattle.larger.specs.Larger.{Larger, larger}
use Rattle.larger.specs.Plans.{larger_arena, larger_number, larger_places}
use Rattle.trembling.specs.Round.{larger_at, Passed, BegunAll}
use Rattle.trembling.specs.Held.{Numbered, Held, Settled, SettlesLarger, Labelled}
use Rattle.larger.proofs.Slipping.{inside_slipping, slipping_lawful}
use Rattle.larger.proofs.Layers.{number_below}
use Rattle.trembling.proofs.Holding.{Going, RoundOf, going_none, going_more, going_grows, going_stop, going_full}
use Rattle.trembling.proofs.Holding.{settled_empty, held_rest, held_right}

-- ---- each larger place has its number

pub larger_numbered : (j : Job) (K : ℕ) → Lawful (arena j) → 0 < j.goals → 0 < places j
    → Numbered (larger_arena j K) (larger_places j K) (larger_at j.goals (places j)) (larger_number j)
larger_numbered j K L some many =
    record {
      inside = λ x h.
          let k : x / places j < suc K = row_of many x h in
          (inside_slipping (arena j) K (larger_at j.goals (places j) x)).1
          (place_inside j some (x % places j) (mod-lt x many), omega arith);
      below = number_below j L K;
      back = λ x i.
          let (h, k) = (inside_slipping (arena j) K x).0 i in
          let (hs, hq) = (inside_iff j x.at).0 h in
          let l : entry_number j.goals x.at < places j = digits_lt hs hq in
          ap₂ larger (digits_div x.slips l)
          (ap (λ (r : ℕ). place (r / j.goals) (r % j.goals)) (digits_mod x.slips l) ∙ number_place x.at hq);
    }

abbrev pub GoingLarger : (j : Job) (K : ℕ) → Phase → (ws₀ plan₀ : List ℕ) → ℕ → (ws plan : List ℕ) → Type 0
GoingLarger j K = Going (larger_arena j K) (larger_places j K) (larger_at j.goals (places j))

pub larger_none : (j : Job) (K : ℕ) (v : Phase) (ws plan : List ℕ) → GoingLarger j K v ws plan 0 ws plan
larger_none j K = going_none (larger_arena j K) (larger_places j K) (larger_at j.goals (places j))

-- ---- the bytes that keep the rules

module _ {b : List ℕ} {l : Layout} (t : Fit b l) (K : ℕ) where
  lawful_larger : Lawful (larger_arena (said b) K)
  lawful_larger = slipping_lawful (arena (said b)) (arena_lawful b t.keeps) K

  numbered : Numbered (larger_arena (said b) K) (larger_places (said b) K) (larger_at (said b).goals (places (said b))) (larger_number (said b))
  numbered = larger_numbered (said b) K (arena_lawful b t.keeps) t.keeps.some_goals (mul-le-mul t.keeps.some_states t.keeps.some_goals)

  -- the count of larger places, in the layout's figures
  few : {room : ℕ} → (K + 1) * (l.states * l.goals) ≤ room → larger_places (said b) K ≤ room
  few {room} h = subst (λ n. n * places (said b) ≤ room) (add-one K) (subst (λ n. (K + 1) * n ≤ room) (places_said t) h)

  -- round 0
  pub held_begin : {plan ws plan' : List ℕ} → BegunAll b l ((K + 1) * (l.states * l.goals)) plan ws plan'
      → Held (larger_arena (said b) K) (larger_places (said b) K) (larger_at (said b).goals (places (said b))) (larger_arena (said b) K).accepted
      (first_says (larger_arena (said b) K)) plan ws plan'
  held_begin {plan} {ws} {plan'} r =
      go (subst (λ n. BegunAll b (layout b) (n * places (said b)) plan ws plan') (add-one K)
      (subst (λ (m : Layout). BegunAll b m ((K + 1) * (m.states * m.goals)) plan ws plan') t.is_layout r))
    where
      go : BegunAll b (layout b) (larger_places (said b) K) plan ws plan'
          → Held (larger_arena (said b) K) (larger_places (said b) K) (larger_at (said b).goals (places (said b)))
          (larger_arena (said b) K).accepted (first_says (larger_arena (said b) K)) plan ws plan'
      go (ws0, words, none, a) =
          record {
            words = a.as_many ∙ words;
            as_long = a.as_long;
            members = λ x. a.joins x ∙ rw (none x, between_zero (larger_places (said b) K) x) (or-false _);
            bytes =
                λ y. a.bytes y
                ∙ rw (between_zero (larger_places (said b) K) (y / 4), and-true (ltb (y / 4) (larger_places (said b) K)));
          }

  -- the loop of rounds
  abbrev RoundLarger : Phase → ℕ → (ws plan ws' plan' : List ℕ) → Type 0
  RoundLarger =
      RoundOf (larger_arena (said b) K) (larger_places (said b) K) (larger_at (said b).goals (places (said b))) (larger_number (said b))

  -- what naming an action leads to is the same whatever the most slips
  of_phase : (v : Phase) (n : ℕ) {ws plan ws' plan' : List ℕ}
      → Passed b (layout b) v n ws 0 (larger_places (said b) K) ws plan ws' plan' → RoundLarger v n ws plan ws' plan'
  of_phase Phase.Winning n r = r
  of_phase Phase.Pending n r = r

  module _ {v : Phase} {ws₀ plan₀ ws plan ws' plan' : List ℕ} (k : ℕ) (g : GoingLarger (said b) K v ws₀ plan₀ k ws plan)
      (r : Passed b l v (k + 1) ws 0 ((K + 1) * (l.states * l.goals)) ws plan ws' plan') where
    round_said : RoundLarger v (k + 1) ws plan ws' plan'
    round_said =
        of_phase v (k + 1)
        (subst (λ n. Passed b (layout b) v (k + 1) ws 0 (n * places (said b)) ws plan ws' plan') (add-one K)
        (subst (λ (m : Layout). Passed b m v (k + 1) ws 0 ((K + 1) * (m.states * m.goals)) ws plan ws' plan') t.is_layout r))

    pub larger_more : GoingLarger (said b) K v ws₀ plan₀ (k + 1) ws' plan'
    larger_more = going_more numbered lawful_larger k g round_said

    pub larger_grows : (room : ℕ) → count (member ws) room ≤ count (member ws') room
    larger_grows = going_grows numbered lawful_larger k g round_said

    pub larger_stop : (room : ℕ) → (K + 1) * (l.states * l.goals) ≤ room → count (member ws') room ≡ count (member ws) room
        → (f : Larger Place → Bool) (e : Larger Place → Entry) (before : List ℕ)
        → Held (larger_arena (said b) K) (larger_places (said b) K) (larger_at (said b).goals (places (said b))) f e before ws₀ plan₀
        → Settled (larger_arena (said b) K) (larger_places (said b) K) (larger_at (said b).goals (places (said b))) v f e before ws' plan'
    larger_stop room h = going_stop numbered lawful_larger k g round_said room (few h)

  -- a full set, and an empty one
  pub larger_full : {v : Phase} {ws₀ plan₀ ws plan : List ℕ} (k : ℕ) → GoingLarger (said b) K v ws₀ plan₀ k ws plan → (room : ℕ)
      → (K + 1) * (l.states * l.goals) ≤ room → (K + 1) * (l.states * l.goals) ≤ count (member ws) room
      → SettlesLarger (said b) K v ws₀ plan₀ ws plan
  larger_full k g room h full = going_full numbered k g room (few h) (few full)

  pub larger_empty : (v : Phase) {ws plan : List ℕ} (room : ℕ) → (K + 1) * (l.states * l.goals) ≤ room → count (member ws) room ≡ 0
      → SettlesLarger (said b) K v ws plan ws plan
  larger_empty v room h none f e before held = settled_empty numbered room (few h) held lawful_larger v none

  -- both phases
  pub labelled_both : {before ws plan ws' plan' : List ℕ}
      (w : Settled (larger_arena (said b) K) (larger_places (said b) K) (larger_at (said b).goals (places (said b)))
      Phase.Winning (larger_arena (said b) K).accepted (first_says (larger_arena (said b) K)) before ws plan)
      → Settled (larger_arena (said b) K) (larger_places (said b) K) (larger_at (said b).goals (places (said b)))
      Phase.Pending (wins_by (larger_arena (said b) K) w.rounds) (wins_says (larger_arena (said b) K) w.rounds) before ws' plan'
      → Labelled (said b) K before plan'
  labelled_both w h =
      record {
        as_long = h.holds.as_long;
        right =
            λ k s q hk hs hq.
            held_right numbered lawful_larger w h (larger k (place s q))
            ((inside_slipping (arena (said b)) K (larger k (place s q))).1 ((inside_iff (said b) (place s q)).1 (hs, hq), hk));
        rest = held_rest h.holds;
      }
