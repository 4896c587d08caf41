-- The rounds of a phase as a loop makes them, until one adds nothing; both phases; and the plan that they leave.
use Prim.Native.Nat.{ℕ, suc, ◌+◌, ◌*◌, ◌≤◌, ◌<◌}
use mathlib.Core.Bool.{Bool, true, false, ◌||◌}
use mathlib.Core.List.{List}
use mathlib.Core.Path.{◌≡◌, refl, sym, ◌∙◌}
use native.Mathlib.Numerals.{add-one}
use native.Mathlib.Omega.{arith}
use Rattle.sets.specs.Sets.{member, count}
use Rattle.game.specs.Game.{Arena, Inside, Lawful}
use Rattle.game.specs.Below.{some_below}
use Rattle.rules.specs.Job.{Job, place, places, arena}
use Rattle.rules.specs.Bytes.{said}
use Rattle.rules.specs.Keeps.{Keeps}
use Rattle.rules.specs.declared.place.Place.{Place}
use Rattle.game.specs.declared.entry.Entry.{Entry}
use Rattle.game.proofs.Tests.{same_test, some_below_ext}
use Rattle.rules.proofs.Arenas.{inside_iff, arena_lawful}
use Rattle.rules.proofs.Unique.{none_reaches}
use Rattle.job.specs.Layout.{Fit}
use Rattle.job.specs.declared.layout.Layout.{Layout}
use Rattle.job.proofs.Asking.{places_said}
use Rattle.phases.specs.declared.phase.Phase.{Phase}
use Rattle.phases.specs.Wanted.{wanted}
use Rattle.phases.specs.Round.{Passed}
use Rattle.phases.specs.Rounds.{reached, written, Holds, NonePast, Settled, Labelled}
use Rattle.phases.proofs.Passes.{pass_grows, pass_past}
use Rattle.phases.proofs.Agree.{wanted_ext, reached_up}
use Rattle.phases.proofs.Steps.{wins_by, first_says, wins_says, hopes_by, all_right, hope_number, win_number}
use Rattle.phases.proofs.Holding.{holds_round, holds_entry, holds_rest, holds_zero, same_size}

absorb : (a x y : Bool) → y ≡ x → ((a || x) || y) ≡ true → (a || x) ≡ true
absorb true x y q e = refl
absorb false true y q e = refl
absorb false false y q e = sym q ∙ e

-- a round after one that added nothing adds nothing
pub last_next : (G : Arena) → Lawful G → (v : Phase) (f : G.Place → Bool) (k : ℕ)
    → ((p : G.Place) → Inside G p → reached v G f (suc k) p ≡ true → reached v G f k p ≡ true)
    → (p : G.Place) → Inside G p → reached v G f (suc (suc k)) p ≡ true → reached v G f (suc k) p ≡ true
unfolding reached
last_next G L v f k h p i e =
    let agree : (t : G.Place) → Inside G t → reached v G f (suc k) t ≡ reached v G f k t =
    λ t m. same_test (h t m) (reached_up v G f k t) in
    absorb (reached v G f k p) (some_below G.actions (wanted v G (reached v G f k) p))
    (some_below G.actions (wanted v G (reached v G f (suc k)) p))
    (some_below_ext _ _ G.actions (λ a l. wanted_ext L v (reached v G f (suc k)) (reached v G f k) agree p i a))
    e

-- ---- one phase

-- after k rounds of the loop: whatever the words and the plan held at its start, they hold it with k rounds made
pub record Going (j : Job) (v : Phase) (ws₀ plan₀ : List ℕ) (k : ℕ) (ws plan : List ℕ) : Type 0 where
  pub holds : (f : Place → Bool) (e : Place → Entry) (before : List ℕ) → Holds j f e before ws₀ plan₀
      → Holds j (reached v (arena j) f k) (written v (arena j) f e k) before ws plan

pub going_none : (j : Job) (v : Phase) (ws plan : List ℕ) → Going j v ws plan 0 ws plan
going_none j v ws plan = record { holds = λ f e before h. holds_zero h v }

module _ {b : List ℕ} {l : Layout} (t : Fit b l) {v : Phase} {ws₀ plan₀ ws plan ws' plan' : List ℕ} {k : ℕ}
    (g : Going (said b) v ws₀ plan₀ k ws plan) (r : Passed b l v (k + 1) ws 0 (l.states * l.goals) ws plan ws' plan') where
  next : (f : Place → Bool) (e : Place → Entry) (before : List ℕ) → Holds (said b) f e before ws₀ plan₀
      → Holds (said b) (reached v (arena (said b)) f (suc k)) (written v (arena (said b)) f e (suc k)) before ws' plan'
  next f e before h = holds_round t v f e k (g.holds f e before h) (rw (add-one k) at r)

  pub going_more : Going (said b) v ws₀ plan₀ (k + 1) ws' plan'
  going_more = rw (add-one k) (record { holds = next })

  -- a round takes no place out of the set, and adds the job's places only
  pub going_grows : (room : ℕ) → count (member ws) room ≤ count (member ws') room
  going_grows = pass_grows r

  pub going_past : NonePast (said b) ws → NonePast (said b) ws'
  going_past none x h = pass_past r x (omega (arith, places_said t, h)) ∙ none x h

  pub going_stop : (room : ℕ) → l.states * l.goals ≤ room → count (member ws') room ≡ count (member ws) room
      → (f : Place → Bool) (e : Place → Entry) (before : List ℕ) → Holds (said b) f e before ws₀ plan₀
      → Settled (said b) v f e before ws' plan'
  going_stop room few c f e before h =
      record {
        rounds = suc k;
        holds = next f e before h;
        last =
            last_next (arena (said b)) (arena_lawful b t.keeps) v f k
            (same_size v f k (g.holds f e before h) (next f e before h) room (rw t.is_layout at few) c);
      }

-- ---- both phases

-- what the rounds of winning leave, from round 0 on
abbrev pub WonOf : (b before ws plan : List ℕ) → Type 0
WonOf b before ws plan = Settled (said b) Phase.Winning (arena (said b)).accepted (first_says (arena (said b))) before ws plan

-- what the rounds of hope leave after n rounds of winning
abbrev pub HopedOf : (b before : List ℕ) → ℕ → (ws plan : List ℕ) → Type 0
HopedOf b before n ws plan = Settled (said b) Phase.Pending (wins_by (arena (said b)) n) (wins_says (arena (said b)) n) before ws plan

-- then every entry is right
pub labelled_both : {b before ws plan ws' plan' : List ℕ} → Keeps b → (w : WonOf b before ws plan)
    → HopedOf b before w.rounds ws' plan' → Labelled (said b) before plan'
labelled_both {b} k w h =
    record {
      as_long = h.holds.as_long;
      right =
          λ s q ls lq.
          rw (holds_entry h.holds s q ls lq)
          (all_right (arena (said b)) (arena_lawful b k) w.rounds w.last h.rounds h.last (place s q)
          ((inside_iff (said b) (place s q)).1 (ls, lq)));
      rest = holds_rest h.holds;
    }

-- ---- round S·Q

-- Round S·Q can never add a place: a round that adds one, of winning or of hope after winning has settled, has a number below S·Q.
pub no_round : {b before ws plan : List ℕ} → Keeps b → (w : WonOf b before ws plan) → (k : ℕ) (p : Place) → Inside (arena (said b)) p
    → (wins_by (arena (said b)) k p ≡ false → wins_by (arena (said b)) (suc k) p ≡ true → suc k < places (said b))
    × (hopes_by (arena (said b)) w.rounds k p ≡ false → hopes_by (arena (said b)) w.rounds (suc k) p ≡ true → suc k < places (said b))
no_round {b} keeps w k p i = (
  λ old new. (none_reaches keeps p i (suc k)).0 (win_number (arena (said b)) (arena_lawful b keeps) k p old new),
  λ old new. (none_reaches keeps p i (suc k)).1 (hope_number (arena (said b)) (arena_lawful b keeps) w.rounds w.last k p i old new).1,
)
