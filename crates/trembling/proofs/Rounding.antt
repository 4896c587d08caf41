-- What one larger place adds to a round and to round 0, and what a round's functions hand on.
use Prim.Native.Nat.{ℕ, ◌+◌, ◌*◌, ◌≤◌, ◌<◌}
use mathlib.Core.Bool.{Bool, true, false, not, ◌&&◌, and-false}
use mathlib.Core.List.{List}
use mathlib.Core.Path.{◌≡◌, sym, ◌∙◌}
use native.Mathlib.Nat.{mul-le-mul}
use native.Mathlib.Omega.{arith}
use borrow.Author.Tests.{lt-ltb}
use lib.Arith.{digits_lt, digits_div, digits_mod}
use lib.Dec.{ltb}
use lib.ListN.{length}
use Rattle.sets.specs.Sets.{member, PutIn}
use Rattle.game.specs.Game.{says}
use Rattle.rules.specs.Job.{place}
use Rattle.rules.specs.Bytes.{said}
use Rattle.rules.specs.Plan.{Wrote}
use Rattle.game.specs.declared.entry.Entry.{Entry}
use Rattle.std.specs.Prelude.{Option, Some, None}
use Rattle.job.specs.Layout.{Fit}
use Rattle.job.specs.declared.layout.Layout.{Layout}
use Rattle.job.proofs.Asking.{few_places, some_states, some_goals}
use Rattle.phases.specs.declared.phase.Phase.{Phase}
use Rattle.phases.specs.Wanted.{phase_value}
use Rattle.phases.specs.Pass.{Pass}
use Rattle.phases.proofs.Passes.{pass_skip, pass_put}
use Rattle.labelling.proofs.Choosing.{LowestCounted}
use Rattle.labelling.proofs.Rounding.{next_row}
use Rattle.larger.specs.Larger.{larger}
use Rattle.trembling.specs.Sets.{larger_words, most_larger}
use Rattle.trembling.specs.Round.{Ready, wanted_larger, adds, Passed}

-- so many slips, and one more than them, take no more than four times the places
pub few_slips : (k n : ℕ) → k ≤ 3 → n ≤ 16384 → k * n + n ≤ most_larger
few_slips k n h g = omega (arith, mul-le-mul h g)

pub few_all : (k n : ℕ) → k ≤ 3 → n ≤ 16384 → (k + 1) * n ≤ most_larger
few_all k n h g = rw (next_row k n) (few_slips k n h g)

-- room for the plans of all counts of slips is room for those of fewer
pub room_below : (k K n : ℕ) {m : ℕ} → k ≤ K → 4 * ((K + 1) * n) ≤ m → 4 * (k * n + n) ≤ m
room_below k K n h g = let same : n ≤ n = omega arith in omega (arith, mul-le-mul h same, next_row K n)

pub some_places : {b : List ℕ} {l : Layout} → Fit b l → 1 ≤ l.states * l.goals
some_places f = mul-le-mul (some_states f) (some_goals f)

-- what was answered of a larger place in the window of one count of slips is whether the set has it
pub inside_known : (base : ℕ) {i n e : ℕ} (ws : List ℕ) {r : Bool} → (i < n) × (i ≡ e) → base + n ≤ most_larger
    → r ≡ (ltb (base + i) most_larger && member ws (base + i)) → r ≡ member ws (base + e)
inside_known base {i} {n} {e} ws (h, q) g a = a ∙ rw (lt-ltb (base + i) most_larger (omega arith), q)

-- a pass leaves the plan as long as it was
pub ready_on : {b : List ℕ} {l : Layout} {k s start end : ℕ} {gains writes : ℕ → Bool} {entries : ℕ → Entry} {lo hi : ℕ}
    {ws plan ws' plan' : List ℕ}
    → Ready b l k s start end plan → Pass gains writes entries lo hi ws plan ws' plan' → Ready b l k s start end plan'
ready_on r p =
    record {
      fit = r.fit;
      few = r.few;
      state = r.state;
      range = r.range;
      room = rw p.as_long r.room;
    }

-- ---- a round at one larger place

module _ {b : List ℕ} {l : Layout} {k s start end q : ℕ} {plan : List ℕ} (r : Ready b l k s start end plan) (g : q < l.goals) where
  -- its number, which a set has room for, and the plan for its entry
  abbrev here : ℕ
  here = k * (l.states * l.goals) + (s * l.goals + q)

  below : s * l.goals + q < l.states * l.goals
  below = digits_lt r.state g

  pub here_few : here < most_larger
  here_few = omega (arith, below, few_slips k (l.states * l.goals) r.few (few_places r.fit))

  pub here_room : 4 * here + 4 ≤ length plan
  here_room = omega (arith, below, r.room)

  -- what was answered of it is whether the set has it
  pub here_known : (old : List ℕ) {a t : Bool} → a ≡ (ltb here most_larger && member old here) → a ≡ t → member old here ≡ t
  here_known old e d = sym (rw (lt-ltb here most_larger here_few) at e) ∙ d

  module _ (v : Phase) (n : ℕ) (old : List ℕ) where
    -- it is in the old set
    pub passed_old : {ws : List ℕ} → member old here ≡ true → Passed b l v n old here (here + 1) ws plan ws plan
    passed_old m = pass_skip (rw m) (rw m)

    module _ {d : Option ℕ} (c : LowestCounted (wanted_larger b l v old (larger k (place s q))) (said b).actions d) where
      -- it has no action that the round looks for; it is new and has one
      pub passed_none : {ws : List ℕ} → d ≡ None → Passed b l v n old here (here + 1) ws plan ws plan
      passed_none e =
          let t = rw e at c in
          let z : adds b l v n old here ≡ false =
          rw (digits_div k below, digits_mod k below, digits_div s g, digits_mod s g, t) (and-false (not (member old here))) in
          pass_skip z z

      pub passed_new : {a y : ℕ} {ws ws1 plan1 : List ℕ} → member old here ≡ false → d ≡ Some a
          → PutIn larger_words ws here ws1 → y ≡ phase_value v → Wrote here (says y a n) plan plan1
          → Passed b l v n old here (here + 1) ws plan ws1 plan1
      passed_new m e p y w =
          let t = rw e at c in
          let z : adds b l v n old here ≡ true =
          rw (m, digits_div k below, digits_mod k below, digits_div s g, digits_mod s g) t.0 in
          pass_put z z here_few p (rw (digits_div k below, digits_mod k below, digits_div s g, digits_mod s g, t.1, ← y) w)
