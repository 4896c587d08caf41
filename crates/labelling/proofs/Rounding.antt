-- What one place adds to a round, and what a round's functions hand on.
use Prim.Native.Nat.{ℕ, ◌+◌, ◌*◌, ◌≤◌, ◌<◌}
use mathlib.Core.Bool.{Bool, true, false, not, ◌&&◌, and-false}
use mathlib.Core.List.{List}
use mathlib.Core.Path.{◌≡◌, sym, ap, ◌∙◌}
use native.Mathlib.Nat.{add-mul, one-mul}
use native.Mathlib.Omega.{arith}
use borrow.Author.Tests.{lt-ltb}
use lib.Arith.{digits_lt, digits_div, digits_mod}
use lib.Dec.{ltb}
use lib.ListN.{length}
use Rattle.sets.specs.Sets.{set_words, set_room, member, PutIn}
use Rattle.game.specs.Game.{says}
use Rattle.rules.specs.Job.{place, arena}
use Rattle.rules.specs.Bytes.{said}
use Rattle.rules.specs.Plan.{Wrote}
use Rattle.game.specs.declared.entry.Entry.{Entry}
use Rattle.std.specs.Prelude.{Option, Some, None}
use Rattle.job.specs.declared.layout.Layout.{Layout}
use Rattle.job.proofs.Asking.{few_places, lawful}
use Rattle.phases.specs.declared.phase.Phase.{Phase}
use Rattle.labelling.specs.declared.scan.Tally.{Tally}
use Rattle.labelling.specs.Scan.{Scanned, LowestPassing, tallied_for}
use Rattle.labelling.specs.Round.{Ready}
use Rattle.phases.specs.Wanted.{in_set, wanted, phase_value}
use Rattle.phases.specs.Pass.{Pass}
use Rattle.phases.specs.Round.{adds, Passed}
use Rattle.phases.proofs.Passes.{pass_skip, pass_put}
use Rattle.labelling.proofs.Choosing.{LowestCounted, chosen, choice_counted}

-- ---- a round's functions, one after the other

-- where the next state's places begin
pub next_row : (s g : ℕ) → (s + 1) * g ≡ s * g + g
next_row s g = add-mul s 1 g ∙ ap (λ (x : ℕ). s * g + x) (one-mul g)

-- a pass leaves the plan as long as it was
pub ready_on : {b : List ℕ} {l : Layout} {s start end : ℕ} {gains writes : ℕ → Bool} {entries : ℕ → Entry} {lo hi : ℕ}
    {ws plan ws' plan' : List ℕ}
    → Ready b l s start end plan → Pass gains writes entries lo hi ws plan ws' plan' → Ready b l s start end plan'
ready_on r p =
    record { fit = r.fit; state = r.state; range = r.range; room = rw p.as_long r.room }

-- ---- a round at one place

module _ {b : List ℕ} {l : Layout} {s start end q : ℕ} {plan : List ℕ} (r : Ready b l s start end plan) (g : q < l.goals) where
  -- its number, which a set has room for, and the plan for its entry
  abbrev here : ℕ
  here = s * l.goals + q

  pub here_few : here < set_room
  here_few = omega (arith, digits_lt r.state g, few_places r.fit)

  pub here_room : {i : ℕ} → i ≡ here → 4 * i + 4 ≤ length plan
  here_room n = omega (arith, n, digits_lt r.state g, r.room)

  -- what was answered of it, by its number i, is whether the set has it
  pub here_known : {i : ℕ} → i ≡ here → (old : List ℕ) {a t : Bool} → a ≡ (ltb i set_room && member old i) → a ≡ t → member old here ≡ t
  here_known n old e d = sym (rw (n, lt-ltb here set_room here_few) at e) ∙ d

  module _ (v : Phase) (n : ℕ) (old : List ℕ) where
    -- it is in the old set
    pub passed_old : {ws : List ℕ} → member old here ≡ true → Passed b l v n old here (here + 1) ws plan ws plan
    passed_old m = pass_skip (rw m) (rw m)

    -- what was chosen from the tally is the lowest action that the round looks for
    lowest_here : {x : Tally} → Scanned (said b) (in_set l.goals old) (place s q) x → (d : Option ℕ)
        → LowestPassing (tallied_for v x) d
        → LowestCounted (wanted v (arena (said b)) (in_set l.goals old) (place s q)) (said b).actions d
    lowest_here k d c = choice_counted (lawful r.fit) (in_set l.goals old) (place s q) v d (chosen k v d c)

    module _ {x : Tally} (k : Scanned (said b) (in_set l.goals old) (place s q) x) {d : Option ℕ}
        (c : LowestPassing (tallied_for v x) d) where
      -- it has no such action; it is new and has one
      pub passed_none : {ws : List ℕ} → d ≡ None → Passed b l v n old here (here + 1) ws plan ws plan
      passed_none e =
          let t = rw e at (lowest_here k d c) in
          let z : adds b l v n old here ≡ false = rw (digits_div s g, digits_mod s g, t) (and-false (not (member old here))) in
          pass_skip z z

      pub passed_new : {i a y : ℕ} {ws ws1 plan1 : List ℕ} → i ≡ here → member old here ≡ false → d ≡ Some a
          → PutIn set_words ws i ws1 → y ≡ phase_value v → Wrote i (says y a n) plan plan1 → Passed b l v n old here (here + 1) ws plan ws1 plan1
      passed_new i m e p y w =
          let t = rw e at (lowest_here k d c) in
          let z : adds b l v n old here ≡ true = rw (m, digits_div s g, digits_mod s g) t.0 in
          pass_put z z here_few (rw i at p) (rw (digits_div s g, digits_mod s g, t.1, ← y) (rw i at w))
