-- Both phases one after the other, and the call.
use Prim.Native.Nat.{ℕ, ◌≤◌, ◌<◌}
use mathlib.Core.Bool.{true}
use mathlib.Core.List.{List, ◌++◌}
use mathlib.Core.Logic.{⊎_elim}
use mathlib.Core.Path.{◌≡◌, refl, sym, ◌∙◌, subst}
use native.Mathlib.Omega.{arith}
use borrow.Author.Tests.{lt-ltb, le-ltb}
use lib.ListN.{length, get_or, drop}
use Rattle.rules.specs.Fault.{Fault, only}
use Rattle.rules.specs.Bytes.{said}
use Rattle.rules.specs.Keeps.{Keeps}
use Rattle.sets.specs.Sets.{member}
use Rattle.rules.specs.Job.{Job, places}
use Rattle.rules.specs.Plan.{room, Plan}
use Rattle.rules.specs.Calls as calls
use Rattle.sets.proofs.Bits.{below_or}
use Rattle.rules.proofs.Kept.{kept}
use Rattle.job.specs.Layout.{Fit}
use Rattle.job.specs.declared.layout.Layout.{Layout}
use Rattle.phases.specs.declared.phase.Phase.{Phase}
use Rattle.phases.specs.Round.{BegunAll}
use Rattle.phases.specs.Rounds.{Labelled}
use Rattle.phases.proofs.Holding.{holds_begin, member_held}
use Rattle.phases.proofs.Settling.{WonOf, labelled_both}
use Rattle.phases.proofs.Planning.{planned_done}
use Rattle.backward.specs.Words.{Filled}
use Rattle.backward.specs.Index.{index_size, Indexed, Lists}
use Rattle.backward.specs.Counts.{counters_size, Counts, Counted}
use Rattle.backward.specs.Layers.{LayersDone, Planned}
use Rattle.backward.specs.Call.{PlanningBy, planned}

-- ---- what each phase is lent

pub lists_of : {j : Job} {before now : List ℕ} → index_size j ≤ length before → Indexed j before now → Lists j now
lists_of h x =
    record {
      long = omega (arith, x.as_long);
      indexed = record { as_long = refl; firsts = x.firsts; afters = x.afters; rest = λ y l. refl };
    }

pub first_inside : {b : List ℕ} {l : Layout} (t : Fit b l) {plan ws plan' : List ℕ} → BegunAll b l plan ws plan' → (x : ℕ)
    → member ws x ≡ true → x < places (said b)
first_inside t r x m = (member_held (holds_begin t r) x m).0

module _ {b : List ℕ} {l : Layout} (t : Fit b l) {before plan1 plan2 counters1 counters2 first won queue2 : List ℕ} {tail2 : ℕ}
    (r : BegunAll b l before first plan1) (d : LayersDone b Phase.Winning first plan1 counters1 won plan2 counters2 queue2 tail2) where
  -- the winning places
  pub won_of : WonOf b before won plan2
  won_of = d.settles _ _ _ (holds_begin t r)

  pub won_inside : (x : ℕ) → member won x ≡ true → x < places (said b)
  won_inside x m = (member_held won_of.holds x m).0

  -- and the rest
  pub labelled_all : {plan3 counters3 counters4 all queue3 : List ℕ} {tail3 : ℕ}
      → LayersDone b Phase.Pending won plan2 counters3 all plan3 counters4 queue3 tail3 → Labelled (said b) before plan3
  labelled_all e = labelled_both t.keeps won_of (e.settles _ _ _ won_of.holds)

-- the counters are 0 at the end
pub cleared_all : {j : Job} {c d : ℕ → ℕ} {before one two three four : List ℕ} → Counted j c before one → Counted j d one two
    → Filled (counters_size j) 0 two three → Counted j (λ y. 0) three four → Filled (counters_size j) 0 before four
cleared_all {j} {before} {four} a b f e =
    record {
      as_long = e.as_long ∙ f.as_long ∙ b.as_long ∙ a.as_long;
      words = λ y. ⊎_elim
          (λ (h : y < counters_size j). e.counts y h ∙ sym (rw (lt-ltb y (counters_size j) h)))
          (λ (h : counters_size j ≤ y). e.rest y h ∙ f.words y ∙ rw (le-ltb y (counters_size j) h) (b.rest y h ∙ a.rest y h))
          (below_or y (counters_size j));
    }

pub counts_zero : {j : Job} {before now : List ℕ} → counters_size j ≤ length before → Filled (counters_size j) 0 before now
    → Counts j (λ y. 0) now
counts_zero {j} h f = record { long = omega (arith, f.as_long); counts = λ y l. f.words y ∙ rw (lt-ltb y (counters_size j) l) }

-- ---- the call

-- the plan that a buffer holds where planning is done
plan_held : {b before after : List ℕ} {f : Fault} → calls.Planning b before f after → f.number ≡ 0
    → (p : List ℕ) × Plan (said b) p × (after ≡ p ++ drop (room (said b)) before)
plan_held (calls.refused n) z = absurd (n z)
plan_held (calls.no_room e l) z = absurd (omega arith)
plan_held (calls.planned {p = p} e l q) z = (p, q, refl)

pub planned_by : {b before index counters after index' counters' : List ℕ} → Keeps b → room (said b) ≤ length before
    → index_size (said b) ≤ length index → counters_size (said b) ≤ length counters → Planned b before index counters after index' counters'
    → ((y : ℕ) → get_or after y 0 < 256) → PlanningBy b before index counters (only 0) after index' counters'
planned_by {b} {before} {index} {counters} {after} {index'} {counters'} k h i c d small =
    let (p, q, e) = plan_held (planned_done k h d.labelled small) refl in
    subst (λ (a : List ℕ). PlanningBy b before index counters (only 0) a index' counters') (sym e)
    (planned ((kept b).1 k) h i c q d.indexed d.cleared)
