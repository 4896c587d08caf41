-- Nothing does better than the plan that planning leaves: document 004's best effort, over the promise of the call.
use Prim.Native.Nat.{ℕ, ◌≤◌}
use mathlib.Core.List.{List}
use mathlib.Core.Path.{◌≡◌, refl}
use native.Mathlib.Omega.{arith}
use Rattle.game.specs.Game.{Arena, Play, begin, last, Inside, Lawful, Way, Follows, Pending}
use Rattle.game.specs.Allowed.{Allowed}
use Rattle.game.specs.Behaviour.{Behaviour, against, Meets, Dominates, BestEffort, Better, lazy}
use Rattle.game.specs.declared.entry.Entry.{Entry}
use Rattle.rules.specs.Job.{arena}
use Rattle.rules.specs.Fault.{only}
use Rattle.rules.specs.Bytes.{said}
use Rattle.rules.specs.Keeps.{Keeps}
use Rattle.rules.specs.Calls.{Planning}
use Rattle.rules.specs.declared.place.Place.{Place}
use Rattle.game.proofs.Hopes.{run_inside}
use Rattle.game.proofs.Following.{follow, right_allowed}
use Rattle.game.proofs.Facing.{outcomes, outcomes_obey, against_run, against_follows}
use Rattle.game.proofs.Undominated as undominated
use Rattle.game.proofs.Lazy as lazies
use Rattle.rules.proofs.Arenas.{arena_lawful}
use Rattle.rules.proofs.Planned.{entry_of, planned_exactly, planned_right}
use Rattle.labelling.proofs.Demands.{values_told}

module _ {b before after : List ℕ} (done : Planning b before (only 0) after) where
  keeps : Keeps b
  keeps = ((planned_exactly done).0 refl).0

  abbrev G : Arena
  G = arena (said b)

  L : Lawful G
  L = arena_lawful b keeps

  few : (said b).actions ≤ 255
  few = let h = keeps.few_actions in omega arith

  abbrev plan : Place → Entry
  plan = entry_of b after

  allowed : (p : Place) → Inside G p → Allowed G p (plan p)
  allowed p i = right_allowed G (planned_right done refl p i)

  -- ---- From each place, for every way of choosing that follows the plan from there:

  module _ (p : Place) (i : Inside G p) (σ : Way G) (follows : Follows G plan σ (begin p)) where
    -- no way of choosing does at least as well against every behaviour of the cabinet and better against one;
    pub nothing_better : (τ : Way G) → Better G τ σ (begin p) → ⊥
    nothing_better = undominated.nothing_better G L few plan allowed σ (begin p) follows i

    -- and as document 004 says it: none strictly dominates it.
    pub best_effort : BestEffort G σ (begin p)
    best_effort = undominated.best_effort G L few plan allowed σ (begin p) follows i

  -- ---- The same after any play h, for whoever follows the plan from there on, whatever came before.

  module _ (h : Play Place) (i : Inside G (last h)) (σ : Way G) (follows : Follows G plan σ h) where
    pub nothing_better_after : (τ : Way G) → Better G τ σ h → ⊥
    nothing_better_after = undominated.nothing_better G L few plan allowed σ h follows i

    pub best_effort_after : BestEffort G σ h
    best_effort_after = undominated.best_effort G L few plan allowed σ h follows i

    -- who does at least as well against every behaviour does no better against any: from this come both
    pub none_better_after : (τ : Way G) → Dominates G τ σ h → Dominates G σ τ h
    none_better_after = undominated.none_better G L few plan allowed σ h follows i

    -- whoever does better against one behaviour does worse against another
    pub better_costs : (τ : Way G) (v : Behaviour G) → Meets G τ v h → (Meets G σ v h → ⊥)
        → (w : Behaviour G) × Meets G σ w h × (Meets G τ w h → ⊥)
    better_costs = undominated.better_costs G L few plan allowed σ h follows i

    -- in mid-run it is the best effort still, after every play that comes about
    pub best_effort_on : (v : Behaviour G) (n : ℕ) → BestEffort G σ (against G σ v h n)
    best_effort_on v n =
        undominated.best_effort G L few plan allowed σ (against G σ v h n) (against_follows G σ v plan h follows n)
        (rw (against_run G σ v h n) (run_inside G L σ n h (outcomes G σ v h) i (outcomes_obey G σ v h)))

    -- ---- What that says at the three kinds of place. Winning: the plan meets the goal against every behaviour.
    pub winning_worth : (plan (last h)).value ≡ 2 → (v : Behaviour G) → Meets G σ v h
    winning_worth e =
        undominated.plan_wins G L few plan allowed σ h follows i ((values_told done (last h) i).winning.0 e)

    -- Pending: some behaviour defeats every way of choosing, and against some behaviour the plan meets the goal.
    pub pending_worth : (plan (last h)).value ≡ 1
        → ((v : Behaviour G) × ((τ : Way G) → Meets G τ v h → ⊥)) × ((v : Behaviour G) × Meets G σ v h)
    pending_worth e =
        let p : Pending G (last h) = (values_told done (last h) i).pending.0 e in (
          (undominated.spoiling G L, undominated.none_meets G L h i p.0),
          (undominated.helping G L, undominated.plan_may_meet G L few plan allowed σ h follows i p.1),
        )

    -- Losing: no way of choosing meets the goal against any behaviour.
    pub losing_worth : (plan (last h)).value ≡ 0 → (τ : Way G) (v : Behaviour G) → Meets G τ v h → ⊥
    losing_worth e τ v m = ((values_told done (last h) i).losing.0 e).1 (undominated.meets_possible G L τ v h m)

    -- ---- A plan that goes for nothing that it cannot force is bettered at every pending place,
    pub lazy_bettered : (plan (last h)).value ≡ 1 → (τ : Way G) → Follows G (lazy plan) τ h → Better G σ τ h
    lazy_bettered e τ f =
        lazies.lazy_bettered G L few plan allowed τ h f i ((values_told done (last h) i).pending.0 e) σ follows

  -- though it can be followed, and meets the goal from every winning place.
  pub lazy_ways : (h : Play Place) → Inside G (last h) → (τ : Way G) × Follows G (lazy plan) τ h
  lazy_ways h i = (follow G (lazy plan), lazies.lazy_follows G L few plan allowed h i)

  pub lazy_wins : (h : Play Place) → Inside G (last h) → (τ : Way G) → Follows G (lazy plan) τ h → (plan (last h)).value ≡ 2
      → (v : Behaviour G) → Meets G τ v h
  lazy_wins h i τ f e =
      lazies.lazy_wins G L few plan allowed τ h f i ((values_told done (last h) i).winning.0 e)
