-- The laws of a layer: how it begins, a place that is taken, and how it ends.
use Prim.Native.Nat.{ℕ, ◌+◌, ◌*◌, ◌/◌, ◌%◌, ◌≤◌, ◌<◌}
use mathlib.Core.Bool.{Bool, true, false, cond, not, ◌&&◌, and-false, ◌||◌, or-true}
use mathlib.Core.List.{List}
use mathlib.Core.Logic.{⊎_elim}
use mathlib.Core.Path.{◌≡◌, refl, sym, ◌∙◌, subst, fun_ext}
use native.Mathlib.Nat.{mod-lt}
use native.Mathlib.Omega.{arith}
use borrow.Author.Tests.{le-ltb}
use lib.Arith.{digits_lt}
use lib.Dec.{ltb}
use lib.ListN.{length, get_or}
use Rattle.rules.specs.Bytes.{said}
use Rattle.rules.specs.Keeps.{Keeps}
use Rattle.sets.specs.Sets.{member}
use Rattle.game.specs.Game.{says}
use Rattle.game.specs.Below.{some_below}
use Rattle.rules.specs.Job.{Job, places}
use Rattle.rules.specs.Plan.{entry_byte}
use Rattle.sets.proofs.Bits.{below_or}
use Rattle.rules.proofs.Rows.{row_of}
use Rattle.game.proofs.Search.{lowest, either}
use Rattle.job.specs.Layout.{layout}
use Rattle.job.specs.declared.layout.Layout.{Layout}
use Rattle.phases.specs.declared.phase.Phase.{Phase}
use Rattle.phases.specs.Wanted.{phase_value}
use Rattle.phases.specs.Round.{Passed}
use Rattle.phases.proofs.Passes.{between_zero}
use Rattle.backward.specs.Counts.{Counted}
use Rattle.backward.specs.Queue.{queued, numbered, Joined}
use Rattle.backward.specs.Notes.{Found}
use Rattle.backward.specs.Step.{unsure, Taking, Taken}
use Rattle.backward.specs.Layer.{looked, Between, LayerReady, Layered}
use Rattle.backward.proofs.Counting.{counted_then, counts_of}
use Rattle.backward.proofs.Growing.{found_grows}
use Rattle.backward.proofs.Noting.{found_ext}
use Rattle.backward.proofs.Queuing.{queued_at, joined_none, joined_then, joined_same, joined_place}

-- ---- in the middle of a layer

-- the places before `head` are taken, the counters are the phase's, and the actions found are those looked for
pub record Laying (j : Job) (v : Phase) (n : ℕ) (known : ℕ → Bool) (new₀ plan₀ counters₀ queue₀ : List ℕ) (to head : ℕ)
    (new plan counters queue : List ℕ) (tail : ℕ) : Type 0 where
  pub as_many : length new ≡ length new₀
  pub as_long : length plan ≡ length plan₀
  pub joined : Joined queue₀ to new queue tail
  pub counted : Counted j (unsure v j (numbered j.goals (queued queue head))) counters₀ counters
  pub found : Found (places j) j.actions (phase_value v) n known plan₀ (looked v j (queued queue head)) new plan

-- nothing is found yet
found_first : {j : Job} {v : Phase} {n : ℕ} {taken : ℕ → Bool} {new plan₀ : List ℕ} → Between j v taken (member new)
    → Found (places j) j.actions (phase_value v) n (member new) plan₀ (looked v j taken) new plan₀
found_first {j} {v} {n} {taken} {new} {plan₀} r =
    record { members = λ x. ⊎_elim (known_is x) (unknown_is x) (either (member new x)); bytes = λ y. byte y (y / 4) }
  where
    known_is : (x : ℕ) → member new x ≡ true
        → member new x ≡ (ltb x (places j) && some_below j.actions (looked v j taken x) || member new x)
    known_is x e = rw e (sym (or-true (ltb x (places j) && some_below j.actions (looked v j taken x))))

    unknown_is : (x : ℕ) → member new x ≡ false
        → member new x ≡ (ltb x (places j) && some_below j.actions (looked v j taken x) || member new x)
    unknown_is x e =
        ⊎_elim
        (λ (l : x < places j). rw (e, r.none_else x l e, and-false (ltb x (places j))))
        (λ (l : places j ≤ x). rw (le-ltb x (places j) l))
        (below_or x (places j))

    byte : (y x : ℕ) → get_or plan₀ y 0
        ≡ cond (ltb x (places j) && (not (member new x) && some_below j.actions (looked v j taken x)))
        (entry_byte (says (phase_value v) (lowest (looked v j taken x) j.actions) n) (y % 4)) (get_or plan₀ y 0)
    byte y x =
        ⊎_elim
        (λ (e : member new x ≡ true). rw (e, and-false (ltb x (places j))))
        (λ (e : member new x ≡ false). ⊎_elim
        (λ (l : x < places j). rw (e, r.none_else x l e, and-false (ltb x (places j))))
        (λ (l : places j ≤ x). rw (le-ltb x (places j) l))
        (below_or x (places j)))
        (either (member new x))

module _ {b : List ℕ} {l : Layout} {index : List ℕ} {v : Phase} {from to : ℕ} {known new plan counters queue : List ℕ}
    (r : LayerReady b l index v from to known new plan counters queue) where
  -- the places that are known are those of the set
  known_new : member known ≡ member new
  known_new = fun_ext (λ x. r.known_is x ∙ sym (r.ready.queue_of.members x))

  pub laying_none : {n : ℕ} → Laying (said b) v n (member known) new plan counters queue to from new plan counters queue to
  laying_none {n} =
      record {
        as_many = refl;
        as_long = refl;
        joined = joined_none r.ready.queue_of;
        counted = record { as_long = refl; counts = r.counted.counts; rest = λ y h. refl };
        found = rw known_new (found_first r.between);
      }

  module _ {n head : ℕ} {new' plan' counters' queue' : List ℕ} {tail : ℕ}
      (y : Laying (said b) v n (member known) new plan counters queue to head new' plan' counters' queue' tail) (h : head < to) where
    -- the place at `head` is a place of the job
    pub laying_place : get_or queue' head 0 < places (said b)
    laying_place =
        rw (y.joined.kept head h)
        (r.between.inside (get_or queue head 0) (r.ready.queue_of.members (get_or queue head 0) ∙ queued_at queue to head h))

    -- and the step may take it
    pub laying_ready : Taking b l index v head tail new' plan' counters' queue'
    laying_ready =
        record {
          ready = record {
            fit = r.ready.fit;
            lists = r.ready.lists;
            counters_room = omega (arith, r.ready.counters_room, y.counted.as_long);
            plan_room = omega (arith, r.ready.plan_room, y.as_long);
            words = y.as_many ∙ r.ready.words;
            queue_of = y.joined.still;
          };
          due = omega (arith, y.joined.grows);
          a_place = laying_place;
          counted = counts_of r.counted.long y.counted;
        }

-- the place at `head` is taken
pub laying_take : {b : List ℕ} (k : Keeps b) {v : Phase} {n to head : ℕ} {known : ℕ → Bool}
    {new₀ plan₀ counters₀ queue₀ new plan counters queue new' plan' counters' queue' : List ℕ} {tail tail' : ℕ}
    → head < to → get_or queue head 0 < places (said b)
    → Laying (said b) v n known new₀ plan₀ counters₀ queue₀ to head new plan counters queue tail
    → Taken (said b) v n head known new plan counters queue tail new' plan' counters' queue' tail'
    → Laying (said b) v n known new₀ plan₀ counters₀ queue₀ to (head + 1) new' plan' counters' queue' tail'
laying_take {b} k {v} {n} {to} {head} {plan₀ = plan₀} {queue = queue} {counters' = counters'} {queue' = queue'} h x r t =
    record {
      as_many = t.noted.as_many ∙ r.as_many;
      as_long = t.noted.as_long ∙ r.as_long;
      joined = joined_then r.joined t.joined;
      counted = counted_then r.counted t.counted;
      found =
          found_ext
          (λ y a l u g. found_grows k (queued queue head) (queued queue' (head + 1)) (row_of k.some_goals (get_or queue head 0) x)
          (mod-lt (get_or queue head 0) k.some_goals) (joined_place t.joined head (omega (arith, r.joined.grows)) (said b).goals) y a g v counters' (t.counted.counts (y * (said b).actions + a) (digits_lt l g)))
          (t.noted.finds plan₀ (looked v (said b) (queued queue head)) r.found);
    }

-- ---- the end of a layer

passes : (b m g : Bool) → (b && g || m) ≡ (b && (not m && g) || m)
passes true true true = refl
passes true true false = refl
passes true false g = refl
passes false m g = refl

pub laying_end : {b : List ℕ} {l : Layout} {index : List ℕ} {v : Phase} {n from to head : ℕ}
    {known new₀ plan₀ counters₀ queue₀ new plan counters queue : List ℕ} {tail : ℕ}
    → LayerReady b l index v from to known new₀ plan₀ counters₀ queue₀ → head ≡ to
    → Laying (said b) v n (member known) new₀ plan₀ counters₀ queue₀ to head new plan counters queue tail
    → Layered b l v n to new₀ plan₀ counters₀ queue₀ new plan counters queue tail
laying_end {b} {l} {index} {v} {n} {from} {to} {head} {known} {new₀} {plan₀} {counters₀} {queue₀} {new} {plan} {counters} {queue} {tail} r e y =
    record {
      joined = y.joined;
      passed = subst (λ (m : Layout). Passed b m v n new₀ 0 (m.states * m.goals) new₀ plan₀ new plan) (sym r.ready.fit.is_layout) pass;
      counted = rw e at y.counted;
    }
  where
    all_taken : queued queue to ≡ member new₀
    all_taken = fun_ext (λ x. joined_same y.joined to (omega arith) x ∙ sym (r.ready.queue_of.members x))

    f : Found (places (said b)) (said b).actions (phase_value v) n (member new₀) plan₀ (looked v (said b) (member new₀)) new plan
    f = rw (e, all_taken, known_new r) at y.found

    pass : Passed b (layout b) v n new₀ 0 (places (said b)) new₀ plan₀ new plan
    pass =
        record {
          as_many = y.as_many;
          as_long = y.as_long;
          joins = λ x. f.members x ∙ rw (between_zero (places (said b)) x)
              (passes (ltb x (places (said b))) (member new₀ x) (some_below (said b).actions (looked v (said b) (member new₀) x)));
          bytes = λ z. f.bytes z ∙ rw (between_zero (places (said b)) (z / 4));
        }
