-- Two results that the promise allows are the same, answer and all three buffers; and the answer and the plan are the first engine's.
use Prim.Native.Nat.{ℕ, ◌+◌, ◌-◌, ◌≤◌, ◌<◌}
use mathlib.Core.List.{List, ◌++◌}
use mathlib.Core.Logic.{inl, inr, ⊎_elim, ◌⊎◌}
use mathlib.Core.Path.{◌≡◌, refl, sym, ap, ◌∙◌}
use native.Mathlib.Omega.{arith}
use lib.ListN.{length, get_or, drop}
use lib.Seq.{ext_get_or}
use Rattle.rules.specs.Fault.{Fault}
use Rattle.rules.specs.Bytes.{refusal, said}
use Rattle.rules.specs.Job.{Job}
use Rattle.rules.specs.Plan.{room}
use Rattle.rules.specs.Calls as calls
use Rattle.rules.proofs.Arenas.{arena_lawful}
use Rattle.sets.proofs.Bits.{below_or}
use Rattle.rules.proofs.Kept.{kept}
use Rattle.rules.proofs.Numbers.{Among, told}
use Rattle.rules.proofs.Plans.{plan_unique}
use Rattle.rules.proofs.Unique.{planning_unique}
use Rattle.backward.specs.Words.{Filled}
use Rattle.backward.specs.Index.{index_size, Indexed}
use Rattle.backward.specs.Counts.{counters_size}
use Rattle.backward.specs.Call.{PlanningBy, refused, no_room, no_memory, planned}

-- the index and the counters are fixed, word for word
pub indexed_unique : {j : Job} {before a a' : List ℕ} → Indexed j before a → Indexed j before a' → a ≡ a'
indexed_unique {j} {before} {a} {a'} x x' =
    ext_get_or 0 a a' (x.as_long ∙ sym x'.as_long)
    (λ y h. ⊎_elim
    (λ (l : y < j.states). x.firsts y l ∙ sym (x'.firsts y l))
    (λ (l : j.states ≤ y). ⊎_elim (listed y l)
    (λ (g : index_size j ≤ y). x.rest y g ∙ sym (x'.rest y g))
    (below_or y (index_size j)))
    (below_or y j.states))
  where
    listed : (y : ℕ) → j.states ≤ y → y < index_size j → get_or a y 0 ≡ get_or a' y 0
    listed y l g =
        let e : y ≡ j.states + (y - j.states) = omega arith in
        rw e (x.afters (y - j.states) (omega arith) (omega arith) ∙ sym (x'.afters (y - j.states) (omega arith) (omega arith)))

pub filled_unique : {n x : ℕ} {before a a' : List ℕ} → Filled n x before a → Filled n x before a' → a ≡ a'
filled_unique {a} {a'} f g = ext_get_or 0 a a' (f.as_long ∙ sym g.as_long) (λ y h. f.words y ∙ sym (g.words y))

pub short : {m n i c : ℕ} → m ≤ i → n ≤ c → (i < m) ⊎ (c < n) → ⊥
short h g (inl l) = omega arith
short h g (inr l) = omega arith

pub by_unique : {b before index counters p i c p' i' c' : List ℕ} {f f' : Fault} → PlanningBy b before index counters f p i c
    → PlanningBy b before index counters f' p' i' c' → (f ≡ f') × (p ≡ p') × (i ≡ i') × (c ≡ c')
by_unique (refused n) (refused n') = (refl, refl, refl, refl)
by_unique (refused n) (no_room e l) = absurd (n e)
by_unique (refused n) (no_memory e l s) = absurd (n e)
by_unique (refused n) (planned e l h g p x f) = absurd (n e)
by_unique (no_room e l) (refused n) = absurd (n e)
by_unique (no_room e l) (no_room e' l') = (refl, refl, refl, refl)
by_unique (no_room e l) (no_memory e' l' s) = absurd (omega arith)
by_unique (no_room e l) (planned e' l' h g p x f) = absurd (omega arith)
by_unique (no_memory e l s) (refused n) = absurd (n e)
by_unique (no_memory e l s) (no_room e' l') = absurd (omega arith)
by_unique (no_memory e l s) (no_memory e' l' s') = (refl, refl, refl, refl)
by_unique (no_memory e l s) (planned e' l' h g p x f) = absurd (short h g s)
by_unique (planned e l h g p x f) (refused n) = absurd (n e)
by_unique (planned e l h g p x f) (no_room e' l') = absurd (omega arith)
by_unique (planned e l h g p x f) (no_memory e' l' s) = absurd (short h g s)
by_unique {b} {before} (planned e l h g p x f) (planned e' l' h' g' p' x' f') = (
  refl,
  ap (λ (q : List ℕ). q ++ drop (room (said b)) before) (plan_unique (said b) (arena_lawful b ((kept b).0 e)) p p'),
  indexed_unique x x',
  filled_unique f f',
)

-- Unless this engine says 17, what it answers and leaves is what planning may answer and leave: all that is shown of `Planning` holds of it.
pub is_planning : {b before index counters after i c : List ℕ} {f : Fault} → PlanningBy b before index counters f after i c
    → (f.number ≡ 17 → ⊥) → calls.Planning b before f after
is_planning (refused n) z = calls.refused n
is_planning (no_room e l) z = calls.no_room e l
is_planning (no_memory e l s) z = absurd (z refl)
is_planning {b} (planned e l h g p x f) z = calls.planned e l p

-- what refuses a job's bytes is not 17
of_bytes : {n : ℕ} → Among n → n ≡ 17 → ⊥
of_bytes (inl h) e = omega arith
of_bytes (inr (inl h)) e = omega arith
of_bytes (inr (inr h)) e = omega arith

-- It says 17 where the job is good, the plan has room and the index or the counters are too short, and nowhere else.
pub memory_short : {b before index counters p i c : List ℕ} {f : Fault} → PlanningBy b before index counters f p i c → f.number ≡ 17
    → (refusal b ≡ 0) × (room (said b) ≤ length before) × ((length index < index_size (said b)) ⊎ (length counters < counters_size (said b)))
memory_short {b} (refused n) z = absurd (of_bytes (told b).among z)
memory_short (no_room e l) z = absurd (omega arith)
memory_short (no_memory e l s) z = (e, l, s)
memory_short (planned e l h g p x f) z = absurd (omega arith)

-- So with memory enough, every answer and every plan byte is the first engine's.
pub same_plan : {b before index counters after after' i c : List ℕ} {f f' : Fault} → index_size (said b) ≤ length index
    → counters_size (said b) ≤ length counters → calls.Planning b before f after → PlanningBy b before index counters f' after' i c
    → (f ≡ f') × (after ≡ after')
same_plan h g p q = planning_unique p (is_planning q (λ z. short h g (memory_short q z).2))

-- A refusal leaves the plan, the index and the counters as they were.
pub refusal_keeps : {b before index counters p i c : List ℕ} {f : Fault} → PlanningBy b before index counters f p i c
    → (f.number ≡ 0 → ⊥) → (p ≡ before) × (i ≡ index) × (c ≡ counters)
refusal_keeps (refused n) z = (refl, refl, refl)
refusal_keeps (no_room e l) z = (refl, refl, refl)
refusal_keeps (no_memory e l s) z = (refl, refl, refl)
refusal_keeps (planned e l h g p x f) z = absurd (z refl)
