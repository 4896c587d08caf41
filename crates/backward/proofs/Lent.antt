-- What the lent index holds where planning succeeded, and where 17 is given.
use Prim.Native.Nat.{ℕ, ◌≤◌, ◌<◌}
use mathlib.Core.List.{List}
use mathlib.Core.Logic.{◌⊎◌}
use mathlib.Core.Path.{◌≡◌, refl}
use native.Mathlib.Omega.{arith}
use lib.Dec.{eqb}
use lib.ListN.{get_or, length}
use Rattle.sets.specs.Sets.{count}
use Rattle.rules.specs.Fault.{Fault, only}
use Rattle.rules.specs.Bytes.{refusal, said}
use Rattle.rules.specs.Plan.{room}
use Rattle.rules.proofs.Kept.{kept}
use Rattle.backward.specs.Index.{index_size, leading, walk}
use Rattle.backward.specs.Counts.{counters_size}
use Rattle.backward.specs.Call.{PlanningBy, refused, no_room, no_memory, planned}
use Rattle.backward.proofs.Held.{held_once}
use Rattle.backward.proofs.Once.{walk_leading}
use Rattle.backward.proofs.Unique.{short}

-- The index holds every record exactly once:
pub lent_once : {b before index counters p i c : List ℕ} {f : Fault} → PlanningBy b before index counters f p i c → f.number ≡ 0
    → (k : ℕ) → k < (said b).records → count (λ y. eqb (get_or i y 0) k) (index_size (said b)) ≡ 1
lent_once (refused n) z k h = absurd (n z)
lent_once (no_room e l) z k h = absurd (omega arith)
lent_once (no_memory e l s) z k h = absurd (omega arith)
lent_once {b} (planned e l m g p x f) z k h = held_once (said b) k ((kept b).0 e).outcome_below x h

-- going along it from word t gives the records that lead to state t, in their order.
pub lent_lists : {b before index counters p i c : List ℕ} {f : Fault} → PlanningBy b before index counters f p i c → f.number ≡ 0
    → (t : ℕ) → t < (said b).states → walk (said b) i (said b).records (get_or i t 0) ≡ leading (said b) t (said b).records
lent_lists (refused n) z t h = absurd (n z)
lent_lists (no_room e l) z t h = absurd (omega arith)
lent_lists (no_memory e l s) z t h = absurd (omega arith)
lent_lists {b} (planned e l m g p x f) z t h = walk_leading (said b) t x h

-- 17 is given wherever the job is good, the plan has room, and the index or the counters are too short.
pub memory_given : {b before index counters p i c : List ℕ} {f : Fault} → PlanningBy b before index counters f p i c
    → refusal b ≡ 0 → room (said b) ≤ length before → (length index < index_size (said b)) ⊎ (length counters < counters_size (said b))
    → f ≡ only 17
memory_given (refused n) e l s = absurd (n e)
memory_given (no_room e' l') e l s = absurd (omega arith)
memory_given (no_memory e' l' s') e l s = refl
memory_given (planned e' l' h g p x f) e l s = absurd (short h g s)
