-- What planning with an index answers and leaves, on every input: request 9.
use Rattle.std.specs.Prelude.{ℕ, ◌≤◌, ◌<◌, List, ◌++◌, ◌⊎◌, ◌≡◌, length, drop}
use Rattle.rules.specs.Fault.{Fault, only}
use Rattle.rules.specs.Bytes.{fault, refusal, said}
use Rattle.rules.specs.Plan.{room, Plan}
use Rattle.backward.specs.Words.{Filled}
use Rattle.backward.specs.Index.{index_size, Indexed}
use Rattle.backward.specs.Counts.{counters_size}

-- `PlanningBy b before index counters f after index' counters'`: planning the job b into a buffer that holds `before`, with lent memory that
-- holds `index` and `counters`, answers f and leaves `after`, `index'` and `counters'`. A refusal leaves all three as they were. On success
-- the index lists every record, the counters are 0, and nothing beyond the stated sizes has changed.
pub data PlanningBy (b before index counters : List ℕ) : Fault → List ℕ → List ℕ → List ℕ → Type 0 where
  refused : (refusal b ≡ 0 → ⊥) → PlanningBy b before index counters (fault b) before index counters
  no_room : refusal b ≡ 0 → length before < room (said b) → PlanningBy b before index counters (only 7) before index counters
  no_memory : refusal b ≡ 0 → room (said b) ≤ length before
      → (length index < index_size (said b)) ⊎ (length counters < counters_size (said b))
      → PlanningBy b before index counters (only 17) before index counters
  planned : {p index' counters' : List ℕ} → refusal b ≡ 0 → room (said b) ≤ length before → index_size (said b) ≤ length index
      → counters_size (said b) ≤ length counters → Plan (said b) p → Indexed (said b) index index'
      → Filled (counters_size (said b)) 0 counters counters'
      → PlanningBy b before index counters (only 0) (p ++ drop (room (said b)) before) index' counters'
