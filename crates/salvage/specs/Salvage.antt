-- Salvaging a job in bytes: the salvaged job, the list of the removed pairs, and what the call answers and leaves, on every input. Document
-- 02, request 14.
use Rattle.std.specs.Prelude.{ℕ, zero, suc, ◌+◌, ◌*◌, ◌≤◌, ◌<◌, Bool, true, cond, List, [], ◌∷◌, ◌++◌, ◌⊎◌, ◌≡◌, length, take, drop}
use Rattle.rules.specs.Fault.{Fault, only}
use Rattle.rules.specs.Bytes.{offset, form, said, fault_but}
use Rattle.rules.specs.Retold.{two, job_of, body}
use Rattle.salvage.specs.Mended.{stays, lists}

-- the bytes g k of those numbers k below n that pass the test, one after the other
unfoldable pub gathered : (ℕ → Bool) → (ℕ → List ℕ) → ℕ → List ℕ
gathered f g zero = []
gathered f g (suc k) = gathered f g k ++ cond (f k) (g k) []

module _ (b : List ℕ) where
  -- the bytes of record k
  abbrev pub record_bytes : ℕ → List ℕ
  record_bytes k = take (form b).record_size (drop (offset b 2 + (form b).record_size * k) b)

  -- the state and action of record k in three bytes: the state takes two, in both forms
  abbrev pub pair_bytes : ℕ → List ℕ
  pair_bytes k = two ((said b).move k).state (((said b).move k).action ∷ [])

  -- the records that stay, and the pairs that are removed
  abbrev pub moves_kept : List ℕ
  moves_kept = gathered (stays (said b)) record_bytes (said b).records

  abbrev pub removed : List ℕ
  removed = gathered (lists (said b)) pair_bytes (said b).records

  -- the salvaged job: its contents are written anew, and every body but Moves is as it was
  abbrev pub salvaged : List ℕ
  salvaged = job_of (body b 0) (body b 1) moves_kept (body b 3)

-- what refuses the bytes: planning's own table, with a too large outcome forgiven
abbrev pub salvage_fault : List ℕ → Fault
salvage_fault b = fault_but true b

-- `Salvaging b job pairs f m n job' pairs'`: salvaging b into buffers that hold `job` and `pairs` answers f and the two lengths, and leaves
-- `job'` and `pairs'`. A refusal leaves both untouched; bytes beyond the two lengths stay.
pub data Salvaging (b job pairs : List ℕ) : Fault → ℕ → ℕ → List ℕ → List ℕ → Type 0 where
  refused : ((salvage_fault b).number ≡ 0 → ⊥) → Salvaging b job pairs (salvage_fault b) 0 0 job pairs
  no_room : (salvage_fault b).number ≡ 0 → (length job < length (salvaged b)) ⊎ (length pairs < length (removed b))
      → Salvaging b job pairs (only 7) 0 0 job pairs
  done : (salvage_fault b).number ≡ 0 → length (salvaged b) ≤ length job → length (removed b) ≤ length pairs
      → Salvaging b job pairs (only 0) (length (salvaged b)) (length (removed b))
      (salvaged b ++ drop (length (salvaged b)) job) (removed b ++ drop (length (removed b)) pairs)
