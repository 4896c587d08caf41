-- What is promised of salvaging, over the call for C: one answer and one content of both buffers, and which numbers it gives.
use Prim.Native.Nat.{ℕ}
use mathlib.Core.Bool.{true}
use mathlib.Core.List.{List}
use mathlib.Core.Logic.{inl, inr}
use mathlib.Core.Path.{◌≡◌, refl}
use native.Mathlib.Omega.{arith}
use Rattle.rules.specs.Fault.{Fault, with_record}
use Rattle.rules.proofs.Numbers.{Told, told_but}
use Rattle.salvage.specs.Salvage.{Salvaging, refused, no_room, done}
use Rattle.salvage.proofs.Unique.{salvaging_unique}
use Rattle.cabinet.specs.declared.salvaging.SalvagedFigures.{SalvagedFigures}
use Rattle.cabinet.proofs.Ranges.{OfPlanning}

-- the call's promise, of its struct
abbrev pub SalvageCalled : (b job pairs : List ℕ) → SalvagedFigures → List ℕ → List ℕ → Type 0
SalvageCalled b job pairs r job' pairs' =
    Salvaging b job pairs (with_record r.refusal r.«record») r.job_length r.pairs_length job' pairs'

pub salvage_unique : {b job pairs job' pairs' job'' pairs'' : List ℕ} (r s : SalvagedFigures)
    → SalvageCalled b job pairs r job' pairs' → SalvageCalled b job pairs s job'' pairs'' → (r ≡ s) × (job' ≡ job'') × (pairs' ≡ pairs'')
salvage_unique r s x y =
    let (f, m, n, j, p) = salvaging_unique x y in
    ((λ i. record { refusal = (f i).number; job_length = m i; pairs_length = n i; «record» = (f i).«record» }), j, p)

-- It gives what planning gives, and 12 and 13 alone name a record.
pub salvage_range : {b job pairs job' pairs' : List ℕ} (r : SalvagedFigures) → SalvageCalled b job pairs r job' pairs'
    → Told OfPlanning (with_record r.refusal r.«record»)
salvage_range r x = go x
  where
    go : {b job pairs job' pairs' : List ℕ} {f : Fault} {m n : ℕ} → Salvaging b job pairs f m n job' pairs' → Told OfPlanning f
    go {b} (refused n) = record { among = inl (told_but true b).among; no_record = (told_but true b).no_record }
    go (no_room e h) = record { among = inr refl; no_record = λ d e. refl }
    go (done e h g) = record { among = inl (inl (omega arith)); no_record = λ d e. refl }
