-- `cabinet_salvage` meets its contract: the figures of what salvaging answers.
use native.Mathlib.Omega.{arith}
use Rattle.salvage.proofs.Unique.{salvaging_short}
use Prim.Native.Nat.{ℕ}
use mathlib.Core.List.{List}
use mathlib.Core.Path.{◌≡◌, sym, ap₂, subst}
use Rattle.rules.specs.Fault.{Fault, with_record}
use Rattle.salvage.specs.Salvage.{Salvaging}
use Rattle.cabinet.proofs.salvaging.cabinet_salvage.Goals as goal

-- the number and the record are those of the answer
by-figures : {b job pairs job' pairs' : List ℕ} {f : Fault} {m n r k : ℕ} → Salvaging b job pairs f m n job' pairs' → r ≡ f.number
    → k ≡ f.«record» → Salvaging b job pairs (with_record r k) m n job' pairs'
by-figures {b} {job} {pairs} {job'} {pairs'} {f} {m} {n} p e g =
    subst (λ (f : Fault). Salvaging b job pairs f m n job' pairs') (ap₂ with_record (sym e) (sym g)) p

pub overflow_cast-result : goal.overflow_cast-result
overflow_cast-result c =
    let p = rw c.in-Ok.is at c.salvage.ensures in
    omega (arith, salvaging_short p)

pub overflow_cast-result-in-Ok : goal.overflow_cast-result-in-Ok
overflow_cast-result-in-Ok c =
    let p = rw c.in-Ok.is at c.salvage.ensures in
    omega (arith, salvaging_short p)

pub returns-in-Err : goal.returns-in-Err
returns-in-Err c =
    let p = rw c.in-Err.is at c.salvage.ensures in
    by-figures p c.number.ensures c.record.ensures

pub returns-in-Ok : goal.returns-in-Ok
returns-in-Ok c = rw c.in-Ok.is at c.salvage.ensures
