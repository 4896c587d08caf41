-- A small bundle byte by byte: two entries, of one byte and of none; and what a changed byte, one less and one more make of it.
use Prim.Native.Nat.{ℕ}
use mathlib.Core.Bool.{false≢true}
use mathlib.Core.List.{List, [], ◌∷◌, ◌++◌}
use mathlib.Core.Path.{◌≡◌, refl}
use native.Mathlib.Omega.{arith}
use Rattle.totals.specs.Bundle.{Bundle, jobs}
use Rattle.totals.proofs.Bundles.{judged}

-- the contents, where the second entry has this offset; the first begins at 18 and has one byte
abbrev contents : ℕ → List ℕ
contents at = 2 ∷ 0 ∷ 18 ∷ 0 ∷ 0 ∷ 0 ∷ 1 ∷ 0 ∷ 0 ∷ 0 ∷ at ∷ 0 ∷ 0 ∷ 0 ∷ 0 ∷ 0 ∷ 0 ∷ 0 ∷ []

pub two_entries : Bundle (contents 19 ++ (7 ∷ []))
two_entries = (judged (contents 19 ++ (7 ∷ []))).1 (refl, refl)

pub their_jobs : jobs (contents 19 ++ (7 ∷ [])) ≡ (7 ∷ []) ∷ [] ∷ []
their_jobs = refl

-- an offset that is not the end of the entry before, an end that comes early, and one that comes late
pub moved_offset : Bundle (contents 20 ++ (7 ∷ [])) → ⊥
moved_offset b = false≢true ((judged (contents 20 ++ (7 ∷ []))).0 b).0

pub early : Bundle (contents 19) → ⊥
early b = omega (arith, ((judged (contents 19)).0 b).1)

pub late : Bundle (contents 19 ++ (7 ∷ 7 ∷ [])) → ⊥
late b = omega (arith, ((judged (contents 19 ++ (7 ∷ 7 ∷ []))).0 b).1)
