-- What reading a formula answers: where it ends and its depth, or that none stands there.
use Rattle.std.specs.Prelude.{ℕ, ◌+◌, ◌≤◌, ◌<◌, max, List, ◌≡◌, length, Option, Some, None}
use Rattle.rules.specs.Formula.{Formula}
use Rattle.judging.specs.Formulas.{nodes, depth, Stands}
use Rattle.judging.specs.Judging.{TraceFits}
use Rattle.judging.specs.declared.read.Read.{Read}

pub data ReadOf (b : List ℕ) (i : ℕ) : Option Read → Type 0 where
  good : {r : Read} (f : Formula) → Stands b i f → r.end ≡ i + nodes f → r.depth ≡ depth f → ReadOf b i (Some r)
  bad : ((f : Formula) → Stands b i f → ⊥) → ReadOf b i None

-- the depth is a number that has one after it
abbrev pub Shallow : Read → Type 0
Shallow r = r.depth < r.end

-- one deeper; at least so deep
abbrev pub raised : Read → Read
raised r = record { end = r.end; depth = r.depth + 1 }

abbrev pub at_least : ℕ → Read → Read
at_least n r = record { end = r.end; depth = max n r.depth }

-- the trace fits, and the bytes are a formula, read whole, of depth d
pub record ReadWhole (b : List ℕ) (d : ℕ) (t : List ℕ) : Type 0 where
  pub trace : TraceFits t
  pub few : length b ≤ 64
  pub read : ReadOf b 0 (Some (record { end = length b; depth = d }))
