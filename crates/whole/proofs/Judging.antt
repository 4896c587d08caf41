-- The law of a word that is known.
use Rattle.std.proofs.Common.{ℕ, List, ◌≡◌, Option, None, Some, IfSome, is_some, ◌<◌}
use borrow.Author.Tests.{le-ltb, lt-ltb}
use native.Mathlib.Omega.{arith}
use Rattle.lines.specs.Names.{index_of, found}
use Rattle.lines.specs.Tables.{names_of, count_of}
use Rattle.lines.specs.declared.names.Names.{Names}
use Rattle.lines.proofs.Tabling.{names_counted}
use Rattle.whole.specs.Whole.{known}

-- a word is known where its name is found
pub known_found : (n : Names) {v w : List ℕ} (o : Option ℕ) → v ≡ w → found o (count_of n) ≡ index_of (names_of n) v → IfSome o (λ k. k < count_of n)
    → is_some o ≡ known (names_of n) w
known_found n None q e h = rw (names_counted n, ← q, ← e, le-ltb (count_of n) (count_of n) (omega arith))
known_found n (Some k) q e h = rw (names_counted n, ← q, ← e, lt-ltb k (count_of n) h)
