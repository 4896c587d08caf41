-- The laws of what lines say of the start and of the goal's clauses: by the words that stand next, and line by line.
use Prim.Native.Nat.{ℕ, ◌+◌, ◌<◌}
use mathlib.Core.List.{List, [], ◌∷◌, ◌++◌}
use mathlib.Core.Path.{◌≡◌, sym, subst}
use native.Mathlib.Omega.{arith}
use lib.ListN.{length, take, drop}
use lib.Seq.{take-append_seam}
use Rattle.text.specs.declared.Line.{Line}
use Rattle.text.specs.PutText.{PutText}
use Rattle.text.specs.Puts.{Puts}
use Rattle.text.proofs.Putting.{puts_none, puts_then, put_whole}
use Rattle.aims.specs.Aims.{clause_said, clauses_said}

-- ---- the same text put, and none

pub put_same : {l m : Line} {v w : List ℕ} → w ≡ v → Puts l v m → Puts l w m
put_same {l} {m} e x = subst (λ (y : List ℕ). Puts l y m) (sym e) x

pub put_nothing : (l : Line) {w : List ℕ} → w ≡ [] → Puts l w l
put_nothing l e = put_same e (puts_none l)

-- Where the answer is less than the line has room for, the whole text was put.
pub put_short : {l w m : List ℕ} {r : ℕ} → PutText l 0 w m r → r < length l → (take r m ≡ w) × (r ≡ length w)
put_short {l} {w} {m} {r} x h =
    let e : r ≡ length w = omega (arith, x.position) in
    let whole = put_whole (omega arith) x in
    (rw (whole.0, e) (take-append_seam w (drop (0 + length w) l)), e)

-- ---- clauses put one after the other

-- Putting the rest where the line stands now leaves it as putting all into the line from before does.
pub record Going (before now : Line) (all rest : List ℕ) : Type 0 where
  pub goes : (m : Line) → Puts now rest m → Puts before all m

pub going_first : (l : Line) {all rest : List ℕ} → all ≡ rest → Going l l all rest
going_first l e = record { goes = λ m x. put_same e x }

module _ {before now : Line} {all rest : List ℕ} (g : Going before now all rest) where
  pub going_more : {w : List ℕ} {after : Line} (rest' : List ℕ) → Puts now w after → rest ≡ w ++ rest' → Going before after all rest'
  going_more rest' x e = record { goes = λ m y. g.goes m (put_same e (puts_then x y)) }

  pub going_end : rest ≡ [] → Puts before all now
  going_end z = g.goes now (put_nothing now z)

module _ (facts : List (List ℕ)) where
  pub clauses_next : {ls rest : List (List (List ℕ))} {l : List (List ℕ)} → ls ≡ l ∷ rest
      → clauses_said facts ls ≡ clause_said facts l ++ clauses_said facts rest
  unfolding clauses_said
  clauses_next e = rw e

  pub clauses_end : {ls : List (List (List ℕ))} → ls ≡ [] → clauses_said facts ls ≡ []
  unfolding clauses_said
  clauses_end e = rw e
