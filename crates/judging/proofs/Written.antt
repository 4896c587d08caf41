-- The judge and the bytes that writing a Goal body leaves: the answer for the slips is the mark that the bytes give.
use Prim.Native.Nat.{ℕ, ◌≤◌}
use mathlib.Core.Bool.{Bool, true, false}
use mathlib.Core.List.{List}
use mathlib.Core.Logic.{◌↔◌}
use mathlib.Core.Path.{◌≡◌, refl}
use lib.Dec.{ltb}
use lib.ListN.{length, take}
use Rattle.sets.specs.Sets.{one}
use Rattle.game.proofs.Search.{clash}
use Rattle.rules.specs.Formula.{Formula, Satisfies}
use Rattle.rules.specs.Trace.{reads}
use Rattle.slips.specs.Clauses.{Clause, AllHold, states}
use Rattle.slips.specs.Writing.{clauses, body_size, counted, sound, Writing, refused, written}
use Rattle.slips.proofs.Accept.{slips_accept}
use Rattle.slips.proofs.Bodies.{passed}
use Rattle.slips.proofs.Written.{next_in, mark_in, LabelsBelow, body_mark_after, written_body}
use Rattle.judging.specs.Formulas.{Formed, depth}
use Rattle.judging.specs.Formulas as formulas
use Rattle.judging.specs.Judging.{TraceFits, LabelsFit, Judging, yes, no}
use Rattle.judging.specs.SlipFormulas.{goal_of}
use Rattle.judging.proofs.Slips.{nonempty, accepts, slips_judged}

-- however the slips are said as a formula: one that means them is answered as their automaton answers
pub meant_judged : {b : List ℕ} (f : Formula) (cs : List Clause) (t : List ℕ) → TraceFits t → Formed b f → depth f ≤ 3 → LabelsFit t
    → Satisfies t f ↔ AllHold cs t → Judging b t 0 (one (accepts cs t))
meant_judged {b} f cs t u x d l m = go (accepts cs t) refl
  where
    go : (v : Bool) → accepts cs t ≡ v → Judging b t 0 (one v)
    go true e = yes u x d l (m.1 ((slips_accept cs t (nonempty t u)).0 e))
    go false e = no u x d l (λ h. clash ((slips_accept cs t (nonempty t u)).1 (m.0 h)) e)

-- The judge's answer for the slips' formula is the mark that the bytes which the call leaves give the trace.
pub written_judged : {s before after : List ℕ} {p r n : ℕ} → Writing s p before r n after → r ≡ 0 → (t : List ℕ)
    → TraceFits t → LabelsBelow p t → Judging (formulas.written (goal_of (clauses s))) t 0
    (mark_in (take n after) (states (clauses s)) p (reads (next_in (take n after) p) 0 t))
written_judged {s} {before} {after} {p} w z t u h =
    let (c, d) = good w z in rw (body_mark_after (written_body w z) t h) (slips_judged s p t c d u h)
  where
    good : {r n : ℕ} {after : List ℕ} → Writing s p before r n after → r ≡ 0 → (counted s ≡ true) × (sound s p ≡ true)
    good (refused k) q = absurd (k q)
    good (written e b) q = passed (counted s) (sound s p) (ltb (length before) (body_size (clauses s) p)) e
