-- What the call leaves, read as an automaton byte by byte: it takes a nonempty trace of labels below 2^P exactly when every clause holds on
-- it. And a job that has these bytes as its Goal body is one whose goal is the slips.
use Prim.Native.Nat.{ℕ, suc, ◌+◌, ◌*◌, ◌^◌, ◌<◌}
use mathlib.Core.Bool.{Bool, true, false}
use mathlib.Core.List.{List, [], ◌∷◌, ◌++◌}
use mathlib.Core.Logic.Iff
use mathlib.Core.Logic.{◌↔◌}
use mathlib.Core.Path.{◌≡◌, refl, sym, ◌∙◌, ap, subst}
use native.Mathlib.Omega.{arith}
use lib.ListN.{length, get_or, take, drop}
use lib.Seq.{take-append_seam}
use Rattle.sets.specs.Sets.{one}
use Rattle.rules.specs.Bytes.{said}
use Rattle.rules.specs.Formula.{Nonempty}
use Rattle.rules.specs.Trace.{reads}
use Rattle.slips.specs.Clauses.{Clause, AllHold, states, steps, finals}
use Rattle.slips.specs.Writing.{clauses, body_size, Body, Writing, refused, written}
use Rattle.slips.specs.Playing.{goal_body, GoalFrom}
use Rattle.slips.proofs.Accept.{slips_accept, some_states, steps_below, reads_below}

-- the next goal state that the bytes g of a Goal body say for P propositions, and the mark where n goal states have their rows
abbrev pub next_in : List ℕ → ℕ → ℕ → ℕ → ℕ
next_in g p q l = get_or g (q * 2 ^ p + l) 0

abbrev pub mark_in : List ℕ → ℕ → ℕ → ℕ → ℕ
mark_in g n p q = get_or g (n * 2 ^ p + q) 0

abbrev pub LabelsBelow : ℕ → List ℕ → Type 0
LabelsBelow p t = (i : ℕ) → i < length t → get_or t i 0 < 2 ^ p

one_iff : (x : Bool) → (one x ≡ 1) ↔ (x ≡ true)
one_iff true = (λ e. refl, λ e. refl)
one_iff false = (λ e. absurd (omega arith), λ e. let z : ◌≡◌ {A = ℕ} 0 1 = ap one e in absurd (omega arith))

module _ {cs : List Clause} {p : ℕ} {g : List ℕ} (x : Body cs p g) where
  reads_same : (t : List ℕ) (q : ℕ) → q < states cs → LabelsBelow p t → reads (next_in g p) q t ≡ reads (steps cs) q t
  reads_same [] q h low = refl
  reads_same (l ∷ ls) q h low =
      ap (λ (r : ℕ). reads (next_in g p) r ls) (x.rows q l h (low 0 (omega arith)))
      ∙ reads_same ls (steps cs q l) (steps_below cs q l h) (λ i k. low (suc i) (omega arith))

  -- the mark that the bytes of a body give a trace is the automaton's
  pub body_mark_after : (t : List ℕ) → LabelsBelow p t
      → mark_in g (states cs) p (reads (next_in g p) 0 t) ≡ one (finals cs (reads (steps cs) 0 t))
  body_mark_after t low =
      rw (reads_same t 0 (some_states cs) low) (x.marks (reads (steps cs) 0 t) (reads_below cs 0 t (some_states cs)))

  -- the bytes of a body take a trace exactly when every clause holds on it
  pub body_accepts : (t : List ℕ) → Nonempty t → LabelsBelow p t
      → (mark_in g (states cs) p (reads (next_in g p) 0 t) ≡ 1) ↔ AllHold cs t
  body_accepts t n low =
      rw (body_mark_after t low) (Iff.trans (one_iff (finals cs (reads (steps cs) 0 t))) (slips_accept cs t n))

-- ---- the bytes that the call leaves

-- the first n of them are the body of the clauses
pub written_body : {s before : List ℕ} {p : ℕ} {after : List ℕ} {r n : ℕ} → Writing s p before r n after → r ≡ 0 → Body (clauses s) p (take n after)
written_body (refused h) z = absurd (h z)
written_body {s} {before} {p = p} (written {g} e x) z =
    let n = body_size (clauses s) p in
    let same : take n (g ++ drop n before) ≡ g =
    ap (λ (k : ℕ). take k (g ++ drop n before)) (sym x.long) ∙ take-append_seam g (drop n before) in
    rw same x

-- THE CALL. Read from goal state 0, the bytes written end in a goal state marked 1 exactly when every clause holds on the trace.
pub written_accepts : {s before after : List ℕ} {p r n : ℕ} → Writing s p before r n after → r ≡ 0 → (t : List ℕ) → Nonempty t
    → LabelsBelow p t → (mark_in (take n after) (states (clauses s)) p (reads (next_in (take n after) p) 0 t) ≡ 1) ↔ AllHold (clauses s) t
written_accepts w z = body_accepts (written_body w z)

-- a job with these bytes as its Goal body, with the same P and the first goal state 0, has the slips as its goal
pub goal_from : {s before after : List ℕ} {p r n : ℕ} (b : List ℕ) → Writing s p before r n after → r ≡ 0 → (said b).propositions ≡ p
    → (said b).first_goal ≡ 0 → goal_body b ≡ take n after → GoalFrom (clauses s) b
goal_from {s} {after = after} {p = p} {n = n} b w z same-p first same =
    record {
      body = subst (λ (k : ℕ). Body (clauses s) k (goal_body b)) (sym same-p) (subst (Body (clauses s) p) (sym same) (written_body w z));
      first = first;
    }
