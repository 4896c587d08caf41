-- The laws of a text's goal: its clauses as slips, or its table, and the job whose Goal body is the one that is written from either.
use Prim.Native.Nat.{ℕ, ◌<◌}
use mathlib.Core.List.{List, []}
use mathlib.Core.Path.{◌≡◌, refl, sym, ap, subst, ◌∙◌}
use native.Mathlib.Omega.{arith}
use lib.ListN.{length, take}
use Rattle.std.specs.Prelude.{Option, Some, Result, Ok}
use Rattle.rules.specs.Bytes.{said}
use Rattle.slips.specs.Writing.{clauses, slips_refusal, Body, Writing, refused, written, written_refusal, written_length}
use Rattle.rules.specs.declared.answer.Refusal.{Refusal}
use Rattle.slips.specs.Playing.{goal_body}
use Rattle.slips.proofs.Written.{written_body}
use Rattle.text.specs.Lines.{bytes}
use Rattle.text.specs.PutText.{PutText}
use Rattle.lines.specs.Words.{lines}
use Rattle.lines.specs.Tables.{names_of, count_of}
use Rattle.lines.specs.declared.names.Names.{Names}
use Rattle.lines.proofs.Tabling.{names_counted}
use Rattle.aims.specs.Aims.{given, clauses_said}
use Rattle.aims.proofs.Aiming.{put_short}
use Rattle.rows.specs.Rows.{TableBody}
use Rattle.rows.specs.Cells.{TableWritten}
use Rattle.meant.specs.Aimed.{Aimed}
use Rattle.words.specs.Turned.{Goal, by_clauses, by_table}
use Rattle.words.specs.Within.{Slipped, slipped, unslipped, Aims, aims, aimless}
use Rattle.words.specs.declared.goal.Aim.{Aim}

-- ---- slips

-- slips that are written are those that no number refuses
taken : {s before : List ℕ} {p : ℕ} {after : List ℕ} {r n : ℕ} → Writing s p before r n after → r ≡ 0 → slips_refusal s p (length before) ≡ 0
taken (refused h) z = absurd (h z)
taken (written e x) z = e

pub slips_of : {s before after : List ℕ} {p : ℕ} {a : Aim} {w : Result ℕ Refusal} → length before ≡ 2080
    → Writing s p before (written_refusal w) (written_length w) after → w ≡ Ok a.size → a.first ≡ 0 → Slipped s p after (Some a)
slips_of {s} {before} {after} {p} {a} {w} e x z first =
    let y : Writing s p before 0 a.size after = subst (λ (v : Result ℕ Refusal). Writing s p before (written_refusal v) (written_length v) after) z x in
    slipped (subst (λ (k : ℕ). slips_refusal s p k ≡ 0) e (taken y refl)) (written_body y refl) first

-- no bytes are no slips
some_clause : (s : List ℕ) (p : ℕ) → slips_refusal s p 2080 ≡ 0 → s ≡ [] → ⊥
some_clause s p z e =
    let no : ◌≡◌ {A = ℕ} 14 0 = subst (λ (y : List ℕ). slips_refusal y p 2080 ≡ 0) e z in
    omega arith

-- ---- the goal of a text

module _ {facts goals : List (List ℕ)} {t body : List ℕ} {p : ℕ} where
  by_slips : {r : Option Aim} → Slipped (clauses_said facts (lines t)) p body r → Aims facts goals t p body r
  by_slips (slipped {a} z x none) = aims goal
    where
      goal : (b : List ℕ) → (said b).propositions ≡ p → (said b).goals ≡ a.goals → Aimed b body a.size a.first → Goal facts goals t b
      goal b ep eq y =
          by_clauses (some_clause (clauses_said facts (lines t)) p z) (subst (λ (k : ℕ). slips_refusal (clauses_said facts (lines t)) k 2080 ≡ 0) (sym ep) z)
          record {
            body =
                subst (λ (k : ℕ). Body (clauses (clauses_said facts (lines t))) k (goal_body b)) (sym ep)
                (subst (Body (clauses (clauses_said facts (lines t))) p) (sym y.same_body) x);
            first = y.same_first ∙ none;
          }
  by_slips unslipped = aimless

  -- from slips that are all the clauses that the lines say
  pub clauses_aim : {before slip : List ℕ} {k : ℕ} {r : Option Aim} → PutText before 0 (clauses_said facts (lines t)) slip k → k < length before
      → Slipped (take k slip) p body r → Aims facts goals t p body r
  clauses_aim {r = r} x h y = by_slips (subst (λ (s : List ℕ). Slipped s p body r) (put_short x h).0 y)

-- where no clause is put, the goal is the table's
pub table_aims : (t : List ℕ) (facts goals : Names) {before slip old body : List ℕ} {k : ℕ} {a : Aim}
    → PutText before 0 (clauses_said (names_of facts) (lines t)) slip k → k ≡ 0 → 0 < length before
    → TableWritten t facts goals old body a.size → a.goals ≡ count_of goals → a.first ≡ given (bytes "first") (names_of goals) (lines t)
    → Aims (names_of facts) (names_of goals) t (count_of facts) body (Some a)
table_aims t facts goals {slip = slip} {body = body} {a = a} x z h w eg e =
    aims
    (λ b ep eq y.
    by_table none (eq ∙ (eg ∙ sym (names_counted goals))) (y.same_first ∙ e)
    (subst (λ (k : ℕ). TableBody (names_of facts) (names_of goals) (lines t) k (goal_body b)) (sym ep)
    (subst (TableBody (names_of facts) (names_of goals) (lines t) (count_of facts)) (sym y.same_body) w.body)))
  where
    none : clauses_said (names_of facts) (lines t) ≡ []
    none = sym (put_short x (omega arith)).0 ∙ ap (λ (k : ℕ). take k slip) z
