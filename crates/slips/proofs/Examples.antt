-- The Goal bodies of single clauses, byte for byte, the numbering of two, the refusals in order, and One plate with a goal from slips.
use mathlib.Core.List.{List, [], ◌∷◌}
use mathlib.Core.Path.{◌≡◌, refl, sym, subst}
use Prim.Native.Nat.{ℕ}
use Rattle.slips.specs.Clauses.{Clause, existence, absence, response, precedence, step, final, steps, finals}
use Rattle.rules.specs.Keeps.{Keeps}
use Rattle.rules.proofs.Kept.{kept}
use Rattle.slips.specs.Playing.{goal_body, GoalFrom}
use Rattle.slips.specs.Writing.{slips_refusal, clauses_from, clauses, Body}
use Rattle.slips.proofs.Existing.{body_of, body_exists}

-- existence and absence of proposition 0, P = 1: states 0, 1, 2 under labels 0, 1, then the marks
pub existence_body : body_of (existence 0 ∷ []) 1 ≡ (0 ∷ 1 ∷ 1 ∷ 1 ∷ 2 ∷ 2 ∷ 0 ∷ 1 ∷ 0 ∷ [])
unfolding step final steps finals
existence_body = refl

pub absence_body : body_of (absence 0 ∷ []) 1 ≡ (0 ∷ 1 ∷ 1 ∷ 1 ∷ 2 ∷ 2 ∷ 1 ∷ 0 ∷ 0 ∷ [])
unfolding step final steps finals
absence_body = refl

-- a is 0, b is 1, P = 2: labels none, a, b, both
pub response_body : body_of (response 0 1 ∷ []) 2 ≡ (0 ∷ 1 ∷ 0 ∷ 0 ∷ 1 ∷ 1 ∷ 0 ∷ 0 ∷ 2 ∷ 2 ∷ 2 ∷ 2 ∷ 1 ∷ 0 ∷ 0 ∷ [])
unfolding step final steps finals
response_body = refl

pub precedence_body : body_of (precedence 0 1 ∷ []) 2 ≡ (0 ∷ 1 ∷ 2 ∷ 1 ∷ 1 ∷ 1 ∷ 1 ∷ 1 ∷ 2 ∷ 2 ∷ 2 ∷ 2 ∷ 1 ∷ 1 ∷ 0 ∷ [])
unfolding step final steps finals
precedence_body = refl

-- two clauses: existence of 0, then absence of 1; the first is the leading digit. Label 0 alone leads from 0 to 3, label 1 alone to 1.
pub two_first : steps (existence 0 ∷ absence 1 ∷ []) 0 1 ≡ 3
unfolding step steps
two_first = refl

pub two_second : steps (existence 0 ∷ absence 1 ∷ []) 0 2 ≡ 1
unfolding step steps
two_second = refl

-- refusals in order: 14 before 15, 15 before 7; b unlike a in kind 0; P of 0 has no proposition
pub no_clause : slips_refusal [] 9 0 ≡ 14
no_clause = refl

pub four_clauses : slips_refusal (0 ∷ 0 ∷ 0 ∷ 0 ∷ 0 ∷ 0 ∷ 0 ∷ 0 ∷ 0 ∷ 0 ∷ 0 ∷ 0 ∷ []) 1 0 ≡ 14
four_clauses = refl

pub unlike : slips_refusal (0 ∷ 0 ∷ 1 ∷ []) 2 0 ≡ 15
unlike = refl

pub no_proposition : slips_refusal (0 ∷ 0 ∷ 0 ∷ []) 0 0 ≡ 15
no_proposition = refl

pub short : slips_refusal (0 ∷ 0 ∷ 0 ∷ []) 1 8 ≡ 7
unfolding clauses_from
short = refl

pub enough : slips_refusal (0 ∷ 0 ∷ 0 ∷ []) 1 9 ≡ 0
unfolding clauses_from
enough = refl

-- ---- One plate with a goal from slips: at some moment exposed (proposition 0), and whenever exposed, then or later in the drawer
-- (proposition 1); nine goal states

abbrev plate_clauses : List Clause
plate_clauses = existence 0 ∷ response 0 1 ∷ []

abbrev pub plate_slips : List ℕ
plate_slips =
    0x10 ∷ 0 ∷ 0x06 ∷ 0 ∷ 0x16 ∷ 0 ∷ 0x04 ∷ 0 ∷ 0x1a ∷ 0 ∷ 0x12 ∷ 0 ∷ 0x2c ∷ 0 ∷ 0x2d ∷ 0
    ∷ 4 ∷ 3 ∷ 2 ∷ 9 ∷ 0 ∷ 0
    ∷ 2 ∷ 0 ∷ 1 ∷ 0
    ∷ 0 ∷ 0 ∷ 1 ∷ 0 ∷ 0 ∷ 3 ∷ 1 ∷ 1 ∷ 1 ∷ 1 ∷ 1 ∷ 2 ∷ 1 ∷ 2 ∷ 0 ∷ 2 ∷ 2 ∷ 0
    ∷ 0 ∷ 4 ∷ 0 ∷ 3 ∷ 1 ∷ 4 ∷ 0 ∷ 3 ∷ 2 ∷ 5 ∷ 2 ∷ 5
    ∷ 3 ∷ 4 ∷ 3 ∷ 3 ∷ 4 ∷ 4 ∷ 3 ∷ 3 ∷ 5 ∷ 5 ∷ 5 ∷ 5
    ∷ 6 ∷ 7 ∷ 6 ∷ 6 ∷ 7 ∷ 7 ∷ 6 ∷ 6 ∷ 8 ∷ 8 ∷ 8 ∷ 8
    ∷ 0 ∷ 0 ∷ 0 ∷ 1 ∷ 0 ∷ 0 ∷ 0 ∷ 0 ∷ 0 ∷ []

-- it keeps the rules, and its Goal body is that of the clauses
pub plate_kept : Keeps plate_slips
plate_kept = (kept plate_slips).0 refl

plate_body : goal_body plate_slips ≡ body_of plate_clauses 2
unfolding step final steps finals
plate_body = refl

pub plate_from : GoalFrom plate_clauses plate_slips
plate_from = record { body = subst (Body plate_clauses 2) (sym plate_body) (body_exists plate_clauses 2); first = refl }

pub plate_slips_are : clauses (0 ∷ 0 ∷ 0 ∷ 2 ∷ 0 ∷ 1 ∷ []) ≡ plate_clauses
unfolding clauses_from
plate_slips_are = refl
