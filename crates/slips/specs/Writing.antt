-- Slips in bytes, three a clause, and the Goal body that is written from them: what the call answers and leaves, on every input.
use Rattle.std.specs.Prelude.{ℕ, zero, suc, ◌+◌, ◌*◌, ◌/◌, ◌%◌, ◌^◌, ◌<◌, Bool, cond, not, ◌&&◌, ◌||◌, List, [], ◌∷◌, ◌++◌, ◌≡◌, leb, ltb, eqb, length, get_or, drop, Result, Ok, Err}
use Rattle.sets.specs.Sets.{one}
use Rattle.rules.specs.Answers.{refusal_fault}
use Rattle.game.specs.Below.{every_below}
use Rattle.slips.specs.Clauses.{Clause, existence, absence, response, precedence, states, steps, finals}
use Rattle.slips.specs.declared.kind.Kind.{Kind}
use Rattle.slips.specs.declared.kind.NoKind.{NoKind}
use Rattle.rules.specs.declared.answer.Refusal.{Refusal}

-- A clause is a kind, 0 to 3, and the propositions a and b.
abbrev pub clause_of : ℕ → ℕ → ℕ → Clause
clause_of k a b = cond (eqb k 0) (existence a) (cond (eqb k 1) (absence a) (cond (eqb k 2) (response a b) (precedence a b)))

-- the same of a kind by its name, and its number
abbrev pub clause_in : Kind → ℕ → ℕ → Clause
clause_in Kind.Existence a b = existence a
clause_in Kind.Absence a b = absence a
clause_in Kind.Response a b = response a b
clause_in Kind.Precedence a b = precedence a b

abbrev pub kind_number : Kind → ℕ
kind_number Kind.Existence = 0
kind_number Kind.Absence = 1
kind_number Kind.Response = 2
kind_number Kind.Precedence = 3

-- the kind that has a number, or the number where none has it
abbrev pub KindOf : ℕ → Result Kind NoKind → Type 0
KindOf n (Ok k) = n ≡ kind_number k
KindOf n (Err e) = (e.0 ≡ n) × (3 < n)

abbrev pub clause_at : List ℕ → ℕ → Clause
clause_at s i = clause_of (get_or s i 0) (get_or s (i + 1) 0) (get_or s (i + 2) 0)

-- n clauses, the first at byte i
unfoldable pub clauses_from : List ℕ → ℕ → ℕ → List Clause
clauses_from s i zero = []
clauses_from s i (suc n) = clause_at s i ∷ clauses_from s (i + 3) n

abbrev pub clauses : List ℕ → List Clause
clauses s = clauses_from s 0 (length s / 3)

-- 14: no clause or more than three, or a length not a multiple of 3
abbrev pub counted : List ℕ → Bool
counted s = eqb (length s % 3) 0 && (leb 3 (length s) && leb (length s) 9)

-- 15: P above 6, a kind above 3, a proposition not below P, or b unlike a in kinds 0 and 1
abbrev pub in_kind : ℕ → ℕ → ℕ → ℕ → Bool
in_kind p k a b = leb k 3 && (ltb a p && (ltb b p && (leb 2 k || eqb b a)))

abbrev pub in_kind_at : List ℕ → ℕ → ℕ → Bool
in_kind_at s p i = in_kind p (get_or s (3 * i) 0) (get_or s (3 * i + 1) 0) (get_or s (3 * i + 2) 0)

abbrev pub sound : List ℕ → ℕ → Bool
sound s p = leb p 6 && every_below (length s / 3) (in_kind_at s p)

-- how long the Goal body is: Q·2^P + Q
abbrev pub body_size : List Clause → ℕ → ℕ
body_size cs p = states cs * 2 ^ p + states cs

-- the first number that applies, or 0: 7 if the output is short
abbrev pub slips_refusal : List ℕ → ℕ → ℕ → ℕ
slips_refusal s p room =
    cond (not (counted s)) 14
    (cond (not (sound s p)) 15
    (cond (ltb room (body_size (clauses s) p)) 7
    0))

-- g is the Goal body of the clauses: the next goal state for goal state 0 under labels 0, 1, .., then for goal state 1, and so on;
-- then a mark for each goal state, 1 final or 0 not.
pub record Body (cs : List Clause) (p : ℕ) (g : List ℕ) : Type 0 where
  pub long : length g ≡ body_size cs p
  pub rows : (q l : ℕ) → q < states cs → l < 2 ^ p → get_or g (q * 2 ^ p + l) 0 ≡ steps cs q l
  pub marks : (q : ℕ) → q < states cs → get_or g (states cs * 2 ^ p + q) 0 ≡ one (finals cs q)

-- The figures of an answer: success is 0 with the length of the body, and a refusal returns its number with the length 0.
abbrev pub written_refusal : Result ℕ Refusal → ℕ
written_refusal (Ok n) = 0
written_refusal (Err r) = (refusal_fault r).number

abbrev pub written_length : Result ℕ Refusal → ℕ
written_length (Ok n) = n
written_length (Err r) = 0

-- `Writing s p before r n after`: for the slips s and P propositions, and an output that holds `before`, the call answers r and n,
-- the body's length, and leaves `after`. A refusal keeps every byte; bytes beyond the body stay.
pub data Writing (s : List ℕ) (p : ℕ) (before : List ℕ) : ℕ → ℕ → List ℕ → Type 0 where
  refused : (slips_refusal s p (length before) ≡ 0 → ⊥) → Writing s p before (slips_refusal s p (length before)) 0 before
  written : {g : List ℕ} → slips_refusal s p (length before) ≡ 0 → Body (clauses s) p g
      → Writing s p before 0 (body_size (clauses s) p) (g ++ drop (body_size (clauses s) p) before)
