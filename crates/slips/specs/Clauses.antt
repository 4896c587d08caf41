-- Slips: up to three clauses that must all hold, as formulas of document 004 and as one automaton.
use Rattle.std.specs.Prelude.{ℕ, ◌+◌, ◌*◌, ◌/◌, ◌%◌, ◌^◌, Bool, true, cond, not, ◌&&◌, ltb, eqb, length}
use mathlib.Core.List.{List, [], ◌∷◌, Memᴰ}
use Rattle.sets.specs.Sets.{bit}
use Rattle.rules.specs.Formula.{Formula, implies, or, Satisfies}

-- existence: eventually a; absence: always not a; response: always, a implies eventually b; precedence: not b until a, or never b
pub data Clause : Type 0 where
  existence : ℕ → Clause
  absence : ℕ → Clause
  response : ℕ → ℕ → Clause
  precedence : ℕ → ℕ → Clause

abbrev pub formula : Clause → Formula
formula (existence a) = Formula.eventually (Formula.atom a)
formula (absence a) = Formula.always (Formula.not (Formula.atom a))
formula (response a b) = Formula.always (implies (Formula.atom a) (Formula.eventually (Formula.atom b)))
formula (precedence a b) =
    or (Formula.until (Formula.not (Formula.atom b)) (Formula.atom a)) (Formula.always (Formula.not (Formula.atom b)))

-- every clause holds at the first moment of the trace
abbrev pub AllHold : List Clause → List ℕ → Type 0
AllHold cs t = (c : Clause) → Memᴰ c cs → Satisfies t (formula c)

-- The next goal state of one clause, from goal state q under the label l. Of three states 0 is first; an unused third leads to itself.
-- Existence: 1 once seen. Absence: 1 once broken. Response: 1 while b is owed; b at the same moment as a pays.
-- Precedence: 1 once a is seen, also together with b, 2 once b came first.
unfoldable pub step : Clause → ℕ → ℕ → ℕ
step (existence a) q l = cond (eqb q 0 && bit l a) 1 q
step (absence a) q l = cond (eqb q 0 && bit l a) 1 q
step (response a b) q l = cond (eqb q 0) (cond (bit l a && not (bit l b)) 1 0) (cond (eqb q 1 && bit l b) 0 q)
step (precedence a b) q l = cond (eqb q 0) (cond (bit l a) 1 (cond (bit l b) 2 0)) q

unfoldable pub final : Clause → ℕ → Bool
final (existence a) q = eqb q 1
final (absence a) q = eqb q 0
final (response a b) q = eqb q 0
final (precedence a b) q = ltb q 2

-- The goal of several clauses: its states are numbers in base three, a digit a clause, the first clause leading.
abbrev pub states : List Clause → ℕ
states cs = 3 ^ length cs

unfoldable pub steps : List Clause → ℕ → ℕ → ℕ
steps [] q l = 0
steps (c ∷ cs) q l = step c (q / states cs) l * states cs + steps cs (q % states cs) l

unfoldable pub finals : List Clause → ℕ → Bool
finals [] q = true
finals (c ∷ cs) q = final c (q / states cs) && finals cs (q % states cs)
