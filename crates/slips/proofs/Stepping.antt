-- The clauses from a byte on: one is taken off, and the numbers stay small.
use Prim.Native.Nat.{ℕ, zero, suc, ◌+◌, ◌-◌, ◌*◌, ◌/◌, ◌%◌, ◌^◌, ◌≤◌, ◌<◌}
use mathlib.Core.Bool.{Bool, true, false, ◌&&◌}
use mathlib.Core.List.{List, ◌∷◌}
use mathlib.Core.Path.{◌≡◌, refl, sym, ◌∙◌, ap}
use native.Mathlib.Nat.{mod-lt, div-lt_iff_lt-mul, one-le-pow, pow-suc, pow-le-pow_right, mul-le-mul, le_of_suc-le-suc}
use native.Mathlib.Omega.{arith}
use lib.ListN.{length, get_or}
use Rattle.slips.specs.Clauses.{Clause, states, step, final, steps, finals}
use Rattle.slips.specs.Writing.{clause_of, clause_in, clause_at, clauses_from}
use Rattle.slips.specs.declared.kind.Kind.{Kind}
use Rattle.slips.specs.Filling.{StateLeft}
use Rattle.slips.proofs.Accept.{step_below, steps_below}

pub length_from : (s : List ℕ) (n i : ℕ) → length (clauses_from s i n) ≡ n
unfolding clauses_from
length_from s zero i = refl
length_from s (suc n) i = omega (arith, length_from s n (i + 3))

pub states_from : (s : List ℕ) (n i : ℕ) → states (clauses_from s i n) ≡ 3 ^ n
states_from s n i = ap (λ (k : ℕ). 3 ^ k) (length_from s n i)

pub power_some : (n : ℕ) → 0 < 3 ^ n
power_some n = one-le-pow n 3 (omega arith)

pub power_few : (n k : ℕ) → n ≤ k → 3 ^ n ≤ 3 ^ k
power_few n k h = pow-le-pow_right (omega arith) h

from_suc : (s : List ℕ) (at m : ℕ) → (m ≡ 0 → ⊥) → clauses_from s at m ≡ clause_at s at ∷ clauses_from s (at + 3) (m - 1)
unfolding clauses_from
from_suc s at zero k = absurd (k refl)
from_suc s at (suc m) k = let e : suc m - 1 ≡ m = omega arith in rw e

-- what is promised of a kind by its name is promised of its number
module _ (k : Kind) (s : List ℕ) (at q : ℕ) (h : (a b : ℕ) → clause_in k a b ≡ clause_of (get_or s at 0) a b) where
  pub stepped_by : (l f : ℕ) → f ≡ step (clause_in k (get_or s (at + 1) 0) (get_or s (at + 2) 0)) q l → f ≡ step (clause_at s at) q l
  stepped_by l f e = e ∙ ap (λ (c : Clause). step c q l) (h (get_or s (at + 1) 0) (get_or s (at + 2) 0))

  pub final_by : (y : Bool) → ((a b : ℕ) → y ≡ final (clause_in k a b) q) → (a b : ℕ) → y ≡ final (clause_of (get_or s at 0) a b) q
  final_by y e a b = e a b ∙ ap (λ (c : Clause). final c q) (h a b)

module _ (s : List ℕ) (at left : ℕ) (n : left ≡ 0 → ⊥) where
  abbrev others : List Clause
  others = clauses_from s (at + 3) (left - 1)

  abbrev w : ℕ
  w = 3 ^ (left - 1)

  cons_is : clauses_from s at left ≡ clause_at s at ∷ others
  cons_is = from_suc s at left n

  steps_from : (q l : ℕ) → step (clause_at s at) (q / w) l * w + steps others (q % w) l ≡ steps (clauses_from s at left) q l
  unfolding steps
  steps_from q l = rw (cons_is, states_from s (left - 1) (at + 3))

  finals_from : (q : ℕ) → (final (clause_at s at) (q / w) && finals others (q % w)) ≡ finals (clauses_from s at left) q
  unfolding finals
  finals_from q = rw (cons_is, states_from s (left - 1) (at + 3))

-- there is a clause left, and q is a state of those that are
pub record More (s : List ℕ) (at left q : ℕ) : Type 0 where
  pub some : left ≡ 0 → ⊥
  pub left_state : StateLeft s at left q

module _ {s : List ℕ} {at left q : ℕ} (x : More s at left q) where
  -- the clause's three bytes lie inside the slips
  pub inside : at + 3 ≤ length s
  inside = omega (arith, x.some, x.left_state.within)

  pub few_more : left - 1 ≤ 2
  few_more = omega (arith, x.left_state.few)

  pub some_more : 1 ≤ left
  some_more = omega (arith, x.some)

  digit_below : q / 3 ^ (left - 1) < 3
  digit_below =
      let e : suc (left - 1) ≡ left = omega (arith, x.some) in
      let p : 3 ^ left ≡ 3 ^ (left - 1) * 3 = ap (λ (k : ℕ). 3 ^ k) (sym e) ∙ pow-suc 3 (left - 1) in
      (div-lt_iff_lt-mul (power_some (left - 1))).1 (omega (arith, x.left_state.state, p))

  -- v is the weight of the first digit
  module _ (v : ℕ) (ev : v ≡ 3 ^ (left - 1)) where
    pub weight_some : 0 < v
    weight_some = omega (arith, ev, power_some (left - 1))

    pub rest_left : StateLeft s (at + 3) (left - 1) (q % v)
    rest_left =
        record {
          within = omega (arith, x.some, x.left_state.within);
          few = omega (arith, x.left_state.few);
          state = rw (← ev) (mod-lt q weight_some);
        }

    few_left : v ≤ 9
    few_left = omega (arith, ev, power_few (left - 1) 2 few_more)

    module _ (l f o : ℕ) (ef : f ≡ step (clause_at s at) (q / v) l) where
      first_below : f < 3
      first_below = rw (ef, ev) (step_below (clause_at s at) (q / 3 ^ (left - 1)) l digit_below)

      pub weighed : f * v ≤ 18
      weighed = mul-le-mul {n₂ = 2} {m₂ = 9} (le_of_suc-le-suc first_below) few_left

      module _ (eo : o ≡ steps (clauses_from s (at + 3) (left - 1)) (q % v) l) where
        pub others_below : o < 9
        others_below =
            let c = clauses_from s (at + 3) (left - 1) in
            let h : q % v < states c = rw (states_from s (left - 1) (at + 3), ← ev) (mod-lt q weight_some) in
            omega (arith, eo, steps_below c (q % v) l h, states_from s (left - 1) (at + 3), few_left, ev)

        pub next_is : f * v + o ≡ steps (clauses_from s at left) q l
        next_is = rw (ef, eo, ev) (steps_from s at left x.some q l)

    module _ (y : Bool) (f : (a b : ℕ) → y ≡ final (clause_of (get_or s at 0) a b) (q / v)) where
      final_first : (z : Bool) → y ≡ z → final (clause_at s at) (q / 3 ^ (left - 1)) ≡ z
      final_first z h = rw (← ev) (sym (f (get_or s (at + 1) 0) (get_or s (at + 2) 0)) ∙ h)

      pub final_yes : (z : Bool) → y ≡ true → z ≡ finals (clauses_from s (at + 3) (left - 1)) (q % v)
          → z ≡ finals (clauses_from s at left) q
      final_yes z h e = rw (← finals_from s at left x.some q, final_first true h, ← ev) e

      pub final_no : y ≡ false → false ≡ finals (clauses_from s at left) q
      final_no h = rw (← finals_from s at left x.some q, final_first false h)
