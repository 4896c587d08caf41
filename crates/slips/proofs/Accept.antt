-- Acceptance, once for any number of clauses: from state 0 the goal ends in a final state exactly when every clause holds.
use Prim.Native.Nat.{ℕ, ◌+◌, ◌*◌, ◌/◌, ◌%◌, ◌<◌}
use mathlib.Core.Bool.{Bool, true, false, cond, not, ◌&&◌}
use mathlib.Core.List.Memᴰ
use mathlib.Core.List.{List, [], ◌∷◌}
use mathlib.Core.Logic.Iff
use mathlib.Core.Logic.{⊎_elim, ◌↔◌}
use mathlib.Core.Path.{◌≡◌, refl, ◌∙◌, ap, ap₂}
use native.Mathlib.Nat.{mod-lt, div-lt_iff_lt-mul, one-le-pow, pow-suc, zero-mul}
use native.Mathlib.Omega.{arith}
use lib.Arith.{digits_lt, digits_div, digits_mod}
use lib.Dec.{eqb}
use lib.ListN.{length}
use Rattle.sets.specs.Sets.{bit}
use Rattle.game.proofs.Tests.{and_iff}
use Rattle.rules.specs.Formula.{Nonempty, Satisfies}
use Rattle.rules.specs.Sat.{sat}
use Rattle.rules.proofs.Decided.{satisfies_iff}
use Rattle.slips.specs.Clauses.{Clause, existence, absence, response, precedence, formula, AllHold, step, final}
use Rattle.slips.specs.Clauses.{states, steps, finals}
use Rattle.rules.specs.Trace.{reads}
use Rattle.slips.proofs.One.{clause_is}

-- ---- states in base three

pub some_states : (cs : List Clause) → 0 < states cs
some_states cs = one-le-pow (length cs) 3 (omega arith)

pub steps_cons : (c : Clause) (cs : List Clause) (d r l : ℕ) → r < states cs
    → steps (c ∷ cs) (d * states cs + r) l ≡ step c d l * states cs + steps cs r l
unfolding steps
steps_cons c cs d r l h = rw (digits_div d h, digits_mod d h)

pub finals_cons : (c : Clause) (cs : List Clause) (d r : ℕ) → r < states cs
    → finals (c ∷ cs) (d * states cs + r) ≡ (final c d && finals cs r)
unfolding finals
finals_cons c cs d r h = rw (digits_div d h, digits_mod d h)

pub below_states : (c : Clause) (cs : List Clause) (d r : ℕ) → d < 3 → r < states cs → d * states cs + r < states (c ∷ cs)
below_states c cs d r h l = let m : d * states cs + r < 3 * states cs = digits_lt h l in omega (arith, pow-suc 3 (length cs))

if_below : (x : Bool) {a b n : ℕ} → a < n → b < n → cond x a b < n
if_below true h l = h
if_below false h l = l

pub step_below : (c : Clause) (q l : ℕ) → q < 3 → step c q l < 3
unfolding step
step_below (existence a) q l h = if_below (eqb q 0 && bit l a) (omega arith) h
step_below (absence a) q l h = if_below (eqb q 0 && bit l a) (omega arith) h
step_below (response a b) q l h =
    if_below (eqb q 0) (if_below (bit l a && not (bit l b)) (omega arith) (omega arith)) (if_below (eqb q 1 && bit l b) (omega arith) h)
step_below (precedence a b) q l h = if_below (eqb q 0) (if_below (bit l a) (omega arith) (if_below (bit l b) (omega arith) (omega arith))) h

pub steps_below : (cs : List Clause) (q l : ℕ) → q < states cs → steps cs q l < states cs
unfolding steps
steps_below [] q l h = omega arith
steps_below (c ∷ cs) q l h =
    let d : q / states cs < 3 = (div-lt_iff_lt-mul (some_states cs)).1 (omega (arith, pow-suc 3 (length cs))) in
    below_states c cs (step c (q / states cs) l) (steps cs (q % states cs) l) (step_below c (q / states cs) l d)
    (steps_below cs (q % states cs) l (mod-lt q (some_states cs)))

pub reads_below : (cs : List Clause) (q : ℕ) (t : List ℕ) → q < states cs → reads (steps cs) q t < states cs
reads_below cs q [] h = h
reads_below cs q (l ∷ ls) h = reads_below cs (steps cs q l) ls (steps_below cs q l h)

-- the first clause's automaton and the others' run beside each other
pub reads_cons : (c : Clause) (cs : List Clause) (t : List ℕ) (d r : ℕ) → r < states cs
    → reads (steps (c ∷ cs)) (d * states cs + r) t ≡ reads (step c) d t * states cs + reads (steps cs) r t
reads_cons c cs [] d r h = refl
reads_cons c cs (l ∷ ls) d r h =
    ap (λ (x : ℕ). reads (steps (c ∷ cs)) x ls) (steps_cons c cs d r l h)
    ∙ reads_cons c cs ls (step c d l) (steps cs r l) (steps_below cs r l h)

-- ---- acceptance

-- the test of every clause
unfoldable pub all_sat : List Clause → List ℕ → Bool
all_sat [] t = true
all_sat (c ∷ cs) t = sat (formula c) t && all_sat cs t

pub all_sat_is : (cs : List Clause) (t : List ℕ) → finals cs (reads (steps cs) 0 t) ≡ all_sat cs t
unfolding all_sat finals
all_sat_is [] t = refl
all_sat_is (c ∷ cs) t =
    let e : 0 ≡ 0 * states cs + 0 = omega (arith, zero-mul (states cs)) in
    ap (λ (q : ℕ). finals (c ∷ cs) (reads (steps (c ∷ cs)) q t)) e
    ∙ ap (finals (c ∷ cs)) (reads_cons c cs t 0 0 (some_states cs))
    ∙ finals_cons c cs (reads (step c) 0 t) (reads (steps cs) 0 t) (reads_below cs 0 t (some_states cs))
    ∙ ap₂ ◌&&◌ (clause_is c t) (all_sat_is cs t)

cons_iff : (c : Clause) (cs : List Clause) (t : List ℕ) → (Satisfies t (formula c) × AllHold cs t) ↔ AllHold (c ∷ cs) t
cons_iff c cs t = (into, λ h. (h c (Memᴰ.head refl), λ d m. h d (Memᴰ.tail m)))
  where
    into : Satisfies t (formula c) × AllHold cs t → AllHold (c ∷ cs) t
    into (x, y) d m = ⊎_elim (λ e. rw e x) (λ k. y d k) (Memᴰ.cases_cons m)

pub all_hold_iff : (cs : List Clause) (t : List ℕ) → Nonempty t → (all_sat cs t ≡ true) ↔ AllHold cs t
unfolding all_sat
all_hold_iff [] t n = (λ e c m. absurd (Memᴰ.not-nil m), λ h. refl)
all_hold_iff (c ∷ cs) t n = Iff.trans (and_iff (satisfies_iff t (formula c) n) (all_hold_iff cs t n)) (cons_iff c cs t)

-- Reading a nonempty trace from state 0 ends in a final state exactly when every clause holds at its first moment.
pub slips_accept : (cs : List Clause) (t : List ℕ) → Nonempty t → (finals cs (reads (steps cs) 0 t) ≡ true) ↔ AllHold cs t
slips_accept cs t n = rw (all_sat_is cs t) (all_hold_iff cs t n)
