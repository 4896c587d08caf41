-- For slips and labels below 2^P the judge's answer is that of their automaton.
use Prim.Native.Nat.{ℕ, zero, suc, ◌+◌, ◌*◌, ◌/◌, ◌%◌, ◌^◌, ◌≤◌, ◌<◌}
use mathlib.Core.Bool.{Bool, true, false, cond, not, ◌&&◌}
use mathlib.Core.List.{List, [], ◌∷◌}
use mathlib.Core.Logic.Iff
use mathlib.Core.Path.{◌≡◌, refl, sym, ◌∙◌, ap}
use native.Mathlib.Omega.{arith}
use lib.Dec.{leb, ltb, eqb}
use lib.ListN.{length, get_or}
use lib.Pow.{pow_mono}
use borrow.Author.Tests.{leb-true, ltb-true}
use Rattle.sets.specs.Sets.{bit, one}
use Rattle.game.proofs.Search.{clash}
use Rattle.game.proofs.Tests.{and_iff, every_iff}
use Rattle.rules.specs.Formula.{Nonempty}
use Rattle.rules.specs.Sat.{sat}
use Rattle.rules.specs.Trace.{reads}
use Rattle.rules.proofs.Decided.{satisfies_iff}
use Rattle.slips.specs.Clauses.{Clause, existence, absence, response, precedence, formula, steps, finals}
use Rattle.slips.specs.Writing.{clause_of, clause_at, clauses_from, clauses, counted, in_kind_at, sound}
use Rattle.slips.proofs.Accept.{all_sat, all_sat_is}
use Rattle.slips.proofs.Stepping.{length_from}
use Rattle.judging.specs.Formulas.{nodes, depth, written, Atoms, Formed}
use Rattle.judging.specs.Judging.{TraceFits, LabelsFit, Judging, yes, no}
use Rattle.judging.specs.SlipFormulas.{goal_of}
use Rattle.judging.proofs.Bytes.{length_written}

-- ---- the formula of slips is short, shallow, and has no atom above 5

nodes_clause : (c : Clause) → nodes (formula c) ≤ 11
unfolding nodes
nodes_clause (existence a) = omega arith
nodes_clause (absence a) = omega arith
nodes_clause (response a b) = omega arith
nodes_clause (precedence a b) = omega arith

nodes_goal : (c : Clause) (cs : List Clause) → nodes (goal_of (c ∷ cs)) ≤ 11 + 12 * length cs
unfolding goal_of nodes
nodes_goal c [] = omega (arith, nodes_clause c)
nodes_goal c (d ∷ cs) = omega (arith, nodes_clause c, nodes_goal d cs)

depth_clause : (c : Clause) → depth (formula c) ≤ 2
unfolding depth
depth_clause (existence a) = omega arith
depth_clause (absence a) = omega arith
depth_clause (response a b) = omega arith
depth_clause (precedence a b) = omega arith

depth_goal : (c : Clause) (cs : List Clause) → depth (goal_of (c ∷ cs)) ≤ 2
unfolding goal_of depth
depth_goal c [] = depth_clause c
depth_goal c (d ∷ cs) = omega (arith, depth_clause c, depth_goal d cs)

-- the propositions of a clause lie below p
abbrev Low : ℕ → Clause → Type 0
Low p (existence a) = a < p
Low p (absence a) = a < p
Low p (response a b) = (a < p) × (b < p)
Low p (precedence a b) = (a < p) × (b < p)

unfoldable AllLow : ℕ → List Clause → Type 0
AllLow p [] = Unit {0}
AllLow p (c ∷ cs) = Low p c × AllLow p cs

atoms_clause : (p : ℕ) → p ≤ 6 → (c : Clause) → Low p c → Atoms (formula c)
unfolding Atoms
atoms_clause p h (existence a) l = omega arith
atoms_clause p h (absence a) l = omega arith
atoms_clause p h (response a b) l = (omega (arith, l.0), omega (arith, l.1))
atoms_clause p h (precedence a b) l = ((omega (arith, l.1), omega (arith, l.0)), omega (arith, l.1))

atoms_goal : (p : ℕ) → p ≤ 6 → (c : Clause) (cs : List Clause) → AllLow p (c ∷ cs) → Atoms (goal_of (c ∷ cs))
unfolding goal_of Atoms AllLow
atoms_goal p h c [] l = atoms_clause p h c l.0
atoms_goal p h c (d ∷ cs) l = (atoms_clause p h c l.0, atoms_goal p h d cs l.1)

low_of : (p k a b : ℕ) → a < p → b < p → Low p (clause_of k a b)
low_of p k a b h l = go (eqb k 0) (eqb k 1) (eqb k 2)
  where
    go : (x y z : Bool) → Low p (cond x (existence a) (cond y (absence a) (cond z (response a b) (precedence a b))))
    go true y z = h
    go false true z = h
    go false false true = (h, l)
    go false false false = (h, l)

low_from : (p : ℕ) (s : List ℕ) (n i : ℕ)
    → ((k : ℕ) → k < n → (get_or s (3 * k + i + 1) 0 < p) × (get_or s (3 * k + i + 2) 0 < p)) → AllLow p (clauses_from s i n)
unfolding clauses_from AllLow
low_from p s zero i h = tt
low_from p s (suc n) i h = (
  low_of p (get_or s i 0) (get_or s (i + 1) 0) (get_or s (i + 2) 0) (rw z at (h 0 (omega arith)).0) (rw z at (h 0 (omega arith)).1),
  low_from p s n (i + 3) (λ k l. let e : 3 * suc k + i ≡ 3 * k + (i + 3) = omega arith in rw e at (h (suc k) (omega arith))),
)
  where
    z : 3 * 0 + i ≡ i
    z = omega arith

-- slips that are not refused have propositions below p
low_slips : (s : List ℕ) (p : ℕ) → sound s p ≡ true → AllLow p (clauses s)
low_slips s p e = low_from p s (length s / 3) 0 at
  where
    each_in : (k : ℕ) → k < length s / 3 → in_kind_at s p k ≡ true
    each_in = (every_iff (in_kind_at s p) (λ k. Iff.rfl) (length s / 3)).0 ((and_iff {x = leb p 6} Iff.rfl Iff.rfl).0 e).1

    at : (k : ℕ) → k < length s / 3 → (get_or s (3 * k + 0 + 1) 0 < p) × (get_or s (3 * k + 0 + 2) 0 < p)
    at k h =
        let z : 3 * k + 0 ≡ 3 * k = omega arith in
        let kind = (and_iff {x = leb (get_or s (3 * k) 0) 3} Iff.rfl Iff.rfl).0 (each_in k h) in
        let first = (and_iff {x = ltb (get_or s (3 * k + 1) 0) p} Iff.rfl Iff.rfl).0 kind.1 in
        let second = (and_iff {x = ltb (get_or s (3 * k + 2) 0) p} Iff.rfl Iff.rfl).0 first.1 in
        rw z (ltb-true (get_or s (3 * k + 1) 0) p first.0, ltb-true (get_or s (3 * k + 2) 0) p second.0)

-- ---- the formula of clauses holds when all of them do

goal_sat : (cs : List Clause) (t : List ℕ) → sat (goal_of cs) t ≡ all_sat cs t
unfolding goal_of all_sat sat
goal_sat [] t = go (bit (get_or t 0 0) 0)
  where
    go : (x : Bool) → not (x && not x) ≡ true
    go true = refl
    go false = refl
goal_sat (c ∷ []) t = go (sat (formula c) t)
  where
    go : (x : Bool) → x ≡ (x && true)
    go true = refl
    go false = refl
goal_sat (c ∷ d ∷ cs) t = ap (λ (x : Bool). sat (formula c) t && x) (goal_sat (d ∷ cs) t)

-- ---- the judge and the automaton

-- what the automaton of clauses says of a trace
abbrev pub accepts : List Clause → List ℕ → Bool
accepts cs t = finals cs (reads (steps cs) 0 t)

pub nonempty : (t : List ℕ) → TraceFits t → Nonempty t
nonempty t u e = let z : length t ≡ 0 = ap length e in omega (arith, u.some)

judged_by : {b : List ℕ} (t : List ℕ) (cs : List Clause) → TraceFits t → Formed b (goal_of cs) → depth (goal_of cs) ≤ 3 → LabelsFit t
    → Judging b t 0 (one (accepts cs t))
judged_by {b} t cs u x d l = go (accepts cs t) refl
  where
    says : sat (goal_of cs) t ≡ accepts cs t
    says = goal_sat cs t ∙ sym (all_sat_is cs t)

    go : (v : Bool) → accepts cs t ≡ v → Judging b t 0 (one v)
    go true e = yes u x d l ((satisfies_iff t (goal_of cs) (nonempty t u)).0 (says ∙ e))
    go false e = no u x d l (λ h. clash ((satisfies_iff t (goal_of cs) (nonempty t u)).1 h) (says ∙ e))

cons_of : (s : List ℕ) (p : ℕ) (t : List ℕ) (n : ℕ) → suc n ≤ 3 → AllLow p (clauses_from s 0 (suc n))
    → ((d : Clause) (cs : List Clause) → length cs ≤ 2 → AllLow p (d ∷ cs) → Judging (written (goal_of (d ∷ cs))) t 0 (one (accepts (d ∷ cs) t)))
    → Judging (written (goal_of (clauses_from s 0 (suc n)))) t 0 (one (accepts (clauses_from s 0 (suc n)) t))
unfolding clauses_from
cons_of s p t n k a f = f (clause_at s 0) (clauses_from s 3 n) (omega (arith, length_from s n 3)) a

-- The answer for the formula of slips that are not refused is their automaton's, on a trace of 1 to 64 labels below 2^P.
pub slips_judged : (s : List ℕ) (p : ℕ) (t : List ℕ) → counted s ≡ true → sound s p ≡ true → TraceFits t
    → ((i : ℕ) → i < length t → get_or t i 0 < 2 ^ p) → Judging (written (goal_of (clauses s))) t 0 (one (accepts (clauses s) t))
slips_judged s p t c e u l = go (length s / 3) (omega (arith, many)) (omega (arith, few)) (low_slips s p e)
  where
    multiple : (eqb (length s % 3) 0 ≡ true) × ((leb 3 (length s) && leb (length s) 9) ≡ true)
    multiple = (and_iff Iff.rfl Iff.rfl).0 c

    many : 3 ≤ length s
    many = leb-true 3 (length s) ((and_iff Iff.rfl Iff.rfl).0 multiple.1).0

    few : length s ≤ 9
    few = leb-true (length s) 9 ((and_iff {x = leb 3 (length s)} Iff.rfl Iff.rfl).0 multiple.1).1

    low_p : p ≤ 6
    low_p = leb-true p 6 ((and_iff {x = leb p 6} Iff.rfl Iff.rfl).0 e).0

    labels : LabelsFit t
    labels i h = let m : 2 ^ p ≤ 2 ^ 6 = pow_mono low_p in omega (arith, l i h)

    joined : (d : Clause) (cs : List Clause) → length cs ≤ 2 → AllLow p (d ∷ cs)
        → Judging (written (goal_of (d ∷ cs))) t 0 (one (accepts (d ∷ cs) t))
    joined d cs h a =
        let short : length (written (goal_of (d ∷ cs))) ≤ 64 = omega (arith, length_written (goal_of (d ∷ cs)), nodes_goal d cs) in
        let shallow : depth (goal_of (d ∷ cs)) ≤ 3 = omega (arith, depth_goal d cs) in
        judged_by t (d ∷ cs) u (record { bytes = refl; few = short; atoms = atoms_goal p low_p d cs a }) shallow labels

    -- of so many clauses
    go : (n : ℕ) → 1 ≤ n → n ≤ 3 → AllLow p (clauses_from s 0 n)
        → Judging (written (goal_of (clauses_from s 0 n))) t 0 (one (accepts (clauses_from s 0 n) t))
    go zero h k a = absurd (omega arith)
    go (suc n) h k a = cons_of s p t n k a joined

-- the bytes of each clause's formula
pub existence_bytes : (a : ℕ) → written (formula (existence a)) ≡ (21 ∷ a ∷ [])
unfolding written
existence_bytes a = refl

pub absence_bytes : (a : ℕ) → written (formula (absence a)) ≡ (22 ∷ 16 ∷ a ∷ [])
unfolding written
absence_bytes a = refl

pub response_bytes : (a b : ℕ) → written (formula (response a b)) ≡ (22 ∷ 16 ∷ 17 ∷ a ∷ 16 ∷ 21 ∷ b ∷ [])
unfolding written
response_bytes a b = refl

pub precedence_bytes : (a b : ℕ) → written (formula (precedence a b)) ≡ (16 ∷ 17 ∷ 16 ∷ 19 ∷ 16 ∷ b ∷ a ∷ 16 ∷ 22 ∷ 16 ∷ b ∷ [])
unfolding written
precedence_bytes a b = refl
