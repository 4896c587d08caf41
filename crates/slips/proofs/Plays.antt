-- A job whose Goal body was written from slips: the goal state of a play's last place is final exactly when the clauses hold on the labels
-- of the states visited so far. A play stops at its first accepted place, so the goal is met when the clauses hold on some beginning of it.
use Prim.Native.Nat.{ℕ, suc, ◌+◌, ◌*◌, ◌^◌, ◌≤◌, ◌<◌}
use mathlib.Core.Bool.{Bool, true, false}
use mathlib.Core.List.{List, [], ◌∷◌, ◌++◌}
use mathlib.Core.Logic.{◌↔◌}
use mathlib.Core.Path.{◌≡◌, refl, sym, ◌∙◌, ap, subst}
use native.Mathlib.Nat.{mul-suc, eq_of_mul-eq-mul_right}
use native.Mathlib.Omega.{arith}
use borrow.Author.Tests.{not-true}
use lib.Arith.{digits_lt}
use lib.Dec.{eqb}
use lib.ListN.{length, get_or, drop, length-append, length-drop}
use lib.Seq.{length-take-le, get_or-take, get_or-drop}
use Rattle.sets.specs.Sets.{one}
use Rattle.game.specs.Game.{Play, begin, then, last, Inside, Way, run, Obeys, Winning}
use Rattle.game.specs.Visits.{Goes, so_far, further, trace}
use Rattle.game.proofs.Tests.{and_iff}
use Rattle.game.proofs.Visiting.{goes_inside, run_goes}
use Rattle.rules.specs.Formula.{Nonempty}
use Rattle.rules.specs.Job.{Job, start, arena}
use Rattle.rules.specs.Bytes.{offset, size, byte, mark, said, goal}
use Rattle.rules.specs.Keeps.{Keeps}
use Rattle.rules.specs.Trace.{reads, label_of}
use Rattle.rules.specs.declared.place.Place.{Place}
use Rattle.rules.proofs.Arenas.{inside_iff, start_inside, arena_lawful}
use Rattle.rules.proofs.Judged.{goal_iff}
use Rattle.rules.proofs.Traces.{reads_more, traced}
use Rattle.slips.specs.Clauses.{Clause, AllHold, states, steps, finals}
use Rattle.slips.specs.Writing.{body_size, Body}
use Rattle.slips.specs.Playing.{goal_body, GoalFrom}
use Rattle.slips.proofs.Accept.{slips_accept, some_states, steps_below, reads_below}
use Rattle.slips.proofs.Unique.{mark_few}

snoc_some : (t : List ℕ) (l : ℕ) → Nonempty (t ++ (l ∷ []))
snoc_some t l e = let z : length (t ++ (l ∷ [])) ≡ 0 = ap length e in omega (arith, length-append t (l ∷ []))

pub trace_some : {P : Type 0} (label : P → ℕ) (h : Play P) → Nonempty (trace label h)
trace_some label (begin p) = snoc_some [] (label p)
trace_some label (then h a p) = snoc_some (trace label h) (label p)

one_is : (x : Bool) → eqb (one x) 1 ≡ x
one_is true = refl
one_is false = refl

-- as many goal states as rows and marks have room for
same_rows : (w a c : ℕ) → a * w + a ≡ c * w + c → a ≡ c
same_rows w a c e = eq_of_mul-eq-mul_right (suc w) (omega arith) a c (mul-suc a w ∙ e ∙ sym (mul-suc c w))

module _ (cs : List Clause) (b : List ℕ) (x : Body cs (said b).propositions (goal_body b)) (e : length (goal_body b) ≡ size b 3) where
  abbrev w : ℕ
  w = 2 ^ (said b).propositions

  -- a byte of the Goal body is one of the job's
  stands : (k : ℕ) → k < body_size cs (said b).propositions → byte b 3 k ≡ get_or (goal_body b) k 0
  stands k h = sym (get_or-take (size b 3) (drop (offset b 3) b) k 0 (omega (arith, x.long)) ∙ get_or-drop (offset b 3) b k 0)

  -- the job's automaton is that of the clauses
  pub next_is : (q l : ℕ) → q < states cs → l < w → (said b).next q l ≡ steps cs q l
  next_is q l h k = let i : q * w + l < states cs * w = digits_lt h k in stands (q * w + l) (omega arith) ∙ x.rows q l h k

  module _ (n : (said b).goals ≡ states cs) where
    mark_is : (q : ℕ) → q < states cs → mark b q ≡ one (finals cs q)
    mark_is q h = ap (λ (m : ℕ). byte b 3 (m * w + q)) n ∙ stands (states cs * w + q) (omega arith) ∙ x.marks q h

    pub final_is : (q : ℕ) → q < states cs → (said b).final q ≡ finals cs q
    final_is q h = ap (λ (m : ℕ). eqb m 1) (mark_is q h) ∙ one_is (finals cs q)

    -- such a Goal body keeps the rules: 6 is never due
    pub slips_goal : goal b ≡ true
    slips_goal = (goal_iff b).1 (sym e ∙ x.long ∙ ap (λ (m : ℕ). m * w + m) (sym n), (below, marked))
      where
        few : (q : ℕ) → q < (said b).goals → q < states cs
        few q h = subst (λ (m : ℕ). q < m) n h

        below : (q l : ℕ) → q < (said b).goals → l < w → (said b).next q l < (said b).goals
        below q l h k = rw (next_is q l (few q h) k, n) (steps_below cs q l (few q h))

        marked : (q : ℕ) → q < (said b).goals → mark b q ≤ 1
        marked q h = rw (mark_is q (few q h)) (mark_few (finals cs q))

-- ---- along the plays of a job that keeps the rules

module _ {b : List ℕ} (keeps : Keeps b) {cs : List Clause} (f : GoalFrom cs b) where
  abbrev j : Job
  j = said b

  body_long : length (goal_body b) ≡ size b 3
  body_long =
      length-take-le (size b 3) (drop (offset b 3) b) (omega (arith, length-drop (offset b 3) b, keeps.ends))

  -- the job has as many goal states as the clauses
  pub goals_are : j.goals ≡ states cs
  goals_are = same_rows (2 ^ j.propositions) j.goals (states cs) (sym keeps.goal_long ∙ sym body_long ∙ f.body.long)

  step_is : (q l : ℕ) → q < states cs → l < 2 ^ j.propositions → j.next q l ≡ steps cs q l
  step_is = next_is cs b f.body body_long

  label_few : (p : Place) → Inside (arena j) p → label_of j p < 2 ^ j.propositions
  label_few p i = keeps.label_below p.state ((inside_iff j p).0 i).0

  -- the job's automaton and that of the clauses make the same of a play's trace
  reads_is : {h : Play Place} → Goes (arena j) (begin (start j)) h
      → reads j.next 0 (trace (label_of j) h) ≡ reads (steps cs) 0 (trace (label_of j) h)
  reads_is so_far = step_is 0 (label_of j (start j)) (some_states cs) (label_few (start j) (start_inside b keeps))
  reads_is (further {k} {a} {t} g m) =
      let l : ℕ = label_of j t in
      let before : List ℕ = trace (label_of j) k in
      let i = goes_inside (arena j) (arena_lawful b keeps) (start_inside b keeps) (further g m) in
      reads_more j.next 0 l before ∙ ap (λ (q : ℕ). j.next q l) (reads_is g)
      ∙ step_is (reads (steps cs) 0 before) l (reads_below cs 0 before (some_states cs)) (label_few t i)
      ∙ sym (reads_more (steps cs) 0 l before)

  module _ {h : Play Place} (g : Goes (arena j) (begin (start j)) h) where
    goal_is : (last h).goal ≡ reads (steps cs) 0 (trace (label_of j) h)
    goal_is = traced j g ∙ ap (λ (q : ℕ). reads j.next q (trace (label_of j) h)) f.first ∙ reads_is g

    -- THE GOAL OF A PLAY. At each place of a play from the starting place the goal state is final exactly when every clause holds on the
    -- labels of the states visited so far.
    pub slips_final : (j.final (last h).goal ≡ true) ↔ AllHold cs (trace (label_of j) h)
    slips_final =
        let t : List ℕ = trace (label_of j) h in
        rw (goal_is, final_is cs b f.body body_long goals_are (reads (steps cs) 0 t) (reads_below cs 0 t (some_states cs)))
        (slips_accept cs t (trace_some (label_of j) h))

    -- The goal is met there exactly when they hold and the state is not busy.
    pub slips_met : ((arena j).accepted (last h) ≡ true) ↔ (AllHold cs (trace (label_of j) h) × (j.busy (last h).state ≡ false))
    slips_met = and_iff slips_final (not-true (j.busy (last h).state), λ e. rw e)

  -- The starting place is winning exactly when some way of choosing brings every clause to hold on the labels visited, at some moment and in
  -- a state that is not busy, against every sequence of listed outcomes.
  abbrev pub HoldsAt : Way (arena j) → (ℕ → Place) → ℕ → Type 0
  HoldsAt σ o n =
      let h = run (arena j) σ o (begin (start j)) n in AllHold cs (trace (label_of j) h) × (j.busy (last h).state ≡ false)

  goes : (σ : Way (arena j)) (o : ℕ → Place) (n : ℕ) → Obeys (arena j) σ o (begin (start j))
      → Goes (arena j) (begin (start j)) (run (arena j) σ o (begin (start j)) n)
  goes σ o n = run_goes (arena j) σ n (begin (start j)) o

  pub slips_winning : Winning (arena j) (start j)
      ↔ ((σ : Way (arena j)) × ((o : ℕ → Place) → Obeys (arena j) σ o (begin (start j)) → (n : ℕ) × HoldsAt σ o n))
  slips_winning = (
    λ t. (t.0, λ o ob. let (n, y) = t.1 o ob in (n, (slips_met (goes t.0 o n ob)).0 y)),
    λ t. (t.0, λ o ob. let (n, y) = t.1 o ob in (n, (slips_met (goes t.0 o n ob)).1 y)),
  )
