-- A place is taken: the counters fall at each goal state from which the place is entered, and then count what is not taken.
use Prim.Native.Nat.{ℕ, zero, suc, ◌+◌, ◌*◌, ◌-◌, ◌/◌, ◌%◌, ◌≤◌, ◌<◌, zero-le}
use mathlib.Core.Bool.{Bool, true, false, cond, not, ◌&&◌, and-false, ◌||◌}
use mathlib.Core.List.{List}
use mathlib.Core.Logic.{⊎_elim}
use mathlib.Core.Path.{◌≡◌, refl, sym, ap, ◌∙◌}
use native.Mathlib.Nat.{add-zero, mod-lt}
use native.Mathlib.Omega.{arith}
use borrow.Author.Tests.{lt-ltb, le-ltb, eq-eqb, ne_eqb}
use lib.Arith.{digits_div}
use lib.Dec.{eqb, ltb}
use lib.ListN.{length, get_or}
use Rattle.rules.specs.Bytes.{said}
use Rattle.rules.specs.Keeps.{Keeps}
use Rattle.sets.specs.Sets.{one, count}
use Rattle.rules.specs.Job.{Job, is_from, is_record, entered, entry_number}
use Rattle.sets.proofs.Bits.{same_or}
use Rattle.sets.proofs.Sizes.{count_none}
use Rattle.game.proofs.Tests.{eqb_iff}
use Rattle.phases.specs.declared.phase.Phase.{Phase}
use Rattle.backward.specs.Counts.{counters_size, untaken, Counts, Counted}
use Rattle.backward.specs.Queue.{numbered}
use Rattle.backward.specs.Step.{hit, Lowered, unsure}
use Rattle.backward.proofs.Counting.{listed_count}
use Rattle.backward.proofs.Lowering.{lowered_other}
use Rattle.backward.proofs.Spots.{below_next, beyond_state}
use Rattle.backward.proofs.Walking.{count_over}

-- ---- counts

-- a test that does not depend on the record
count_and : (b : Bool) (r : ℕ → Bool) (n : ℕ) → count (λ i. b && r i) n ≡ cond b (count r n) 0
count_and true r n = refl
count_and false r n = count_over (λ i. false) 0 n zero-le (λ i l g. refl) ∙ count_none (λ i. false)

count_sum : (a b d : ℕ → Bool) (n : ℕ) → ((i : ℕ) → i < n → one (a i) + one (b i) ≡ one (d i)) → count a n + count b n ≡ count d n
unfolding count
count_sum a b d zero h = refl
count_sum a b d (suc n) h = omega (arith, count_sum a b d n (λ i l. h i (omega arith)), h n (omega arith))

-- ---- the goal states below q

module _ (j : Job) (t g : ℕ) where
  -- from goal state q the place of state t and goal state g is entered
  abbrev pub into : ℕ → Bool
  into q = eqb (entered j q t).goal g

  -- the records of the state and action of word y that lead to state t
  abbrev pub lead : ℕ → ℕ
  lead y = count (λ i. is_record (j.move i) (y / j.actions / j.goals) (y % j.actions) t) j.records

  -- what the counter of word y falls by, at goal states below q
  abbrev pub fall : ℕ → ℕ → ℕ
  fall q y = cond (ltb (y / j.actions % j.goals) q && into (y / j.actions % j.goals)) (lead y) 0

  pub record Falling (q : ℕ) (before now : List ℕ) : Type 0 where
    pub as_long : length now ≡ length before
    pub words : (y : ℕ) → get_or now y 0 ≡ get_or before y 0 - fall q y

  abbrev goal_at : ℕ → ℕ
  goal_at y = y / j.actions % j.goals

  pub falling_none : {ws : List ℕ} → Falling 0 ws ws
  falling_none {ws} = record { as_long = refl; words = λ y. rw (le-ltb (goal_at y) 0 zero-le) (omega arith) }

  fall_other : (q y : ℕ) → (goal_at y ≡ q → ⊥) → fall (q + 1) y ≡ fall q y
  fall_other q y n = rw (below_next (goal_at y) q n)

  fall_here : (q y : ℕ) → goal_at y ≡ q → fall q y ≡ 0
  fall_here q y e = rw (le-ltb (goal_at y) q (omega arith))

  module _ {q : ℕ} {before now : List ℕ} (r : Falling q before now) where
    pub falling_skip : into q ≡ false → Falling (q + 1) before now
    falling_skip z =
        record {
          as_long = r.as_long;
          words = λ y. ⊎_elim (same y) (λ (n : goal_at y ≡ q → ⊥). rw (fall_other q y n) (r.words y)) (same_or (goal_at y) q);
        }
      where
        same : (y : ℕ) → goal_at y ≡ q → get_or now y 0 ≡ get_or before y 0 - fall (q + 1) y
        same y e =
            let h : fall (q + 1) y ≡ 0 = rw (e, z, and-false (ltb q (q + 1))) in
            omega (arith, h, fall_here q y e, r.words y)

    pub falling_more : {now' : List ℕ} → into q ≡ true → Lowered j t q j.records now now' → Falling (q + 1) before now'
    falling_more {now'} z x =
        record {
          as_long = x.as_long ∙ r.as_long;
          words = λ y. ⊎_elim (same y) (other y) (same_or (goal_at y) q);
        }
      where
        same : (y : ℕ) → goal_at y ≡ q → get_or now' y 0 ≡ get_or before y 0 - fall (q + 1) y
        same y e =
            let h : fall (q + 1) y ≡ lead y = rw (e, z, lt-ltb q (q + 1) (omega arith)) in
            let k : count (hit j t q y) j.records ≡ lead y = count_and (eqb (goal_at y) q) (λ i. is_record (j.move i) (y / j.actions / j.goals) (y % j.actions) t)
            j.records ∙ rw (eq-eqb (goal_at y) q e) in
            omega (arith, h, k, x.words y, r.words y, fall_here q y e)

        other : (y : ℕ) → (goal_at y ≡ q → ⊥) → get_or now' y 0 ≡ get_or before y 0 - fall (q + 1) y
        other y n = lowered_other x y n ∙ r.words y ∙ rw (fall_other q y n)

-- ---- what has not been taken, before and after

module _ {b : List ℕ} (k : Keeps b) {t g : ℕ} (f f' : ℕ → Bool) (ht : t < (said b).states) (hg : g < (said b).goals)
    (new : f (t * (said b).goals + g) ≡ false) (members : (x : ℕ) → f' x ≡ (eqb x (t * (said b).goals + g) || f x)) where
  abbrev job : Job
  job = said b

  abbrev here : ℕ
  here = t * (said b).goals + g

  -- an outcome o, entered from goal state q
  abbrev out : ℕ → ℕ → ℕ
  out q o = entry_number job.goals (entered job q o)

  out_same : (q : ℕ) → q < job.goals → eqb (out q t) here ≡ into job t g q
  out_same q h =
      ⊎_elim
      (λ (e : (entered job q t).goal ≡ g). rw (eq-eqb (out q t) here (rw e), eq-eqb (entered job q t).goal g e))
      (λ (n : (entered job q t).goal ≡ g → ⊥). rw (ne_eqb (out q t) here (λ e. n (omega arith)), ne_eqb (entered job q t).goal g n))
      (same_or (entered job q t).goal g)

  out_other : (q o : ℕ) → q < job.goals → o < job.states → (o ≡ t → ⊥) → eqb (out q o) here ≡ false
  out_other q o h l n =
      ne_eqb (out q o) here
      (λ e. n (sym (digits_div o (k.next_below q (job.label o) h (k.label_below o l))) ∙ ap (λ (x : ℕ). x / job.goals) e ∙ digits_div t
      hg))

  -- one record: it is counted after, or leads to the place, or neither
  split : (r : Bool) (q o : ℕ) → q < job.goals → o < job.states
      → one (r && not (f' (out q o))) + one (into job t g q && (r && eqb o t)) ≡ one (r && not (f (out q o)))
  split r q o h l = ⊎_elim same other (same_or o t)
    where
      at : (r i : Bool) → into job t g q ≡ i → one (r && not (f' (out q t))) + one (i && (r && true)) ≡ one (r && not (f (out q t)))
      at r true z =
          let e : out q t ≡ here = rw ((eqb_iff (entered job q t).goal g).0 z) in
          rw (members (out q t), out_same q h, z, e, new) (go r)
        where
          go : (r : Bool) → one (r && false) + one (r && true) ≡ one (r && true)
          go true = refl
          go false = refl
      at r false z = rw (members (out q t), out_same q h, z) (add-zero _)

      same : o ≡ t → one (r && not (f' (out q o))) + one (into job t g q && (r && eqb o t)) ≡ one (r && not (f (out q o)))
      same e = rw (e, eq-eqb t t refl) (at r (into job t g q) refl)

      other : (o ≡ t → ⊥) → one (r && not (f' (out q o))) + one (into job t g q && (r && eqb o t)) ≡ one (r && not (f (out q o)))
      other n = rw (members (out q o), out_other q o h l n, ne_eqb o t n, and-false r, and-false (into job t g q)) (add-zero _)

  -- each counter falls by the records that lead to the place
  pub untaken_fall : (y : ℕ) → untaken job (numbered job.goals f') y + cond (into job t g (y / job.actions % job.goals)) (lead job t g y) 0
      ≡ untaken job (numbered job.goals f) y
  untaken_fall y =
      let s = y / job.actions / job.goals in
      let q = y / job.actions % job.goals in
      let a = y % job.actions in
      let i = into job t g q in
      rw (
        listed_count job (λ x. not (numbered job.goals f' x)) s q a job.records,
        listed_count job (λ x. not (numbered job.goals f x)) s q a job.records,
        ← count_and i (λ m. is_record (job.move m) s a t) job.records,
      )
      (count_sum _ _ _ job.records
      (λ m l. split (is_from (job.move m) s a) q (job.move m).outcome (mod-lt (y / job.actions) k.some_goals)
      (k.outcome_below m l)))

-- no record has the state of a word beyond the counters
lead_beyond : {b : List ℕ} (k : Keeps b) (t g y : ℕ) → counters_size (said b) ≤ y → lead (said b) t g y ≡ 0
lead_beyond {b} k t g y h =
    let j = said b in
    let s = y / j.actions / j.goals in
    let r : ℕ → Bool = λ i. is_record (j.move i) s (y % j.actions) t in
    count_over r 0 j.records zero-le
    (λ i l m. rw (ne_eqb (j.move i).state s
    (λ e. omega (arith, k.state_below i m, beyond_state j.states j.goals j.actions y k.some_goals k.some_actions h))))
    ∙ count_none r

cond_same : (c : Bool) (x : ℕ) → x ≡ 0 → cond c x 0 ≡ 0
cond_same true x e = e
cond_same false x e = refl

-- at all goal states: the place is taken, and the counters are the phase's
pub taken_all : {b : List ℕ} (k : Keeps b) {t g : ℕ} (f f' : ℕ → Bool) → t < (said b).states → g < (said b).goals
    → f (t * (said b).goals + g) ≡ false → ((x : ℕ) → f' x ≡ (eqb x (t * (said b).goals + g) || f x)) → {counters counters' : List ℕ}
    → (v : Phase) → Counts (said b) (unsure v (said b) (numbered (said b).goals f)) counters
    → Falling (said b) t g (said b).goals counters counters'
    → Counted (said b) (unsure v (said b) (numbered (said b).goals f')) counters counters'
taken_all {b} k {t} {g} f f' ht hg new members {counters} {counters'} v c r = record { as_long = r.as_long; counts = counts v c; rest = rest }
  where
    fell : (y : ℕ) → get_or counters' y 0
        ≡ get_or counters y 0 - cond (into (said b) t g (y / (said b).actions % (said b).goals)) (lead (said b) t g y) 0
    fell y =
        rw (lt-ltb (y / (said b).actions % (said b).goals) (said b).goals (mod-lt (y / (said b).actions) k.some_goals)) at (r.words y)

    counts : (v : Phase) → Counts (said b) (unsure v (said b) (numbered (said b).goals f)) counters
        → (y : ℕ) → y < counters_size (said b) → get_or counters' y 0 ≡ unsure v (said b) (numbered (said b).goals f') y
    counts Phase.Winning c y h = omega (arith, fell y, c.counts y h, untaken_fall k f f' ht hg new members y)
    counts Phase.Pending c y h = omega (arith, fell y, c.counts y h)

    rest : (y : ℕ) → counters_size (said b) ≤ y → get_or counters' y 0 ≡ get_or counters y 0
    rest y h =
        omega (
          arith,
          fell y,
          cond_same (into (said b) t g (y / (said b).actions % (said b).goals)) (lead (said b) t g y) (lead_beyond k t g y h),
        )
