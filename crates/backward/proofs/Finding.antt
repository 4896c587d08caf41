-- Which actions the records that lead to a state find, record by record and goal state by goal state.
use Prim.Native.Nat.{ℕ, ◌+◌, ◌*◌, ◌-◌, ◌/◌, ◌%◌, ◌<◌, zero-le}
use mathlib.Core.Bool.{Bool, true, false, ◌&&◌, and-true, and-false, or-false, ◌||◌}
use mathlib.Core.List.{List}
use mathlib.Core.Logic.{⊎_elim}
use mathlib.Core.Path.{◌≡◌, refl, sym, ap, ◌∙◌}
use native.Mathlib.Nat.{div-add-mod'}
use native.Mathlib.Numerals.{add-one}
use native.Mathlib.Omega.{arith}
use borrow.Author.Tests.{lt-ltb, le-ltb, eq-eqb, ne_eqb}
use lib.Arith.{digits_div, digits_mod}
use lib.Dec.{eqb, ltb}
use lib.ListN.{get_or}
use Rattle.game.specs.Below.{some_below}
use Rattle.rules.specs.Job.{Job, is_from, is_record, entered, recorded}
use Rattle.rules.proofs.Arenas.{is_from_iff, is_record_iff}
use Rattle.sets.proofs.Bits.{same_or}
use Rattle.game.proofs.Search.{clash, if_not_true, either}
use Rattle.game.proofs.Tests.{and_iff, eqb_iff}
use Rattle.backward.specs.Notes.{only, from_goal, from_all}
use Rattle.backward.specs.Step.{Fell, Lowered}
use Rattle.backward.proofs.Listing.{Skips}
use Rattle.backward.proofs.Lowering.{spot, lowered_other}
use Rattle.backward.proofs.Spots.{below_next}
use Rattle.backward.proofs.Walking.{some_over}

-- a counter that falls to 0, or was 0
or_fell : (s : Bool) (c : ℕ) → ((s || true) && eqb (c - 1) 0) ≡ (eqb (c - 1) 0 || (s && eqb c 0))
or_fell s c = ⊎_elim (none s) (more s) (same_or c 0)
  where
    none : (s : Bool) → c ≡ 0 → ((s || true) && eqb (c - 1) 0) ≡ (eqb (c - 1) 0 || (s && eqb c 0))
    none true e = rw e
    none false e = rw e

    more : (s : Bool) → (c ≡ 0 → ⊥) → ((s || true) && eqb (c - 1) 0) ≡ (eqb (c - 1) 0 || (s && eqb c 0))
    more true n = rw (ne_eqb c 0 n) (sym (or-false (eqb (c - 1) 0)))
    more false n = sym (or-false (eqb (c - 1) 0))

module _ (j : Job) (t q : ℕ) where
  abbrev to : ℕ → ℕ → ℕ → Bool
  to x a i = is_record (j.move i) (x / j.goals) a t

  pub goal_none : (cs : List ℕ) (x a : ℕ) → false ≡ from_goal j cs t q 0 x a
  goal_none cs x a = sym (and-false (eqb (x % j.goals) q))

  pub goal_skip : {k h : ℕ} → Skips j t k h → (cs : List ℕ) (x a : ℕ) → from_goal j cs t q k x a ≡ from_goal j cs t q h x a
  goal_skip {k} {h} s cs x a =
      rw (some_over (to x a) k h s.past
      (λ i b c. rw (ne_eqb (j.move i).outcome t (s.none i b c)) (and-false (is_from (j.move i) (x / j.goals) a))))

  module _ (k : ℕ) (hq : q < j.goals) (ha : (j.move k).action < j.actions) (e : (j.move k).outcome ≡ t) {spent : Bool} {cs cs' : List ℕ}
      (f : Fell (spot j t q k) cs spent cs') where
    abbrev at : ℕ
    at = (j.move k).state * j.goals + q

    -- one record more: its action at its place, if the counter falls to 0
    pub goal_next : (x a : ℕ) → a < j.actions → (only at (j.move k).action x a && spent || from_goal j cs t q k x a)
        ≡ from_goal j cs' t q (k + 1) x a
    goal_next x a l = sym (⊎_elim found other (either (only at (j.move k).action x a)))
      where
        found : only at (j.move k).action x a ≡ true
            → from_goal j cs' t q (k + 1) x a ≡ (only at (j.move k).action x a && spent || from_goal j cs t q k x a)
        found o =
            let (ex, ea) = (and_iff (eqb_iff x at) (eqb_iff a (j.move k).action)).0 o in
            rw (
              add-one k,
              ex,
              ea,
              digits_mod (j.move k).state hq,
              digits_div (j.move k).state hq,
              eq-eqb q q refl,
              eq-eqb (j.move k).state (j.move k).state refl,
              eq-eqb (j.move k).action (j.move k).action refl,
              eq-eqb (j.move k).outcome t e,
              eq-eqb at at refl,
              f.here,
              f.told,
            )
            (or_fell (some_below k (λ i. is_record (j.move i) (j.move k).state (j.move k).action t)) (get_or cs (spot j t q k) 0))

        other : only at (j.move k).action x a ≡ false
            → from_goal j cs' t q (k + 1) x a ≡ (only at (j.move k).action x a && spent || from_goal j cs t q k x a)
        other o = rw (o, add-one k, f.others (x * j.actions + a) apart) (⊎_elim here there (either (eqb (x % j.goals) q)))
          where
            not_it : x ≡ at → a ≡ (j.move k).action → ⊥
            not_it w b = clash ((and_iff (eqb_iff x at) (eqb_iff a (j.move k).action)).1 (w, b)) o

            apart : x * j.actions + a ≡ spot j t q k → ⊥
            apart w =
                not_it
                (sym (digits_div x l) ∙ ap (λ (u : ℕ). u / j.actions) w ∙ digits_div at ha)
                (sym (digits_mod x l) ∙ ap (λ (u : ℕ). u % j.actions) w ∙ digits_mod at ha)

            here : eqb (x % j.goals) q ≡ true
                → (eqb (x % j.goals) q && ((some_below k (to x a) || to x a k) && eqb (get_or cs (x * j.actions + a) 0) 0))
                ≡ (eqb (x % j.goals) q && (some_below k (to x a) && eqb (get_or cs (x * j.actions + a) 0) 0))
            here g =
                let no : to x a k ≡ false =
                if_not_true (to x a k)
                (λ r.
                let (f, u) = (is_record_iff (j.move k) (x / j.goals) a t).0 r in
                let (s, b) = (is_from_iff (j.move k) (x / j.goals) a).0 f in
                let m : x % j.goals ≡ q = (eqb_iff (x % j.goals) q).0 g in
                let w : x ≡ at = sym (div-add-mod' x j.goals) ∙ rw (m, ← s) in
                not_it w (sym b))
                in
                rw (no, or-false (some_below k (to x a)))

            there : eqb (x % j.goals) q ≡ false
                → (eqb (x % j.goals) q && ((some_below k (to x a) || to x a k) && eqb (get_or cs (x * j.actions + a) 0) 0))
                ≡ (eqb (x % j.goals) q && (some_below k (to x a) && eqb (get_or cs (x * j.actions + a) 0) 0))
            there g = rw g

    pub goal_more : spent ≡ true → (x a : ℕ) → a < j.actions
        → (only at (j.move k).action x a || from_goal j cs t q k x a) ≡ from_goal j cs' t q (k + 1) x a
    goal_more z x a l = rw (z, and-true (only at (j.move k).action x a)) at (goal_next x a l)

    pub goal_same : spent ≡ false → (x a : ℕ) → a < j.actions → from_goal j cs t q k x a ≡ from_goal j cs' t q (k + 1) x a
    goal_same z x a l = rw (z, and-false (only at (j.move k).action x a)) at (goal_next x a l)

module _ (j : Job) (cs : List ℕ) (t g : ℕ) where
  abbrev enters : ℕ → Bool
  enters q = eqb (entered j q t).goal g

  pub all_none : (x a : ℕ) → false ≡ from_all j cs t g 0 x a
  all_none x a = rw (le-ltb (x % j.goals) 0 zero-le)

  module _ (q : ℕ) where
    pub all_skip : enters q ≡ false → (x a : ℕ) → from_all j cs t g q x a ≡ from_all j cs t g (q + 1) x a
    all_skip z x a = ⊎_elim same (λ (n : x % j.goals ≡ q → ⊥). rw (below_next (x % j.goals) q n)) (same_or (x % j.goals) q)
      where
        same : x % j.goals ≡ q → from_all j cs t g q x a ≡ from_all j cs t g (q + 1) x a
        same e = rw (e, z, and-false (ltb q q), and-false (ltb q (q + 1)))

    pub all_more : {cs' : List ℕ} → enters q ≡ true → Lowered j t q j.records cs cs' → (x a : ℕ) → a < j.actions
        → (from_goal j cs' t q j.records x a || from_all j cs t g q x a) ≡ from_all j cs' t g (q + 1) x a
    all_more {cs'} z r x a l = ⊎_elim same other (same_or (x % j.goals) q)
      where
        same : x % j.goals ≡ q → (from_goal j cs' t q j.records x a || from_all j cs t g q x a) ≡ from_all j cs' t g (q + 1) x a
        same e =
            rw (e, z, eq-eqb q q refl, le-ltb q q (omega arith), lt-ltb q (q + 1) (omega arith))
            (or-false (recorded j (x / j.goals) a t && eqb (get_or cs' (x * j.actions + a) 0) 0))

        other : (x % j.goals ≡ q → ⊥)
            → (from_goal j cs' t q j.records x a || from_all j cs t g q x a) ≡ from_all j cs' t g (q + 1) x a
        other n =
            let stays : get_or cs' (x * j.actions + a) 0 ≡ get_or cs (x * j.actions + a) 0 =
            lowered_other r (x * j.actions + a) (λ w. n (sym (ap (λ (u : ℕ). u % j.goals) (digits_div x l)) ∙ w)) in
            rw (stays, ne_eqb (x % j.goals) q n, below_next (x % j.goals) q n)
