-- Counters that fall: one record, the records that lead to a state, and all goal states.
use Prim.Native.Nat.{ℕ, ◌+◌, ◌*◌, ◌-◌, ◌/◌, ◌%◌, ◌≤◌, ◌<◌, zero-le}
use mathlib.Core.Bool.{Bool, true, false, and-false}
use mathlib.Core.List.{List}
use mathlib.Core.Logic.Iff
use mathlib.Core.Logic.{⊎_elim}
use mathlib.Core.Path.{◌≡◌, refl, sym, ◌∙◌}
use native.Mathlib.Nat.{add-zero}
use native.Mathlib.Omega.{arith}
use borrow.Author.Tests.{eq-eqb, ne_eqb}
use lib.Dec.{eqb}
use lib.ListN.{length, get_or, set, length-set}
use lib.Seq.{get_or-set_same, get_or-set_other}
use Rattle.sets.specs.Sets.{count}
use Rattle.rules.specs.Job.{Job, is_from}
use Rattle.rules.proofs.Arenas.{is_from_iff, is_record_iff}
use Rattle.sets.proofs.Bits.{same_or}
use Rattle.game.proofs.Search.{if_not_true}
use Rattle.sets.proofs.Sizes.{count_none}
use Rattle.game.proofs.Tests.{and_iff, eqb_iff}
use Rattle.backward.specs.Step.{Fell, hit, Lowered}
use Rattle.backward.proofs.Listing.{Skips}
use Rattle.backward.proofs.Spots.{spot_action, spot_state, spot_goal, spot_back}
use Rattle.backward.proofs.Walking.{count_next, count_over}

-- ---- the records that lead to a state, at one goal state

module _ (j : Job) (t q : ℕ) where
  -- the word of record k at goal state q
  abbrev pub spot : ℕ → ℕ
  spot k = ((j.move k).state * j.goals + q) * j.actions + (j.move k).action

  pub hit_here : (k : ℕ) → (j.move k).action < j.actions → q < j.goals → (j.move k).outcome ≡ t → hit j t q (spot k) k ≡ true
  hit_here k a h e =
      rw (
        spot_goal j.goals j.actions (j.move k).state h a,
        spot_state j.goals j.actions (j.move k).state h a,
        spot_action j.goals j.actions (j.move k).state h a,
        eq-eqb q q refl,
        eq-eqb (j.move k).state (j.move k).state refl,
        eq-eqb (j.move k).action (j.move k).action refl,
      )
      (eq-eqb (j.move k).outcome t e)

  pub hit_there : (y k : ℕ) → (y ≡ spot k → ⊥) → hit j t q y k ≡ false
  hit_there y k n =
      if_not_true (hit j t q y k)
      (λ e.
      let s = y / j.actions / j.goals in
      let a = y % j.actions in
      let (g, r) = (and_iff (eqb_iff (y / j.actions % j.goals) q) Iff.rfl).0 e in
      let (f, o) = (is_record_iff (j.move k) s a t).0 r in
      let (d, b) = (is_from_iff (j.move k) s a).0 f in
      n (spot_back j.goals j.actions y (j.move k).state q (j.move k).action (sym d) g (sym b)))

  -- a record that does not lead to t is no hit
  pub hit_not : (y i : ℕ) → ((j.move i).outcome ≡ t → ⊥) → hit j t q y i ≡ false
  hit_not y i n =
      rw (ne_eqb (j.move i).outcome t n, and-false (is_from (j.move i) (y / j.actions / j.goals) (y % j.actions)))
      (and-false (eqb (y / j.actions % j.goals) q))

module _ {j : Job} {t q : ℕ} where
  -- the records that are passed over change nothing
  pub lowered_skip : {k h : ℕ} {before now : List ℕ} → Skips j t k h → Lowered j t q k before now → Lowered j t q h before now
  lowered_skip {k} {h} s r =
      record {
        as_long = r.as_long;
        words = λ y. rw (count_over (hit j t q y) k h s.past (λ i a b. hit_not j t q y i (s.none i a b))) (r.words y);
      }

  pub lowered_none : {ws : List ℕ} → Lowered j t q 0 ws ws
  lowered_none {ws} = record { as_long = refl; words = λ y. omega (arith, count_none (hit j t q y)) }

  -- a counter of another goal state stays
  pub lowered_other : {k : ℕ} {before now : List ℕ} → Lowered j t q k before now → (y : ℕ) → (y / j.actions % j.goals ≡ q → ⊥)
      → get_or now y 0 ≡ get_or before y 0
  lowered_other {k} r y n =
      let none : count (hit j t q y) k ≡ 0 =
      count_over (hit j t q y) 0 k zero-le (λ i a b. rw (ne_eqb (y / j.actions % j.goals) q n)) ∙ count_none (hit j t q y) in
      omega (arith, none, r.words y)

  -- the counter of record k falls
  pub lowered_more : {k : ℕ} {b : Bool} {before now now' : List ℕ} → Lowered j t q k before now → (j.move k).action < j.actions → q < j.goals
      → (j.move k).outcome ≡ t → Fell (spot j t q k) now b now' → Lowered j t q (k + 1) before now'
  lowered_more {k} {before} {now} {now'} r a h e f =
      record {
        as_long = f.as_long ∙ r.as_long;
        words = λ y. ⊎_elim (here y) (there y) (same_or y (spot j t q k));
      }
    where
      here : (y : ℕ) → y ≡ spot j t q k → get_or now' y 0 ≡ get_or before y 0 - count (hit j t q y) (k + 1)
      here y z =
          let more : count (hit j t q (spot j t q k)) (k + 1) ≡ count (hit j t q (spot j t q k)) k + 1 =
          count_next (hit j t q (spot j t q k)) k ∙ rw (hit_here j t q k a h e) in
          rw z (omega (arith, f.here, r.words (spot j t q k), more))

      there : (y : ℕ) → (y ≡ spot j t q k → ⊥) → get_or now' y 0 ≡ get_or before y 0 - count (hit j t q y) (k + 1)
      there y n =
          let same : count (hit j t q y) (k + 1) ≡ count (hit j t q y) k =
          count_next (hit j t q y) k ∙ rw (hit_there j t q y k n) (add-zero (count (hit j t q y) k)) in
          rw same (f.others y n ∙ r.words y)

-- ---- one counter

module _ (cs : List ℕ) (i : ℕ) (h : i < length cs) where
  pub fell_more : 1 < get_or cs i 0 → Fell i cs false (set cs i (get_or cs i 0 - 1))
  fell_more l =
      record {
        as_long = length-set cs i (get_or cs i 0 - 1);
        here = get_or-set_same cs i (get_or cs i 0 - 1) 0 h;
        others = λ y n. get_or-set_other cs i y (get_or cs i 0 - 1) 0 n;
        told = sym (ne_eqb (get_or cs i 0 - 1) 0 (λ e. omega arith));
      }

  pub fell_last : get_or cs i 0 ≤ 1 → Fell i cs true (set cs i 0)
  fell_last l =
      let z : get_or cs i 0 - 1 ≡ 0 = omega arith in
      record {
        as_long = length-set cs i 0;
        here = get_or-set_same cs i 0 0 h ∙ sym z;
        others = λ y n. get_or-set_other cs i y 0 0 n;
        told = sym (eq-eqb (get_or cs i 0 - 1) 0 z);
      }
