-- Two jobs in bytes that keep the rules and say the same: they have the same right plans, so every call answers them alike.
use Prim.Native.Nat.{ℕ, ◌+◌, ◌*◌, ◌<◌}
use mathlib.Core.Bool.{Bool, true, false, cond, not, ◌&&◌}
use mathlib.Core.List.{List, ◌++◌}
use mathlib.Core.Path.{◌≡◌, refl, sym, ap, ap₂, ◌∙◌, subst}
use native.Mathlib.Omega.{arith}
use lib.Dec.{ltb}
use lib.ListN.{length, drop}
use Rattle.game.specs.Game.{Inside, Listed, Right}
use Rattle.game.proofs.Alike.{Alike, right_alike}
use Rattle.game.proofs.Tests.{same_test, and_iff, ltb_iff}
use Rattle.rules.specs.Job.{place, entry_number, entered, start, recorded, record_number, is_from, is_record, arena}
use Rattle.rules.specs.Fault.{Fault, only}
use Rattle.rules.specs.Bytes.{said}
use Rattle.rules.specs.Keeps.{Keeps}
use Rattle.rules.specs.Plan.{entry, room, Plan, planned_entry, shaped}
use Rattle.rules.specs.Calls.{Planning, refused, no_room, planned, started, followed, advised, is_place}
use Rattle.rules.specs.Calls.{refused_move, refused_advice, moved_to, moved_by, advice_of}
use Rattle.rules.specs.Retold.{SameJob, retold}
use Rattle.rules.specs.declared.place.Move.{Move}
use Rattle.rules.specs.declared.place.Place.{Place}
use Rattle.rules.proofs.Kept.{kept}
use Rattle.rules.proofs.Arenas.{inside_iff, leads_iff, is_record_iff, recorded_iff, arena_lawful}
use Rattle.rules.proofs.Recorded.{Matches, number_matches, matches_alone}
use Rattle.rules.proofs.Unique.{planning_unique}
use Rattle.rules.proofs.Retelling.{retold_same, retold_keeps}

module _ {b c : List ℕ} (k : Keeps b) (h : Keeps c) (s : SameJob (said b) (said c)) where
  -- ---- the arenas

  entered_same : (q t : ℕ) → q < (said b).goals → t < (said b).states → entered (said b) q t ≡ entered (said c) q t
  entered_same q t l i =
      let e = s.label t i in
      ap (place t) (s.next q ((said b).label t) l (k.label_below t i) ∙ ap ((said c).next q) e)

  inside_same : (x : Place) → Inside (arena (said b)) x → Inside (arena (said c)) x
  inside_same x i =
      let (l, r) = (inside_iff (said b) x).0 i in
      (inside_iff (said c) x).1 (omega (arith, s.states), omega (arith, s.goals))

  -- record i leads from x to the same place
  led : (x : Place) (i : ℕ) → Inside (arena (said b)) x → i < (said b).records
      → entered (said b) x.goal ((said b).move i).outcome ≡ entered (said c) x.goal ((said c).move i).outcome
  led x i m r =
      entered_same x.goal ((said b).move i).outcome ((inside_iff (said b) x).0 m).1 (k.outcome_below i r)
      ∙ ap (λ (n : Move). entered (said c) x.goal n.outcome) (s.move i r)

  pub same_alike : Alike (arena (said b)) (arena (said c)) (λ x. x)
  same_alike = record { inside = inside_same; accepted = accepted; there = there; back = back }
    where
      accepted : (x : Place) → Inside (arena (said b)) x → (arena (said b)).accepted x ≡ (arena (said c)).accepted x
      accepted x m =
          let (l, r) = (inside_iff (said b) x).0 m in
          rw (s.final x.goal r, s.busy x.state l)

      there : (x t : Place) (a : ℕ) → Inside (arena (said b)) x → Listed (arena (said b)) x a t → Listed (arena (said c)) x a t
      there x t a m l =
          let (i, r, f, e) = (leads_iff (said b) x t a).0 l in
          (leads_iff (said c) x t a).1 (
            i,
            omega (arith, s.records),
            subst (λ (n : Move). is_from n x.state a ≡ true) (s.move i r) f,
            e ∙ led x i m r,
          )

      back : (x u : Place) (a : ℕ) → Inside (arena (said b)) x → Listed (arena (said c)) x a u
          → (t : Place) × Listed (arena (said b)) x a t × (t ≡ u)
      back x u a m l =
          let (i, r, f, e) = (leads_iff (said c) x u a).0 l in
          let o : i < (said b).records = omega (arith, s.records) in (
            u,
            (leads_iff (said b) x u a).1 (
              i,
              o,
              subst (λ (n : Move). is_from n x.state a ≡ true) (sym (s.move i o)) f,
              e ∙ sym (led x i m o),
            ),
            refl,
          )

  -- ---- the plan

  room_same : room (said b) ≡ room (said c)
  room_same = λ i. 4 * (s.states i * s.goals i)

  pub same_plan : {p : List ℕ} → Plan (said b) p → Plan (said c) p
  same_plan {p} x =
      record {
        long = x.long ∙ room_same;
        bytes = x.bytes;
        right = λ t q i l.
            let o : t < (said b).states = omega (arith, s.states) in
            let g : q < (said b).goals = omega (arith, s.goals) in
            subst (λ (n : ℕ). Right (arena (said c)) (place t q) (entry p (entry_number n (place t q)))) s.goals
            ((right_alike (arena (said b)) (arena (said c)) (arena_lawful b k) (arena_lawful c h) (λ y. y) same_alike (place t q)
            ((inside_iff (said b) (place t q)).1 (o, g)) (planned_entry (said b) p (place t q))).0 (x.right t q o g));
      }

  -- Planning answers and leaves the same.
  pub same_planning : {before after : List ℕ} {f : Fault} → Planning b before f after → Planning c before f after
  same_planning (refused n) = absurd (n ((kept b).1 k))
  same_planning (no_room e l) = no_room ((kept c).1 h) (rw room_same at l)
  same_planning {before} (planned {p} e l x) =
      subst (λ (r : ℕ). Planning c before (only 0) (p ++ drop r before)) (sym room_same)
      (planned ((kept c).1 h) (rw room_same at l) (same_plan x))

  -- ---- the other calls

  pub same_start : start (said b) ≡ start (said c)
  same_start =
      entered_same (said b).first_goal (said b).first k.first_goal_state k.first_state
      ∙ (λ i. entered (said c) (s.first_goal i) (s.first i))

  pub same_started : started b ≡ started c
  same_started = rw ((kept b).1 k, (kept c).1 h) (ap moved_to same_start)

  is_place_same : (t q : ℕ) → is_place (said b) t q ≡ is_place (said c) t q
  is_place_same t q = λ i. ltb t (s.states i) && ltb q (s.goals i)

  recorded_same : (t a o : ℕ) → recorded (said b) t a o ≡ recorded (said c) t a o
  recorded_same t a o = same_test into back
    where
      into : recorded (said b) t a o ≡ true → recorded (said c) t a o ≡ true
      into e =
          let (i, r, f) = (recorded_iff (said b) t a o).0 e in
          (recorded_iff (said c) t a o).1 (
            i,
            omega (arith, s.records),
            subst (λ (n : Move). is_record n t a o ≡ true) (s.move i r) f,
          )

      back : recorded (said c) t a o ≡ true → recorded (said b) t a o ≡ true
      back e =
          let (i, r, f) = (recorded_iff (said c) t a o).0 e in
          let l : i < (said b).records = omega (arith, s.records) in
          (recorded_iff (said b) t a o).1 (i, l, subst (λ (n : Move). is_record n t a o ≡ true) (sym (s.move i l)) f)

  -- and the record is the same one
  number_same : (t a o : ℕ) → recorded (said b) t a o ≡ true → record_number (said b) t a o ≡ record_number (said c) t a o
  number_same t a o r =
      let i = record_number (said b) t a o in
      let (l, state, action, to) = number_matches (said b) t a o r in
      let e : (said b).move i ≡ (said c).move i = s.move i l in
      let there : Matches (said c) t a o i = (
        omega (arith, s.records),
        subst (λ (n : Move). n.state ≡ t) e state,
        subst (λ (n : Move). n.action ≡ a) e action,
        subst (λ (n : Move). n.outcome ≡ o) e to,
      ) in
      matches_alone h there (number_matches (said c) t a o (sym (recorded_same t a o) ∙ r))

  pub same_followed : (t q a o : ℕ) → followed b t q a o ≡ followed c t q a o
  same_followed t q a o =
      rw ((kept b).1 k, (kept c).1 h, ← is_place_same t q, ← recorded_same t a o)
      (go (is_place (said b) t q) refl (recorded (said b) t a o) refl)
    where
      to : is_place (said b) t q ≡ true → recorded (said b) t a o ≡ true → entered (said b) q o ≡ entered (said c) q o
      to e d =
          let (i, r, f) = (recorded_iff (said b) t a o).0 d in
          let n = ((is_record_iff ((said b).move i) t a o).0 f).1 in
          entered_same q o ((and_iff (ltb_iff t (said b).states) (ltb_iff q (said b).goals)).0 e).1
          (omega (arith, k.outcome_below i r))

      go : (x : Bool) → is_place (said b) t q ≡ x → (y : Bool) → recorded (said b) t a o ≡ y
          → cond (not (is_place (said b) t q)) (refused_move (only 9))
          (cond (not (recorded (said b) t a o)) (refused_move (only 11)) (moved_by (record_number (said b) t a o) (entered (said b) q o)))
          ≡ cond (not (is_place (said b) t q)) (refused_move (only 9))
          (cond (not (recorded (said b) t a o)) (refused_move (only 11)) (moved_by (record_number (said c) t a o) (entered (said c) q o)))
      go false e y d = rw e
      go true e false d = rw (e, d)
      go true e true d = rw (e, d) (ap₂ moved_by (number_same t a o d) (to e d))

  pub same_advised : (p : List ℕ) (t q : ℕ) → advised b p t q ≡ advised c p t q
  same_advised p t q =
      rw ((kept b).1 k, (kept c).1 h)
      (λ i. cond (ltb (length p) (4 * (s.states i * s.goals i))) (refused_advice (only 7))
      (cond (not (ltb t (s.states i) && ltb q (s.goals i))) (refused_advice (only 9))
      (cond (not (shaped (s.actions i) (s.states i * s.goals i) (entry p (t * s.goals i + q)))) (refused_advice (only 10))
      (advice_of (entry p (t * s.goals i + q))))))

-- ---- An old job rewritten in the tall form gets the same plan bytes, and every call answers it the same.

module _ {b : List ℕ} (k : Keeps b) where
  pub retold_planned : {before after after' : List ℕ} {f f' : Fault} → Planning b before f after → Planning (retold b) before f' after'
      → (f ≡ f') × (after ≡ after')
  retold_planned p p' = planning_unique (same_planning k (retold_keeps k) (retold_same k) p) p'

  pub retold_started : started b ≡ started (retold b)
  retold_started = same_started k (retold_keeps k) (retold_same k)

  pub retold_followed : (t q a o : ℕ) → followed b t q a o ≡ followed (retold b) t q a o
  retold_followed = same_followed k (retold_keeps k) (retold_same k)

  pub retold_advised : (p : List ℕ) (t q : ℕ) → advised b p t q ≡ advised (retold b) p t q
  retold_advised = same_advised k (retold_keeps k) (retold_same k)
