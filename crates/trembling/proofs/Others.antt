-- The actions beside which a set has another, and the lowest action that a round looks for at a larger place.
use Prim.Native.Nat.{ℕ, zero, suc, ◌-◌, ◌*◌, ◌≤◌, ◌<◌}
use mathlib.Core.Bool.{Bool, true, false, not, ◌&&◌, or-false, ◌||◌}
use mathlib.Core.List.{List}
use mathlib.Core.Logic.Iff
use mathlib.Core.Logic.{◌↔◌, ⊎_elim}
use mathlib.Core.Path.{◌≡◌, refl, sym, ap, ap₂, ◌∙◌}
use native.Mathlib.Omega.{arith}
use borrow.Author.Tests.{lt-ltb, eq-eqb, ne_eqb, not-true}
use lib.Dec.{eqb, ltb}
use Rattle.sets.specs.Sets.{bit}
use Rattle.sets.specs.Lowest.{LowestOf}
use Rattle.game.specs.Game.{Lawful}
use Rattle.game.specs.Below.{some_below}
use Rattle.rules.specs.Job.{Job, arena}
use Rattle.rules.specs.declared.place.Place.{Place}
use Rattle.std.specs.Prelude.{Option, Some, None}
use Rattle.sets.proofs.Bits.{bit_ones, below_or, same_or}
use Rattle.game.proofs.Lists.{some, some_found, sure_some}
use Rattle.game.proofs.Search.{clash, if_not_true}
use Rattle.game.proofs.Tests.{same_test, and_iff, ltb_iff, some_iff}
use Rattle.phases.specs.declared.phase.Phase.{Phase}
use Rattle.phases.specs.Wanted.{wanted}
use Rattle.labelling.specs.Scan.{Scanned, LowestPassing, tallied_for}
use Rattle.labelling.proofs.Choosing.{LowestCounted, lowest_same, tallied_wanted, choice_counted}
use Rattle.trembling.specs.declared.scan.Tallies.{Tallies}
use Rattle.larger.specs.Larger.{larger}
use Rattle.larger.specs.Plans.{larger_arena}
use Rattle.trembling.specs.Scan.{from_base, ScannedBoth, other, slipped_for}
use Rattle.trembling.specs.Round.{in_larger}
use Rattle.larger.proofs.Slipping.{slipping_lawful}
use Rattle.larger.proofs.Tallies.{sure_last, some_last, sure_slip, some_slip}

-- ---- another action of a set

module _ (n : ℕ) where
  abbrev Another : ℕ → Type 0
  Another a = (d : ℕ) × (d < 16) × ((not (eqb d a) ≡ true) × (bit n d ≡ true))

  other_iff : (a : ℕ) → (other n a ≡ true) ↔ ((a < 16) × Another a)
  other_iff a = and_iff (ltb_iff a 16) (some_iff (λ d. not (eqb d a) && bit n d) (λ d. and_iff Iff.rfl Iff.rfl) 16)

  -- the set has no action
  pub others_none : (r : ℕ) → ((k : ℕ) → bit r k ≡ false) → ((k : ℕ) → bit n k ≡ false) → (a : ℕ) → bit r a ≡ other n a
  others_none r z h a =
      z a ∙ sym (if_not_true (other n a) (λ y. let (l, o) = (other_iff a).0 y in let (d, m, s) = o in clash s.1 (h d)))

  module _ (d : ℕ) (few : d < 16) (has : bit n d ≡ true) where
    -- d is its only action
    pub others_one : ((k : ℕ) → (bit n k && not (eqb k d)) ≡ false) → (a : ℕ) → (ltb a 16 && not (eqb a d)) ≡ other n a
    others_one only a = same_test there back
      where
        there : (ltb a 16 && not (eqb a d)) ≡ true → other n a ≡ true
        there e =
            let (l, m) = (and_iff {x = ltb a 16} {y = not (eqb a d)} (ltb_iff a 16) Iff.rfl).0 e in
            (other_iff a).1 (l, (d, few, (rw (ne_eqb d a (λ q. clash (eq-eqb a d (sym q)) (not-true _ m))), has)))

        back : other n a ≡ true → (ltb a 16 && not (eqb a d)) ≡ true
        back e =
            let (l, o) = (other_iff a).0 e in
            let (k, m, s) = o in
            let far : a ≡ d → ⊥ =
            λ q. clash ((and_iff {x = bit n k} {y = not (eqb k d)} Iff.rfl Iff.rfl).1 (s.1, rw (← q) s.0)) (only k) in
            (and_iff {x = ltb a 16} {y = not (eqb a d)} (ltb_iff a 16) Iff.rfl).1 (l, rw (ne_eqb a d far))

    -- e is another
    pub others_two : (e : ℕ) → e < 16 → (bit n e && not (eqb e d)) ≡ true → (a : ℕ) → ltb a 16 ≡ other n a
    others_two e few' has' a = same_test there (λ y. (ltb_iff a 16).1 ((other_iff a).0 y).0)
      where
        there : ltb a 16 ≡ true → other n a ≡ true
        there l =
            let (b, m) = (and_iff {x = bit n e} {y = not (eqb e d)} Iff.rfl Iff.rfl).0 has' in
            (other_iff a).1 (
              (ltb_iff a 16).0 l,
              ⊎_elim
                  (λ (q : a ≡ d). (e, few', (rw q m, b)))
                  (λ (q : a ≡ d → ⊥). (d, few, (rw (ne_eqb d a (λ r. q (sym r))), has)))
                  (same_or a d),
            )

-- as it is found out: d is the lowest action, `one` has d alone, and `rest` is the set without it
module _ (n : ℕ) {x : Option ℕ} {d : ℕ} (i : x ≡ Some d) (h : LowestOf n x) (none one rest : ℕ)
    (z : (k : ℕ) → bit none k ≡ false) (w : (k : ℕ) → bit one k ≡ (ltb d 16 && eqb k d || bit none k))
    (o : (k : ℕ) → bit rest k ≡ (bit n k && not (bit one k))) where
  abbrev lowest_is : LowestOf n (Some d)
  lowest_is = rw i at h

  one_is : (k : ℕ) → bit one k ≡ eqb k d
  one_is k = w k ∙ rw (lt-ltb d 16 lowest_is.within, z k) (or-false (eqb k d))

  rest_is : (k : ℕ) → bit rest k ≡ (bit n k && not (eqb k d))
  rest_is k = o k ∙ rw (one_is k)

  pub others_alone : {y : Option ℕ} → y ≡ None → LowestOf rest y → (r : ℕ)
      → ((k : ℕ) → bit r k ≡ (bit 65535 k && not (bit one k))) → (a : ℕ) → bit r a ≡ other n a
  others_alone e l r w a =
      let none_left = rw e at l in
      w a ∙ rw (bit_ones 16 a, one_is a)
      (others_one n d lowest_is.within lowest_is.is_set (λ k. sym (rest_is k) ∙ none_left k) a)

  pub others_more : {y : Option ℕ} {e : ℕ} → y ≡ Some e → LowestOf rest y → (a : ℕ) → bit 65535 a ≡ other n a
  others_more {e = e} i l a =
      let next = rw i at l in
      bit_ones 16 a ∙ others_two n d lowest_is.within lowest_is.is_set e next.within (sym (rest_is e) ∙ next.is_set) a

pub others_nothing : (n : ℕ) {x : Option ℕ} → x ≡ None → LowestOf n x → (r : ℕ) → ((k : ℕ) → bit r k ≡ false) → (a : ℕ) → bit r a ≡ other n a
others_nothing n e h r z = others_none n r z (rw e at h)

-- ---- the actions that a round looks for at a larger place, by its tallies

module _ (j : Job) (L : Lawful (arena j)) (few : j.actions ≤ 16) (p : Place) where
  -- an action from 16 on has no outcome
  none_past : (g : Place → Bool) (a : ℕ) → 16 ≤ a → some g ((arena j).leads p a) ≡ false
  none_past g a h =
      if_not_true (some g ((arena j).leads p a)) (λ e.
      let (t, m, y) = some_found g ((arena j).leads p a) e in
      let l : a < j.actions = L.counted p t a m in
      omega arith)

  -- another action of the set is another with an outcome that passes
  others_counted : (g : Place → Bool) (n : ℕ) → ((d : ℕ) → bit n d ≡ some g ((arena j).leads p d)) → (a : ℕ) → a < 16
      → other n a ≡ some_below j.actions (λ d. not (eqb d a) && some g ((arena j).leads p d))
  others_counted g n same a h = same_test there back
    where
      iff : (some_below j.actions (λ d. not (eqb d a) && some g ((arena j).leads p d)) ≡ true)
          ↔ ((d : ℕ) × (d < j.actions) × ((not (eqb d a) ≡ true) × (some g ((arena j).leads p d) ≡ true)))
      iff = some_iff (λ d. not (eqb d a) && some g ((arena j).leads p d)) (λ d. and_iff Iff.rfl Iff.rfl) j.actions

      there : other n a ≡ true → some_below j.actions (λ d. not (eqb d a) && some g ((arena j).leads p d)) ≡ true
      there e =
          let (l, o) = (other_iff n a).0 e in
          let (d, m, s) = o in
          let y : some g ((arena j).leads p d) ≡ true = sym (same d) ∙ s.1 in
          let (t, i, z) = some_found g ((arena j).leads p d) y in
          iff.1 (d, L.counted p t d i, (s.0, y))

      back : some_below j.actions (λ d. not (eqb d a) && some g ((arena j).leads p d)) ≡ true → other n a ≡ true
      back e =
          let (d, l, s) = iff.0 e in
          (other_iff n a).1 (h, (d, omega arith, (s.0, same d ∙ s.1)))

  module _ (goals many : ℕ) (ws : List ℕ) (x : Tallies) where
    -- no slips left
    last_wanted : (v : Phase) → Scanned j (from_base goals ws (0 * many)) p x.own → (a : ℕ)
        → tallied_for v x.own a ≡ wanted v (larger_arena j 3) (in_larger goals many ws) (larger 0 p) a
    last_wanted Phase.Winning h a =
        tallied_wanted h Phase.Winning a ∙ sym (sure_last (arena j) L 3 (in_larger goals many ws) p a)
    last_wanted Phase.Pending h a =
        tallied_wanted h Phase.Pending a ∙ sym (some_last (arena j) L 3 (in_larger goals many ws) p a)

    module _ (k : ℕ) (here : Scanned j (from_base goals ws (suc k * many)) p x.own)
        (below : Scanned j (from_base goals ws (k * many)) p x.less) where
      -- slips left
      slip_wanted : (v : Phase) (a : ℕ)
          → slipped_for v x a ≡ wanted v (larger_arena j 3) (in_larger goals many ws) (larger (suc k) p) a
      slip_wanted Phase.Winning a =
          ⊎_elim
          (λ (l : a < 16).
          ap₂ (λ (y z : Bool). y && not z) (tallied_wanted here Phase.Winning a)
          (others_counted (λ t. not (from_base goals ws (k * many) t)) x.less.spoilt.bits below.spoilt a l)
          ∙ sym (sure_slip (arena j) L 3 (in_larger goals many ws) p a k))
          (λ (l : 16 ≤ a).
          rw (here.opens a, none_past (λ t. true) a l)
          (sym (sure_slip (arena j) L 3 (in_larger goals many ws) p a k
          ∙ rw (sure_some (from_base goals ws (suc k * many)) ((arena j).leads p a), none_past (λ t. true) a l))))
          (below_or a 16)
      slip_wanted Phase.Pending a =
          ⊎_elim
          (λ (l : a < 16).
          rw (here.held a, here.opens a)
          (ap (λ (z : Bool). some (from_base goals ws (suc k * many)) ((arena j).leads p a) || some (λ t. true) ((arena j).leads p a) && z)
          (others_counted (from_base goals ws (k * many)) x.less.held.bits below.held a l))
          ∙ sym (some_slip (arena j) L 3 (in_larger goals many ws) p a k))
          (λ (l : 16 ≤ a).
          rw (here.held a, here.opens a, none_past (λ t. true) a l, none_past (from_base goals ws (suc k * many)) a l)
          (sym (some_slip (arena j) L 3 (in_larger goals many ws) p a k
          ∙ rw (none_past (λ t. true) a l, none_past (from_base goals ws (suc k * many)) a l))))
          (below_or a 16)

    -- what is chosen is the lowest action that the round looks for
    pub chosen_last : (v : Phase) (k : ℕ) → k ≡ 0 → {less : ℕ} → ScannedBoth j goals ws (k * many) less p x → (r : Option ℕ)
        → LowestPassing (tallied_for v x.own) r
        → LowestCounted (wanted v (larger_arena j 3) (in_larger goals many ws) (larger k p)) j.actions r
    chosen_last v zero e h r c =
        choice_counted (slipping_lawful (arena j) L 3) (in_larger goals many ws) (larger 0 p) v r (lowest_same (last_wanted v h.here) r c)
    chosen_last v (suc k) e h r c = absurd (omega arith)

    pub chosen_slip : (v : Phase) (k : ℕ) → (k ≡ 0 → ⊥) → ScannedBoth j goals ws (k * many) ((k - 1) * many) p x → (r : Option ℕ)
        → LowestPassing (slipped_for v x) r
        → LowestCounted (wanted v (larger_arena j 3) (in_larger goals many ws) (larger k p)) j.actions r
    chosen_slip v zero e h r c = absurd (e refl)
    chosen_slip v (suc k) e h r c =
        let q : suc k - 1 ≡ k = omega arith in
        choice_counted (slipping_lawful (arena j) L 3) (in_larger goals many ws) (larger (suc k) p) v r
        (lowest_same (slip_wanted k h.here (rw q at h.below) v) r c)
