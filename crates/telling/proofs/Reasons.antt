-- Where planning made the plan, what is told of an action at a place is so, and of a place that is not winning every open action is told.
use Prim.Native.Nat.{ℕ, ◌≤◌, ◌<◌}
use mathlib.Core.Bool.{true, false}
use mathlib.Core.List.{List, []}
use mathlib.Core.Logic.{◌⊎◌, inl, inr, ⊎_elim}
use mathlib.Core.Path.{◌≡◌, refl, sym, ap}
use native.Mathlib.Omega.{arith}
use Rattle.std.specs.declared.option.Option.{Option}
use Rattle.std.specs.declared.option.Option.TheVariants.{Some, None}
use Rattle.game.specs.Demands.{ValueTold}
use Rattle.game.specs.Game.{Inside, Listed, Open, Winning, Losing}
use Rattle.game.proofs.Following.{right_allowed}
use Rattle.game.proofs.Hopes.{value_of}
use Rattle.game.proofs.Rounds.{size, won, into_win}
use Rattle.game.proofs.Search.{clash, if_not_false}
use Rattle.game.proofs.Tests.{some_stops}
use Rattle.game.proofs.Values.{win_winning, winning_iff}
use Rattle.rules.specs.Bytes.{said}
use Rattle.rules.specs.Calls.{Planning}
use Rattle.rules.specs.Fault.{only}
use Rattle.rules.specs.Job.{Job, place, entered, is_from, arena}
use Rattle.rules.specs.Keeps.{Keeps}
use Rattle.rules.specs.declared.place.Place.{Place}
use Rattle.rules.proofs.Arenas.{leads_iff, inside_iff, entered_inside, arena_lawful}
use Rattle.rules.proofs.Followed as followed
use Rattle.rules.proofs.Planned.{entry_of, planned_exactly, planned_right}
use Rattle.telling.specs.Reason.{Reason, loses, hopes}
use Rattle.telling.specs.Spoilt.{worth, spoils, is_spoilt, worst}
use Rattle.telling.specs.Told.{told_spoiler, told_found, told_action}
use Rattle.telling.proofs.Worst.{spoils_iff, worst_spoils, worst_some}

-- the place that record k of b's job enters from goal state q
abbrev pub led : List ℕ → ℕ → ℕ → Place
led b q k = entered (said b) q ((said b).move k).outcome

-- An action that is not open has no line.
pub closed_silent : (j : Job) (p : List ℕ) (s q a : ℕ) (states actions goals : ℕ → List ℕ) → (Open (arena j) (place s q) a → ⊥)
    → told_action j p s q states actions goals a ≡ []
closed_silent j p s q a states actions goals closed = go (worst j p s q a) refl
  where
    none : (k : ℕ) → k < j.records → is_from (j.move k) s a ≡ true → ⊥
    none k h f = closed (entered j q (j.move k).outcome, (leads_iff j (place s q) _ a).1 (k, h, f, refl))

    go : (r : Option ℕ) → worst j p s q a ≡ r → told_found j p q states actions goals r ≡ []
    go (Some k) e =
        let (h, o) = worst_spoils j p s q a k (sym e) in
        absurd (⊎_elim (λ t. none k h ((spoils_iff j p s q a 0 k).0 t).0) (λ t. none k h ((spoils_iff j p s q a 1 k).0 t.1).0) o)
    go None e = refl

module _ {b before after : List ℕ} (done : Planning b before (only 0) after) {q : ℕ} (hq : q < (said b).goals) where
  keeps : Keeps b
  keeps = ((planned_exactly done).0 refl).0

  -- the place that record k enters lies inside, and has the value that the plan gives it
  led_inside : (k : ℕ) → k < (said b).records → Inside (arena (said b)) (led b q k)
  led_inside k h = entered_inside keeps hq (keeps.outcome_below k h)

  led_value : (k : ℕ) → k < (said b).records
      → ValueTold (arena (said b)) (led b q k) (entry_of b after (led b q k))
  led_value k h =
      followed.values_told b after keeps (λ p i. right_allowed (arena (said b)) (planned_right done refl p i)) _ (led_inside k h)

  -- where that value is above pending, it is winning
  led_winning : (k : ℕ) → k < (said b).records → (worth (said b) after q k ≤ 1 → ⊥)
      → Winning (arena (said b)) (led b q k)
  led_winning k h high =
      ⊎_elim (λ w. w)
      (⊎_elim (λ p. absurd (high (omega (arith, (led_value k h).pending.1 p))))
      (λ l. absurd (high (omega (arith, (led_value k h).losing.1 l)))))
      (value_of (arena (said b)) (arena_lawful b keeps) _ (led_inside k h))

  module _ (s a : ℕ) where
    -- Every open action of a place that is not winning is told: some record spoils it.
    pub open_told : (Winning (arena (said b)) (place s q) → ⊥) → Open (arena (said b)) (place s q) a
        → (k : ℕ) × (Some k ≡ worst (said b) after s q a)
    open_told lost some =
        worst_some (said b) after s q a
        (if_not_false (is_spoilt (said b) after s q a 1)
        (λ none.
        lost
        (win_winning (arena (said b)) (arena_lawful b keeps) _ (place s q)
        (into_win (arena (said b)) (arena_lawful b keeps) (size (arena (said b))) (place s q) (a, some, λ t l. all_win none t l)))))
      where
        all_win : is_spoilt (said b) after s q a 1 ≡ false → (t : Place) → Listed (arena (said b)) (place s q) a t
            → won (arena (said b)) t ≡ true
        all_win none t l =
            let (k, h, f, e) = (leads_iff (said b) (place s q) t a).0 l in
            let high : worth (said b) after q k ≤ 1 → ⊥ =
            λ low. clash (some_stops (spoils (said b) after s q a 1) (said b).records k h ((spoils_iff (said b) after s q a 1 k).1 (f, low))) none in
            rw e ((winning_iff (arena (said b)) (arena_lawful b keeps) _ (led_inside k h)).0 (led_winning k h high))

    -- So it has a line, that of this record.
    pub open_line : (Winning (arena (said b)) (place s q) → ⊥) → Open (arena (said b)) (place s q) a → (states actions goals : ℕ → List ℕ)
        → (k : ℕ) × (told_action (said b) after s q states actions goals a ≡ told_spoiler (said b) after q k states actions goals)
    open_line lost some states actions goals =
        let (k, e) = open_told lost some in
        (k, ap (told_found (said b) after q states actions goals) (sym e))

    -- What is told is so: the record is an outcome of the action, and enters a place that is losing, or one that is pending where no outcome is.
    pub told_so : (k : ℕ) → Some k ≡ worst (said b) after s q a → Reason (said b) s q a k (worth (said b) after q k)
    told_so k e = let (h, o) = worst_spoils (said b) after s q a k e in go h o
      where
        not_lost : is_spoilt (said b) after s q a 0 ≡ false → (i : ℕ) → i < (said b).records → is_from ((said b).move i) s a ≡ true
            → worth (said b) after q i ≡ 0 → ⊥
        not_lost none i h f z =
            clash (some_stops (spoils (said b) after s q a 0) (said b).records i h ((spoils_iff (said b) after s q a 0 i).1 (f, omega arith))) none

        none_lost : is_spoilt (said b) after s q a 0 ≡ false → (t : Place) → Listed (arena (said b)) (place s q) a t
            → Losing (arena (said b)) t → ⊥
        none_lost none t l lost =
            let (i, h, f, e) = (leads_iff (said b) (place s q) t a).0 l in
            not_lost none i h f ((led_value i h).losing.1 (rw e at lost))

        go : k < (said b).records
            → (spoils (said b) after s q a 0 k ≡ true) ⊎ ((is_spoilt (said b) after s q a 0 ≡ false) × (spoils (said b) after s q a 1 k ≡ true))
            → Reason (said b) s q a k (worth (said b) after q k)
        go h (inl t) =
            let (f, low) = (spoils_iff (said b) after s q a 0 k).0 t in
            let z : worth (said b) after q k ≡ 0 = omega arith in
            record { one = h; outcome = f; so = rw z (loses ((led_value k h).losing.0 z)) }
        go h (inr (none, t)) =
            let (f, low) = (spoils_iff (said b) after s q a 1 k).0 t in
            let some : worth (said b) after q k ≡ 0 → ⊥ = not_lost none k h f in
            let z : worth (said b) after q k ≡ 1 = omega arith in
            record { one = h; outcome = f; so = rw z (hopes ((led_value k h).pending.0 z) (none_lost none)) }

  -- ---- the same by what the plan says of the place

  module _ {s : ℕ} (hs : s < (said b).states) where
    value_told : ValueTold (arena (said b)) (place s q) (entry_of b after (place s q))
    value_told =
        followed.values_told b after keeps (λ p i. right_allowed (arena (said b)) (planned_right done refl p i)) _
        ((inside_iff (said b) (place s q)).1 (hs, hq))

    -- Where a place is told lost, it is: no way of choosing can still meet the goal, however the outcomes fall.
    pub lost_so : (entry_of b after (place s q)).value ≡ 0 → Losing (arena (said b)) (place s q)
    lost_so e = value_told.losing.0 e

    -- Where a place is told with hope, each of its open actions has its line.
    pub pending_line : (entry_of b after (place s q)).value ≡ 1 → (a : ℕ) → Open (arena (said b)) (place s q) a → (states actions goals : ℕ → List ℕ)
        → (k : ℕ) × (told_action (said b) after s q states actions goals a ≡ told_spoiler (said b) after q k states actions goals)
    pending_line e a = open_line s a (λ w. absurd (omega (arith, e, value_told.winning.1 w)))
