-- The laws of actions that are found: one action more, what is said otherwise, and one after the other.
use Prim.Native.Nat.{ℕ, ◌+◌, ◌*◌, ◌/◌, ◌%◌, ◌≤◌, ◌<◌}
use mathlib.Core.Bool.{Bool, true, false, cond, not, ◌&&◌, or-false, ◌||◌, or-true, or_assoc}
use mathlib.Core.List.{List}
use mathlib.Core.Logic.{◌⊎◌, ⊎_elim, inl, inr}
use mathlib.Core.Path.{◌≡◌, refl, sym, ◌∙◌}
use native.Mathlib.Omega.{arith}
use borrow.Author.Tests.{lt-ltb, le-ltb, eq-eqb, ne_eqb}
use lib.Dec.{eqb, ltb}
use lib.ListN.{get_or}
use Rattle.sets.specs.Sets.{set_room, member, Put}
use Rattle.game.specs.Game.{says}
use Rattle.game.specs.Below.{some_below}
use Rattle.rules.specs.Plan.{entry_byte, Wrote}
use Rattle.game.specs.declared.entry.Entry.{Entry}
use Rattle.sets.proofs.Bits.{below_or, same_or}
use Rattle.game.proofs.Search.{lowest, lowest_at, lowest_ext, least_unique, clash, if_not_true, either}
use Rattle.game.proofs.Tests.{eqb_iff, some_stops, some_below_ext, lowest_found}
use Rattle.backward.specs.Notes.{Found, Noted, only}

-- ---- the lowest with one more

module _ (f : ℕ → Bool) (n a : ℕ) (h : a < n) where
  abbrev with_one : ℕ → Bool
  with_one b = eqb b a || f b

  pub some_one : some_below n with_one ≡ true
  some_one = some_stops with_one n a h (rw (eq-eqb a a refl))

  one_or : (m : ℕ) → with_one m ≡ true → (b : ℕ) → (m ≡ a → b ≤ m) → (f m ≡ true → b ≤ m) → b ≤ m
  one_or m e b p q = ⊎_elim (λ d. p ((eqb_iff m a).0 d)) q (or_iff' (eqb m a) (f m) e)
    where
      or_iff' : (x y : Bool) → (x || y) ≡ true → (x ≡ true) ⊎ (y ≡ true)
      or_iff' true y d = inl refl
      or_iff' false y d = inr d

  -- none before it had been found
  pub lowest_new : ((k : ℕ) → k < a → f k ≡ false) → lowest with_one n ≡ a
  lowest_new none =
      least_unique (lowest_at with_one n a h (rw (eq-eqb a a refl))).1 (
        rw (eq-eqb a a refl),
        λ m e. one_or m e a (λ d. omega arith)
            (λ d. let no : m < a → ⊥ = λ l. clash d (none m l) in omega arith),
      )

  -- the lowest found stays
  pub lowest_kept : some_below n f ≡ true → lowest f n ≤ a → lowest with_one n ≡ lowest f n
  lowest_kept s l =
      let (b, low) = lowest_found f n s in
      least_unique (lowest_found with_one n some_one).1
      (rw low.0 (or-true (eqb (lowest f n) a)), λ m e. one_or m e (lowest f n) (λ d. omega arith) (λ d. low.1 m d))

-- none below the lowest number that passes
below_lowest : (f : ℕ → Bool) (n a : ℕ) → some_below n f ≡ true → a < lowest f n → (k : ℕ) → k < a → f k ≡ false
below_lowest f n a s l k h =
    let low = (lowest_found f n s).1 in
    if_not_true (f k) (λ e. let g : lowest f n ≤ k = low.1 k e in omega arith)

-- the bytes where an entry is written, and elsewhere
wrote_at : {x : ℕ} {w : Entry} {plan plan' : List ℕ} → Wrote x w plan plan' → (y : ℕ) → y / 4 ≡ x → get_or plan' y 0 ≡ entry_byte w (y % 4)
wrote_at {x} r y e = r.bytes y ∙ rw (eq-eqb (y / 4) x e)

wrote_off : {x : ℕ} {w : Entry} {plan plan' : List ℕ} → Wrote x w plan plan' → (y : ℕ) → (y / 4 ≡ x → ⊥) → get_or plan' y 0 ≡ get_or plan y 0
wrote_off {x} r y d = r.bytes y ∙ rw (ne_eqb (y / 4) x d)

-- what was answered of a place is whether the set has it
pub has_known : (ws : List ℕ) {x : ℕ} {b c : Bool} → x < set_room → b ≡ (ltb x set_room && member ws x) → b ≡ c → member ws x ≡ c
has_known ws {x} h e d = sym (rw (lt-ltb x set_room h) at e) ∙ d

-- ---- the same actions, said otherwise

module _ (places actions v n : ℕ) (known : ℕ → Bool) where
  module _ {found found' : ℕ → ℕ → Bool} (same : (x a : ℕ) → x < places → known x ≡ false → a < actions → found x a ≡ found' x a)
    where
      some_same : (x : ℕ) → (ltb x places && some_below actions (found x) || known x)
          ≡ (ltb x places && some_below actions (found' x) || known x)
      some_same x = ⊎_elim inside (λ (l : places ≤ x). rw (le-ltb x places l)) (below_or x places)
        where
          inside : x < places → (ltb x places && some_below actions (found x) || known x)
              ≡ (ltb x places && some_below actions (found' x) || known x)
          inside l =
              rw (lt-ltb x places l)
              (⊎_elim
              (λ (e : known x ≡ true). rw e (or-true (some_below actions (found x)) ∙ sym (or-true (some_below actions (found' x)))))
              (λ (e : known x ≡ false). rw (some_below_ext (found x) (found' x) actions (λ a h. same x a l e h)))
              (either (known x)))

      bytes_same : (x d z : ℕ) → cond (ltb x places && (not (known x) && some_below actions (found x)))
          (entry_byte (says v (lowest (found x) actions) n) d) z
          ≡ cond (ltb x places && (not (known x) && some_below actions (found' x)))
          (entry_byte (says v (lowest (found' x) actions) n) d) z
      bytes_same x d z = ⊎_elim inside (λ (l : places ≤ x). rw (le-ltb x places l)) (below_or x places)
        where
          inside : x < places → cond (ltb x places && (not (known x) && some_below actions (found x)))
              (entry_byte (says v (lowest (found x) actions) n) d) z
              ≡ cond (ltb x places && (not (known x) && some_below actions (found' x)))
              (entry_byte (says v (lowest (found' x) actions) n) d) z
          inside l =
              rw (lt-ltb x places l)
              (⊎_elim
              (λ (e : known x ≡ true). rw e)
              (λ (e : known x ≡ false). rw (
                some_below_ext (found x) (found' x) actions (λ a h. same x a l e h),
                lowest_ext (found x) (found' x) actions (λ a h. same x a l e h),
              ))
              (either (known x)))

module _ {places actions v n : ℕ} {known : ℕ → Bool} where
  module _ {found found' : ℕ → ℕ → Bool} (same : (x a : ℕ) → x < places → known x ≡ false → a < actions → found x a ≡ found' x a)
    where
      pub found_ext : {plan₀ ws plan : List ℕ} → Found places actions v n known plan₀ found ws plan
          → Found places actions v n known plan₀ found' ws plan
      found_ext {plan₀} r =
          record {
            members =
                λ x. r.members x ∙ some_same places actions v n known same x;
            bytes = λ y. r.bytes y ∙ bytes_same places actions v n known
                same (y / 4) (y % 4) (get_or plan₀ y 0);
          }

  module _ {more more' : ℕ → ℕ → Bool} (same : (x a : ℕ) → x < places → a < actions → more x a ≡ more' x a) where
    pub noted_ext : {ws plan ws' plan' : List ℕ} → Noted places actions v n known more ws plan ws' plan'
        → Noted places actions v n known more' ws plan ws' plan'
    noted_ext r =
        record {
          as_many = r.as_many;
          as_long = r.as_long;
          finds = λ plan₀ found h. found_ext (λ x a l e g. rw (same x a l g)) (r.finds plan₀ found h);
        }

  -- ---- nothing, and one after the other

  pub noted_none : {ws plan : List ℕ} → Noted places actions v n known (λ x a. false) ws plan ws plan
  noted_none = record { as_many = refl; as_long = refl; finds = λ plan₀ found h. h }

  pub noted_then : {more later : ℕ → ℕ → Bool} {ws plan ws1 plan1 ws2 plan2 : List ℕ} → Noted places actions v n known more ws plan ws1
      plan1
      → Noted places actions v n known later ws1 plan1 ws2 plan2 → Noted places actions v n known (λ x a. later x a || more x a) ws plan ws2
      plan2
  noted_then {more} {later} r s =
      record {
        as_many = s.as_many ∙ r.as_many;
        as_long = s.as_long ∙ r.as_long;
        finds = λ plan₀ found h.
            found_ext (λ x a l e g. sym (or_assoc (later x a) (more x a) (found x a)))
            (s.finds plan₀ (λ x a. more x a || found x a) (r.finds plan₀ found h));
      }

  -- ---- one action at one place

  module _ (x a : ℕ) (hx : x < places) (ha : a < actions) where
    -- the place is known: what is found at it changes nothing
    pub only_known : {ws plan : List ℕ} → known x ≡ true → Noted places actions v n known (only x a) ws plan ws plan
    only_known k =
        record {
          as_many = refl;
          as_long = refl;
          finds = λ plan₀ found h. found_ext
              (λ y b l e g. rw (ne_eqb y x (λ d. clash (rw (← d) at k) e))) h;
        }

    -- the place is not known: it joins, and its entry names the lowest with the new action
    module _ (unknown : known x ≡ false) {plan₀ : List ℕ} {found : ℕ → ℕ → Bool} {ws plan : List ℕ}
        (h : Found places actions v n known plan₀ found ws plan) where
      joined : {ws' plan' : List ℕ} → ((y : ℕ) → (y ≡ x → ⊥) → member ws' y ≡ member ws y) → member ws' x ≡ true
          → ((y : ℕ) → (y / 4 ≡ x → ⊥) → get_or plan' y 0 ≡ get_or plan y 0)
          → ((y : ℕ) → y / 4 ≡ x → get_or plan' y 0 ≡ entry_byte (says v (lowest (λ b. eqb b a || found x b) actions) n) (y % 4))
          → Found places actions v n known plan₀ (λ y b. only x a y b || found y b) ws' plan'
      joined {ws'} {plan'} ws-off ws-at plan-off plan-at =
          record {
            members = λ y. ⊎_elim (here y) (there y) (same_or y x);
            bytes = λ y. ⊎_elim (byte_here y) (byte_there y) (same_or (y / 4) x);
          }
        where
          off : (y : ℕ) → (y ≡ x → ⊥) → (b : ℕ) → found y b ≡ (only x a y b || found y b)
          off y d b = rw (ne_eqb y x d)

          here : (y : ℕ) → y ≡ x → member ws' y ≡ (ltb y places && some_below actions (λ b. only x a y b || found y b) || known y)
          here y e = rw (e, ws-at, lt-ltb x places hx, eq-eqb x x refl, some_one (found x) actions a ha)

          there : (y : ℕ) → (y ≡ x → ⊥) → member ws' y ≡ (ltb y places && some_below actions (λ b. only x a y b || found y b) || known y)
          there y d =
              ws-off y d ∙ h.members y
              ∙ rw (some_below_ext (found y) (λ b. only x a y b || found y b) actions (λ b l. off y d b))

          byte_here : (y : ℕ) → y / 4 ≡ x → get_or plan' y 0
              ≡ cond (ltb (y / 4) places && (not (known (y / 4)) && some_below actions (λ b. only x a (y / 4) b || found (y / 4) b)))
              (entry_byte (says v (lowest (λ b. only x a (y / 4) b || found (y / 4) b) actions) n) (y % 4)) (get_or plan₀ y 0)
          byte_here y e =
              plan-at y e ∙ rw (e, lt-ltb x places hx, unknown, eq-eqb x x refl, some_one (found x) actions a ha)

          byte_there : (y : ℕ) → (y / 4 ≡ x → ⊥) → get_or plan' y 0
              ≡ cond (ltb (y / 4) places && (not (known (y / 4)) && some_below actions (λ b. only x a (y / 4) b || found (y / 4) b)))
              (entry_byte (says v (lowest (λ b. only x a (y / 4) b || found (y / 4) b) actions) n) (y % 4)) (get_or plan₀ y 0)
          byte_there y d =
              plan-off y d ∙ h.bytes y
              ∙ rw (
                some_below_ext (found (y / 4)) (λ b. only x a (y / 4) b || found (y / 4) b) actions (λ b l. off (y / 4) d b),
                lowest_ext (found (y / 4)) (λ b. only x a (y / 4) b || found (y / 4) b) actions (λ b l. off (y / 4) d b),
              )

      -- it has joined exactly when an action was found for it, and its entry names the lowest of them
      some_found : member ws x ≡ some_below actions (found x)
      some_found = h.members x ∙ rw (lt-ltb x places hx, unknown) (or-false (some_below actions (found x)))

      byte_found : member ws x ≡ true → (y : ℕ) → y / 4 ≡ x → get_or plan y 0 ≡ entry_byte (says v (lowest (found x) actions) n) (y % 4)
      byte_found m y e = h.bytes y ∙ rw (e, lt-ltb x places hx, unknown, ← some_found, m)

      action_found : member ws x ≡ true → get_or plan (4 * x + 1) 0 ≡ lowest (found x) actions
      action_found m =
          let q : (4 * x + 1) / 4 ≡ x = omega arith in
          let r : (4 * x + 1) % 4 ≡ 1 = omega arith in
          byte_found m (4 * x + 1) q ∙ rw r

    module _ {ws plan : List ℕ} (unknown : known x ≡ false) where
      -- it has joined with an action that is no higher
      pub only_kept : member ws x ≡ true → get_or plan (4 * x + 1) 0 ≤ a → Noted places actions v n known (only x a) ws plan ws plan
      only_kept m l =
          record {
            as_many = refl;
            as_long = refl;
            finds = λ plan₀ found h.
                let s : some_below actions (found x) ≡ true = sym (some_found unknown h) ∙ m in
                let low : lowest (found x) actions ≤ a = omega (arith, action_found unknown h m) in
                joined unknown h (λ y d. refl) m (λ y d. refl)
                (λ y e. byte_found unknown h m y e ∙ rw (lowest_kept (found x) actions a ha s low));
          }

      -- it has joined with a higher action
      pub only_lower : {plan' : List ℕ} → member ws x ≡ true → a < get_or plan (4 * x + 1) 0 → Wrote x (says v a n) plan plan'
          → Noted places actions v n known (only x a) ws plan ws plan'
      only_lower m l w =
          record {
            as_many = refl;
            as_long = w.as_long;
            finds = λ plan₀ found h.
                let s : some_below actions (found x) ≡ true = sym (some_found unknown h) ∙ m in
                let low : a < lowest (found x) actions = omega (arith, action_found unknown h m) in
                joined unknown h (λ y d. refl) m (wrote_off w)
                (λ y e. wrote_at w y e ∙ rw (lowest_new (found x) actions a ha (below_lowest (found x) actions a s low)));
          }

      -- it joins now
      pub only_new : {ws' plan' : List ℕ} → member ws x ≡ false → x < set_room → Put ws x ws' → Wrote x (says v a n) plan plan'
          → Noted places actions v n known (only x a) ws plan ws' plan'
      only_new m l p w =
          record {
            as_many = p.as_long;
            as_long = w.as_long;
            finds = λ plan₀ found h.
                let s : some_below actions (found x) ≡ false = sym (some_found unknown h) ∙ m in
                joined unknown h
                (λ y d. p.members y ∙ rw (lt-ltb x set_room l, ne_eqb y x d))
                (p.members x ∙ rw (lt-ltb x set_room l, eq-eqb x x refl))
                (wrote_off w)
                (λ y e. wrote_at w y e ∙ rw (lowest_new (found x) actions a ha
                (λ b g. if_not_true (found x b) (λ z. clash (some_stops (found x) actions b (omega arith) z) s))));
          }
