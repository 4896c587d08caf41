-- The test of an entry by the right plan decides whether it is allowed; and what the check answers from the tests, in order of entries.
use Prim.Native.Nat.{ℕ, suc, ◌/◌, ◌%◌, ◌≤◌, ◌<◌}
use mathlib.Core.Bool.{Bool, true, false, ◌&&◌, ◌||◌}
use mathlib.Core.List.{List}
use mathlib.Core.Logic.Iff
use mathlib.Core.Logic.{◌⊎◌, ⊎_map, ◌↔◌}
use mathlib.Core.Path.{◌≡◌, refl, sym, subst}
use native.Mathlib.Nat.{div-add-mod', mod-lt}
use native.Mathlib.Omega.{arith}
use lib.Arith.{digits_lt, digits_div, digits_mod}
use lib.Dec.{ltb, eqb}
use lib.ListN.{length}
use Rattle.game.specs.Game.{Arena, says, Inside, Accepted, Lawful, Winning, Pending, Losing, WinsIn, HopesIn, Sure, Hopeful}
use Rattle.game.specs.Game as game
use Rattle.game.specs.Allowed.{Allowed, lost, met, wins, hopes}
use Rattle.rules.specs.Job.{place, places, entry_number, arena}
use Rattle.rules.specs.Bytes.{said}
use Rattle.rules.specs.Keeps.{Keeps}
use Rattle.rules.specs.Fault.{only}
use Rattle.rules.specs.Plan.{entry, room, planned_entry}
use Rattle.rules.specs.declared.place.Place.{Place}
use Rattle.game.specs.declared.entry.Entry.{Entry}
use Rattle.game.proofs.Lists.{some, sure, some_found, some_true, sure_at, sure_true}
use Rattle.game.proofs.Search.{clash, least_unique}
use Rattle.game.proofs.Tests.{and_iff, or_iff, eqb_iff, ltb_iff}
use Rattle.rules.proofs.Kept.{kept}
use Rattle.rules.proofs.Arenas.{inside_iff, arena_lawful}
use Rattle.game.proofs.Values.{accepted_winning}
use Rattle.game.proofs.Hopes.{wins_winning}
use Rattle.game.proofs.Following.{right_allowed, says_wins, says_hopes, open_named}
use Rattle.game.proofs.Demands.{value_told}
use Rattle.rules.proofs.Rows.{row_of}
use Rattle.checking.specs.Checking.{AllowedAt, Checking, wrong, passed}
use Rattle.checking.specs.Fits.{does, fits, fits_at}

-- the test of an outcome at a winning place of number n, and at a pending one
abbrev wins_below : (G : Arena) → (G.Place → Entry) → ℕ → G.Place → Bool
wins_below G e n t = eqb (e t).value 2 && ltb (e t).number n

abbrev hopes_at : (G : Arena) → (G.Place → Entry) → ℕ → G.Place → Bool
hopes_at G e n t = eqb n 1 && eqb (e t).value 2 || eqb (e t).value 1 && eqb (suc (e t).number) n

module _ (G : Arena) (L : Lawful G) (few : G.actions ≤ 255) (e : G.Place → Entry)
    (right : (p : G.Place) → Inside G p → game.Right G p (e p)) where
  -- ---- the outcomes, by their right entries

  below_iff : (t : G.Place) → Inside G t → (n : ℕ) → (wins_below G e n t ≡ true) ↔ ((m : ℕ) × WinsIn G t m × (m < n))
  below_iff t i n = (
    λ y.
        let (v, l) = (and_iff (eqb_iff (e t).value 2) (ltb_iff (e t).number n)).0 y in
        ((e t).number, says_wins G L t (right_allowed G (right t i)) v, l),
    λ w.
        let v = (value_told G L (right_allowed G (right t i))).winning.1 (wins_winning G L w.0 t w.1) in
        let q : (e t).number ≡ w.0 = least_unique (says_wins G L t (right_allowed G (right t i)) v) w.1 in
        let l = w.2 in
        (and_iff (eqb_iff (e t).value 2) (ltb_iff (e t).number n)).1 (v, omega arith),
  )

  hopes_at_iff : (t : G.Place) → Inside G t → (n : ℕ)
      → (hopes_at G e n t ≡ true) ↔ (((n ≡ 1) × Winning G t) ⊎ ((m : ℕ) × (n ≡ suc m) × Pending G t × HopesIn G t m))
  hopes_at_iff t i n =
      Iff.trans
      (or_iff (and_iff (eqb_iff n 1) (eqb_iff (e t).value 2)) (and_iff (eqb_iff (e t).value 1) (eqb_iff (suc (e t).number) n)))
      (⊎_map there_wins there_hopes, ⊎_map back_wins back_hopes)
    where
      there_wins : (n ≡ 1) × ((e t).value ≡ 2) → (n ≡ 1) × Winning G t
      there_wins (q, v) = (q, (value_told G L (right_allowed G (right t i))).winning.0 v)

      back_wins : (n ≡ 1) × Winning G t → (n ≡ 1) × ((e t).value ≡ 2)
      back_wins (q, w) = (q, (value_told G L (right_allowed G (right t i))).winning.1 w)

      there_hopes : ((e t).value ≡ 1) × (suc (e t).number ≡ n) → (m : ℕ) × (n ≡ suc m) × Pending G t × HopesIn G t m
      there_hopes (v, q) = let (h, k) = says_hopes G L t (right_allowed G (right t i)) v in ((e t).number, sym q, h, k)

      back_hopes : (m : ℕ) × (n ≡ suc m) × Pending G t × HopesIn G t m → ((e t).value ≡ 1) × (suc (e t).number ≡ n)
      back_hopes (m, q, h, k) =
          let v = (value_told G L (right_allowed G (right t i))).pending.1 h in
          let z : (e t).number ≡ m = least_unique (says_hopes G L t (right_allowed G (right t i)) v).1 k in
          (v, omega arith)

  -- ---- the actions

  pub sure_by : (p : G.Place) → Inside G p → (n a : ℕ) → (sure (wins_below G e n) (G.leads p a) ≡ true) ↔ Sure G p n a
  sure_by p i n a = (
    λ y. let s = sure_at _ _ y in (s.0, λ t m. (below_iff t (L.closed p t a i m) n).0 (s.1 t m)),
    λ s. sure_true _ _ s.0 (λ t m. (below_iff t (L.closed p t a i m) n).1 (s.1 t m)),
  )

  pub hopeful_by : (p : G.Place) → Inside G p → (n a : ℕ) → (some (hopes_at G e n) (G.leads p a) ≡ true) ↔ Hopeful G p n a
  hopeful_by p i n a = (
    λ y. let s = some_found _ _ y in (s.0, s.1, (hopes_at_iff s.0 (L.closed p s.0 a i s.1) n).0 s.2),
    λ s. some_true _ _ s.0 s.1 ((hopes_at_iff s.0 (L.closed p s.0 a i s.1) n).1 s.2),
  )

  -- ---- an entry passes exactly when it is allowed

  module _ (p : G.Place) (i : Inside G p) (x : Entry) where
    -- the value v, the number n, and what is asked of the action
    Said : ℕ → ℕ → (ℕ → Type 0) → Type 0
    Said v n A = (x.value ≡ v) × (x.number ≡ n) × A x.action

    said_iff : (v n : ℕ) (A : ℕ → Type 0) (c : Bool) → (c ≡ true) ↔ A x.action
        → ((eqb x.value v && (eqb x.number n && c)) ≡ true) ↔ Said v n A
    unfolding Said
    said_iff v n A c h =
        let t = and_iff (eqb_iff x.value v) (and_iff (eqb_iff x.number n) h) in
        (λ y. let (a, b) = t.0 y in (a, b.0, b.1), λ s. t.1 (s.0, (s.1, s.2)))

    made : {v a n : ℕ} → x.value ≡ v → x.action ≡ a → x.number ≡ n → Allowed G p (says v a n) → Allowed G p x
    made hv ha hn y = subst (Allowed G p) (λ k. says (sym hv k) (sym ha k) (sym hn k)) y

    lost_iff : Losing G p → Said 0 0 (λ a. a ≡ 255) ↔ Allowed G p x
    unfolding Said
    lost_iff l = (λ s. made s.0 s.2 s.1 (lost l), only)
      where
        only : {x : Entry} → Allowed G p x → (x.value ≡ 0) × (x.number ≡ 0) × (x.action ≡ 255)
        only (lost k) = (refl, refl, refl)
        only (met y) = absurd (l.0 (accepted_winning G L p y))
        only (wins u w s) = absurd (l.0 (wins_winning G L _ p w))
        only (hopes h n s) = absurd (l.1 h.1)

    met_iff : Accepted G p → Said 2 0 (λ a. a ≡ 255) ↔ Allowed G p x
    unfolding Said
    met_iff y = (λ s. made s.0 s.2 s.1 (met y), only)
      where
        only : {x : Entry} → Allowed G p x → (x.value ≡ 2) × (x.number ≡ 0) × (x.action ≡ 255)
        only (lost l) = absurd (l.0 (accepted_winning G L p y))
        only (met z) = (refl, refl, refl)
        only (wins u w s) = absurd (clash y u)
        only (hopes h n s) = absurd (h.0 (accepted_winning G L p y))

    wins_iff : {n : ℕ} → game.Unmet G p → WinsIn G p n → Said 2 n (Sure G p n) ↔ Allowed G p x
    unfolding Said
    wins_iff {n} u w = (λ s. made s.0 refl s.1 (wins u w s.2), only)
      where
        only : {x : Entry} → Allowed G p x → (x.value ≡ 2) × (x.number ≡ n) × Sure G p n x.action
        only (lost l) = absurd (l.0 (wins_winning G L n p w))
        only (met z) = absurd (clash z u)
        only (wins {a} {n = m} v k s) = let q : m ≡ n = least_unique k w in (refl, q, subst (λ k. Sure G p k a) q s)
        only (hopes h m s) = absurd (h.0 (wins_winning G L n p w))

    hopes_iff : {n : ℕ} → Pending G p → HopesIn G p n → Said 1 n (Hopeful G p n) ↔ Allowed G p x
    unfolding Said
    hopes_iff {n} h w = (λ s. made s.0 refl s.1 (hopes h w s.2), only)
      where
        only : {x : Entry} → Allowed G p x → (x.value ≡ 1) × (x.number ≡ n) × Hopeful G p n x.action
        only (lost l) = absurd (l.1 h.1)
        only (met z) = absurd (h.0 (accepted_winning G L p z))
        only (wins u k s) = absurd (h.0 (wins_winning G L _ p k))
        only (hopes {a} {n = m} g k s) = let q : m ≡ n = least_unique k w in (refl, q, subst (λ k. Hopeful G p k a) q s)

    by : (r : Entry) → game.Right G p r
        → ((eqb x.value r.value && (eqb x.number r.number && does G e p r x.action)) ≡ true) ↔ Allowed G p x
    by r (game.lost l) = Iff.trans (said_iff 0 0 (λ a. a ≡ 255) (eqb x.action 255) (eqb_iff x.action 255)) (lost_iff l)
    by r (game.met y) = Iff.trans (said_iff 2 0 (λ a. a ≡ 255) (eqb x.action 255) (eqb_iff x.action 255)) (met_iff y)
    by r (game.wins {a} {n} u w s) =
        rw (open_named G L few s.0.0)
        (Iff.trans (said_iff 2 n (Sure G p n) (sure (wins_below G e n) (G.leads p x.action)) (sure_by p i n x.action))
        (wins_iff u w))
    by r (game.hopes {a} {n} h k s) =
        let t = s.0 in
        rw (open_named G L few (t.0, t.1))
        (Iff.trans (said_iff 1 n (Hopeful G p n) (some (hopes_at G e n) (G.leads p x.action)) (hopeful_by p i n x.action))
        (hopes_iff h k))

    pub fits_iff : (fits G e p x ≡ true) ↔ Allowed G p x
    fits_iff = by (e p) (right p i)

-- ---- the answer, from the tests in order of entries

module _ (b own p : List ℕ) (k : Keeps b) (fit : room (said b) ≤ length p)
    (right : (t : Place) → Inside (arena (said b)) t → game.Right (arena (said b)) t (planned_entry (said b) own t)) where
  few : (said b).actions ≤ 255
  few = let h = k.few_actions in omega arith

  -- the entry of a place
  at_iff : (s q : ℕ) → s < (said b).states → q < (said b).goals
      → (fits_at b own p (entry_number (said b).goals (place s q)) ≡ true) ↔ AllowedAt b p s q
  at_iff s q hs hq =
      rw (digits_div s hq, digits_mod s hq)
      (fits_iff (arena (said b)) (arena_lawful b k) few (planned_entry (said b) own) right (place s q) ((inside_iff (said b) (place s q)).1 (hs, hq))
      (entry p (entry_number (said b).goals (place s q))))

  -- all pass
  pub checked_passed : ((x : ℕ) → x < places (said b) → fits_at b own p x ≡ true) → Checking b p (only 0) 0 0
  checked_passed h = passed ((kept b).1 k) fit (λ s q hs hq. (at_iff s q hs hq).0 (h (entry_number (said b).goals (place s q)) (digits_lt hs hq)))

  -- x is the first that does not
  pub checked_wrong : (x : ℕ) → x < places (said b) → fits_at b own p x ≡ false → ((y : ℕ) → y < x → fits_at b own p y ≡ true)
      → Checking b p (only 16) (x / (said b).goals) (x % (said b).goals)
  checked_wrong x l z h =
      let g = (said b).goals in
      let some = k.some_goals in
      let s = row_of some x l in
      let q = mod-lt x some in
      let n : entry_number g (place (x / g) (x % g)) ≡ x = div-add-mod' x g in
      wrong ((kept b).1 k) fit s q
      (λ a. clash (subst (λ (i : ℕ). fits_at b own p i ≡ true) n ((at_iff (x / g) (x % g) s q).1 a)) z)
      (λ t r ht hr d. (at_iff t r ht hr).0 (h (entry_number g (place t r)) (subst (λ (i : ℕ). entry_number g (place t r) < i) n d)))
