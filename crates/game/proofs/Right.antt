-- What a plan may say of a place: inside there is always something to say, and never two things.
use Prim.Native.Nat.{ℕ, zero, suc, pred, ◌≤◌, zero-le, suc-le-suc}
use mathlib.Core.Bool.{Bool, true, false}
use mathlib.Core.Logic.{◌⊎◌, inl, inr, ◌↔◌}
use mathlib.Core.Path.{◌≡◌, refl, sym, subst}
use native.Mathlib.Nat.{le_of_suc-le-suc}
use native.Mathlib.Omega.{arith}
use Rattle.game.proofs.Lists.{some, sure, some_found, some_true, sure_at, sure_true}
use Rattle.game.proofs.Search.{clash, if_not_true, not_yet, least_unique, least_map, has_lowest, lowest, lowest_passes}
use Rattle.game.proofs.Tests.{lowest_found, some_stops}
use Rattle.game.specs.declared.entry.Entry.{Entry}
use Rattle.game.specs.Game.{Arena, Inside, Unmet, Lawful, Winning, Pending, HopesIn, Sure, Hopeful, Right, lost, met, wins, hopes}
use Rattle.game.specs.Game.{Least, says}
use Rattle.game.proofs.Rounds.{size, won, hoped, win, hope, win_accepted, win_mono, win_into, hope_mono, hope_into, hope_down}
use Rattle.game.proofs.Values.{wins_iff, winning_iff, win_winning, accepted_winning}
use Rattle.game.proofs.Hopes.{hopes_possible, possible_iff, hopes_iff, wins_winning}

-- the entry that the rounds give
unfoldable pub by_rounds : (G : Arena) → G.Place → Entry
by_rounds G p =
    let wins_by = lowest (λ k. win G k p) (suc (size G)) in
    let hopes_by = lowest (λ k. hoped G k p) (suc (size G)) in
    elim (G.accepted p) [
      | true ↦ says 2 255 0
      | false ↦ elim (won G p) [
        | true ↦ says 2 (lowest (λ a. sure (win G (pred wins_by)) (G.leads p a)) G.actions) wins_by
        | false ↦ elim (hoped G (size G) p) [
          | true ↦ says 1 (lowest (λ a. some (hoped G (pred hopes_by)) (G.leads p a)) G.actions) hopes_by
          | false ↦ says 0 255 0
        ]
      ]
    ]

module _ (G : Arena) (L : Lawful G) where
  -- ---- the actions to name, as tests

  pub sure_iff : (p : G.Place) (n a : ℕ) → Sure G p (suc n) a ↔ (sure (win G n) (G.leads p a) ≡ true)
  sure_iff p n a = (
    λ s. sure_true _ _ s.0 (λ t m. let w = s.1 t m in
        win_mono G L w.0 n t (le_of_suc-le-suc w.2) ((wins_iff G L w.0 t).0 w.1).0),
    λ e. let s = sure_at _ _ e in
        (s.0, λ t m. let l = has_lowest (λ k. win G k t) n (s.1 t m) in (l.0, (wins_iff G L l.0 t).1 l.2, suc-le-suc l.1)),
  )

  -- a place that is first hoped for by n moves is winning, or pending with that number
  hoped_kind : (t : G.Place) → Inside G t → (n : ℕ) → Least (λ k. hoped G k t ≡ true) n
      → ((suc n ≡ 1) × Winning G t) ⊎ ((m : ℕ) × (suc n ≡ suc m) × Pending G t × HopesIn G t m)
  unfolding hope
  hoped_kind t i zero l = inl (refl, win_winning G L (size G) t l.0)
  hoped_kind t i (suc n) l =
      inr (
        suc n,
        refl,
        (λ w. let x : suc n ≤ 0 = l.1 0 ((winning_iff G L t i).0 w) in omega arith, hopes_possible G L (suc n) t l.0),
        (hopes_iff G L (suc n) t i).1 l,
      )

  -- where n + 1 moves are hoped for, the hopeful actions are those that may lead to where n are
  pub hopeful_iff : (p : G.Place) → Inside G p → (n : ℕ) → Least (λ k. hoped G k p ≡ true) (suc n) → (a : ℕ)
      → Hopeful G p (suc n) a ↔ (some (hoped G n) (G.leads p a) ≡ true)
  unfolding hope
  hopeful_iff p i n l a = (λ h. some_true _ _ h.0 h.1 (there h (L.closed p h.0 a i h.1) h.2), back)
    where
      there : (h : Hopeful G p (suc n) a) → Inside G h.0
          → ((suc n ≡ 1) × Winning G h.0) ⊎ ((m : ℕ) × (suc n ≡ suc m) × Pending G h.0 × HopesIn G h.0 m) → hoped G n h.0 ≡ true
      there h j (inl w) = hope_mono G (won G) 0 n h.0 zero-le ((winning_iff G L h.0 j).0 w.1)
      there h j (inr k) = let e : k.0 ≡ n = (let q = k.1 in omega arith) in rw e at ((hopes_iff G L k.0 h.0 j).0 k.3).0

      back : some (hoped G n) (G.leads p a) ≡ true → Hopeful G p (suc n) a
      back e =
          let t = some_found _ _ e in
          (t.0, t.1, hoped_kind t.0 (L.closed p t.0 a i t.1) n (hope_down G (won G) L n p t.0 a l t.1 t.2))

  -- ---- there is an entry

  -- where the goal is first forced within n + 1 moves
  pub right_wins : (p : G.Place) (n : ℕ) → Least (λ k. win G k p ≡ true) (suc n)
      → Right G p (says 2 (lowest (λ a. sure (win G n) (G.leads p a)) G.actions) (suc n))
  right_wins p n l =
      let j = win_into G L n p l in
      let o = j.1 in
      let u : Unmet G p = if_not_true _ (λ y. clash (win_accepted G n p y) (not_yet (λ k. win G k p) n l)) in
      let a = lowest_found (λ a. sure (win G n) (G.leads p a)) G.actions
      (some_stops _ _ j.0 (L.counted p o.0 j.0 o.1) (sure_true _ _ o j.2)) in
      wins u ((wins_iff G L (suc n) p).1 l) (least_map (λ a. ((sure_iff p n a).1, (sure_iff p n a).0)) a.1)

  -- where it is first hoped for by n + 1 moves
  pub pending_at : (p : G.Place) → Inside G p → (n : ℕ) → Least (λ k. hoped G k p ≡ true) (suc n) → Pending G p
  unfolding hope
  pending_at p i n l = (
    λ w. clash (hope_mono G (won G) 0 n p zero-le ((winning_iff G L p i).0 w)) (not_yet (λ k. hoped G k p) n l),
    hopes_possible G L (suc n) p l.0,
  )

  pub right_hopes : (p : G.Place) → Inside G p → (n : ℕ) → Least (λ k. hoped G k p ≡ true) (suc n)
      → Right G p (says 1 (lowest (λ a. some (hoped G n) (G.leads p a)) G.actions) (suc n))
  right_hopes p i n l =
      let j = hope_into G (won G) n p l in
      let a = lowest_found (λ a. some (hoped G n) (G.leads p a)) G.actions
      (some_stops _ _ j.0 (L.counted p j.1 j.0 j.2) (some_true _ _ j.1 j.2 j.3)) in
      hopes (pending_at p i n l) ((hopes_iff G L (suc n) p i).1 l)
      (least_map (λ a. ((hopeful_iff p i n l a).1, (hopeful_iff p i n l a).0)) a.1)

  -- where it is never hoped for
  pub right_loses : (p : G.Place) → Inside G p → hoped G (size G) p ≡ false → Right G p (says 0 255 0)
  unfolding hope
  right_loses p i h =
      lost (
        λ v. clash (hope_mono G (won G) 0 (size G) p zero-le ((winning_iff G L p i).0 v)) h,
        λ q. clash ((possible_iff G L p i).0 q) h,
      )

  pub by_rounds_right : (p : G.Place) → Inside G p → Right G p (by_rounds G p)
  unfolding by_rounds win hope
  by_rounds_right p i = go (G.accepted p) refl (won G p) refl (hoped G (size G) p) refl
    where
      go : (b : Bool) → G.accepted p ≡ b → (c : Bool) → won G p ≡ c → (d : Bool) → hoped G (size G) p ≡ d → Right G p (by_rounds G p)
      go true y c w d h = rw (y, by_rounds) (met y)
      go false u true w d h =
          rw (u, w, by_rounds) (winning (lowest (λ k. win G k p) (suc (size G))) (lowest_passes (λ k. win G k p) (size G) w))
        where
          winning : (n : ℕ) → Least (λ k. win G k p ≡ true) n
              → Right G p (says 2 (lowest (λ a. sure (win G (pred n)) (G.leads p a)) G.actions) n)
          winning zero l = absurd (clash l.0 u)
          winning (suc n) l = right_wins p n l
      go false u false w true h =
          rw (u, w, h, by_rounds) (pending (lowest (λ k. hoped G k p) (suc (size G))) (lowest_passes (λ k. hoped G k p) (size G) h))
        where
          pending : (n : ℕ) → Least (λ k. hoped G k p ≡ true) n
              → Right G p (says 1 (lowest (λ a. some (hoped G (pred n)) (G.leads p a)) G.actions) n)
          pending zero l = absurd (clash l.0 w)
          pending (suc n) l = right_hopes p i n l
      go false u false w false h = rw (u, w, h, by_rounds) (right_loses p i h)

  pub right_exists : (p : G.Place) → Inside G p → (e : Entry) × Right G p e
  right_exists p i = (by_rounds G p, by_rounds_right p i)

  -- ---- and no second one

  same_entry : (Q : ℕ → ℕ → Type 0) (v : ℕ) {n n' a a' : ℕ} → n ≡ n' → Least (Q n) a → Least (Q n') a'
      → ◌≡◌ {A = Entry} (says v a n) (says v a' n')
  same_entry Q v {a} e l k = let q = least_unique (subst (λ m. Least (Q m) a) e l) k in λ i. says v (q i) (e i)

  pub right_unique : {p : G.Place} {e e' : Entry} → Right G p e → Right G p e' → e ≡ e'
  right_unique (lost l) (lost k) = refl
  right_unique (lost l) (met y) = absurd (l.0 (accepted_winning G L _ y))
  right_unique (lost l) (wins u w s) = absurd (l.0 (wins_winning G L _ _ w))
  right_unique (lost l) (hopes h n s) = absurd (l.1 h.1)
  right_unique (met y) (lost l) = absurd (l.0 (accepted_winning G L _ y))
  right_unique (met y) (met z) = refl
  right_unique (met y) (wins u w s) = absurd (clash y u)
  right_unique (met y) (hopes h n s) = absurd (h.0 (accepted_winning G L _ y))
  right_unique (wins u w s) (lost l) = absurd (l.0 (wins_winning G L _ _ w))
  right_unique (wins u w s) (met y) = absurd (clash y u)
  right_unique (wins u w s) (wins v x t) = same_entry (Sure G _) 2 (least_unique w x) s t
  right_unique (wins u w s) (hopes h n t) = absurd (h.0 (wins_winning G L _ _ w))
  right_unique (hopes h n s) (lost l) = absurd (l.1 h.1)
  right_unique (hopes h n s) (met y) = absurd (h.0 (accepted_winning G L _ y))
  right_unique (hopes h n s) (wins u w t) = absurd (h.0 (wins_winning G L _ _ w))
  right_unique (hopes h n s) (hopes k m t) = same_entry (Hopeful G _) 1 (least_unique n m) s t

  -- Inside, a plan may say of a place what the rounds give, and nothing else.
  pub right_iff : (p : G.Place) → Inside G p → (e : Entry) → Right G p e ↔ (e ≡ by_rounds G p)
  right_iff p i e = (λ r. right_unique r (by_rounds_right p i), λ q. subst (Right G p) (sym q) (by_rounds_right p i))
