-- From where the goal can be hoped for, and within how many moves; the three values of a place.
use Prim.Native.Nat.{ℕ, zero, suc, pred, ◌+◌, ◌≤◌, zero-le}
use mathlib.Core.Bool.{Bool, true, false}
use mathlib.Core.Logic.{◌⊎◌, inl, inr, ⊎_elim, ◌↔◌}
use mathlib.Core.Path.{◌≡◌, ap}
use native.Mathlib.Nat.{le_trans}
use native.Mathlib.Omega.{arith}
use Rattle.game.proofs.Lists.{some, some_found, some_true}
use Rattle.game.proofs.Search.{either, clash, if_not_true, least_unique, lowest, lowest_is, has_lowest}
use Rattle.game.specs.Game.{Arena, Play, begin, then, last, made, act, Inside, Listed, Open, Accepted, Unmet, Lawful, Way, advance}
use Rattle.game.specs.Game.{run, Obeys, Winning, Reaches, Possible, Pending, Losing, WinsIn, HopesIn, Least}
use Rattle.game.proofs.Rounds.{size, won, hoped, win, hope, win_accepted, win_step, hope_up, hope_mono, hope_step, hope_into}
use Rattle.game.proofs.Rounds.{into_hope, hope_down, hope_settled}
use Rattle.game.proofs.Plays.{Next, over, on, next, fair_on, first, obeys_first, some_obeys}
use Rattle.game.proofs.Values.{seek, seek_finds, wins_iff, winning_iff, winning_dec, win_winning}

module _ (G : Arena) (L : Lawful G) where
  -- a play stays inside
  pub run_inside : (σ : Way G) (n : ℕ) (h : Play G.Place) (o : ℕ → G.Place) → Inside G (last h) → Obeys G σ o h
      → Inside G (last (run G σ o h n))
  run_inside σ zero h o m b = m
  run_inside σ (suc n) h o m b = run_inside σ n (advance G σ h (o zero)) (λ i. o (suc i)) (go (next G σ h)) (λ i a. b (suc i) a)
    where
      go : Next G σ h → Inside G (last (advance G σ h (o zero)))
      go (over s c) = rw (s (o zero)) m
      go (on a u c s) = rw (s (o zero)) (L.closed (last h) (o zero) a m (b zero a u c))

  module _ (S : G.Place → Bool) where
    -- what a play comes to in n moves is in reach within n
    pub reach_hope : (σ : Way G) (n : ℕ) (h : Play G.Place) (o : ℕ → G.Place) → Obeys G σ o h → S (last (run G σ o h n)) ≡ true
        → hope G S n (last h) ≡ true
    unfolding hope
    reach_hope σ zero h o b e = e
    reach_hope σ (suc n) h o b e = go (next G σ h) (reach_hope σ n (advance G σ h (o zero)) (λ i. o (suc i)) (λ i a. b (suc i) a) e)
      where
        go : Next G σ h → hope G S n (last (advance G σ h (o zero))) ≡ true → hope G S (suc n) (last h) ≡ true
        go (over s c) r = hope_up G S n (last h) (rw (s (o zero)) at r)
        go (on a u c s) r = into_hope G S L n (last h) (o zero) a (b zero a u c) (rw (s (o zero)) at r)

    -- S has the places where plays end
    module _ (wide : (p : G.Place) → Accepted G p → S p ≡ true) where
      -- A way that names, where n + 1 moves are needed, an action after which n may do, may come to S in time. (D: the plays that it has
      -- to do with)
      module _ (σ : Way G) (D : Play G.Place → Type 0)
          (guide : (h : Play G.Place) (n : ℕ) → D h → Least (λ k. hope G S k (last h) ≡ true) (suc n)
          → (a : ℕ) × (t : G.Place) × (σ.choose h ≡ act a) × Listed G (last h) a t × D (then h a t) × (hope G S n t ≡ true)) where
        pub guided_comes : (n : ℕ) (h : Play G.Place) → D h → Least (λ k. hope G S k (last h) ≡ true) n
            → (o : ℕ → G.Place) × Obeys G σ o h × (S (last (run G σ o h n)) ≡ true) × (made (run G σ o h n) ≡ made h + n)
        unfolding hope
        guided_comes zero h d l = let o = some_obeys G σ h in (o.0, o.1, l.0, omega arith)
        guided_comes (suc n) h d l =
            let g = guide h n d l in
            let t = g.1 in
            let u : Unmet G (last h) = if_not_true _ (λ e. let x : suc n ≤ 0 = l.1 0 (wide (last h) e) in omega arith) in
            let s : advance G σ h t ≡ then h g.0 t = rw (u, g.2) in
            let o = guided_comes n (advance G σ h t) (rw s g.4) (rw s (hope_down G S L n (last h) t g.0 l g.3 g.5)) in
            let c : made (advance G σ h t) ≡ suc (made h) = rw s in
            let m = o.3 in
            (first G σ t o.0, obeys_first G σ h t o.0 (fair_on G σ g.2 g.3) o.1, o.2, omega arith)

      -- by a, p may get nearer, where p is of round n
      toward : ℕ → G.Place → ℕ → Bool
      toward n p a = some (hope G S (pred (lowest (λ k. hope G S k p) (suc n)))) (G.leads p a)

      toward_open : (n : ℕ) (p : G.Place) (a : ℕ) → toward n p a ≡ true → Open G p a
      unfolding toward
      toward_open n p a e = let s = some_found _ _ e in (s.0, s.1)

      pub hope_reaches : (n : ℕ) (p : G.Place) → Least (λ k. hope G S k p ≡ true) n → Reaches G (λ t. S t ≡ true) p n
      unfolding toward
      hope_reaches n p l =
          let c = guided_comes (seek G (toward n) (toward_open n)) (λ k. hope G S n (last k) ≡ true) guide n (begin p) l.0 l in
          (seek G (toward n) (toward_open n), c.0, c.1, c.2)
        where
          guide : (h : Play G.Place) (m : ℕ) → hope G S n (last h) ≡ true → Least (λ k. hope G S k (last h) ≡ true) (suc m)
              → (a : ℕ) × (t : G.Place) × ((seek G (toward n) (toward_open n)).choose h ≡ act a) × Listed G (last h) a t
              × (hope G S n t ≡ true) × (hope G S m t ≡ true)
          guide h m d k =
              let i = hope_into G S m (last h) k in
              let r : pred (lowest (λ k. hope G S k (last h)) (suc n)) ≡ m = ap pred (lowest_is (λ k. hope G S k (last h)) n (suc m) d k) in
              let f = seek_finds G (toward n) (toward_open n) L h i.0 (rw r (some_true _ _ i.1 i.2 i.3)) in
              let s = some_found (hope G S m) (G.leads (last h) f.0) (rw r at f.2) in
              (f.0, s.0, f.1, s.1, hope_mono G S m n s.0 (let x : suc m ≤ n = k.1 n d in omega arith) s.2, s.2)

  pub hope_wider : (S T : G.Place → Bool) → ((p : G.Place) → S p ≡ true → T p ≡ true) → (n : ℕ) (p : G.Place) → hope G S n p ≡ true
      → hope G T n p ≡ true
  unfolding hope
  hope_wider S T w zero p e = w p e
  hope_wider S T w (suc n) p e =
      ⊎_elim (λ y. hope_up G T n p (hope_wider S T w n p y))
      (λ i. into_hope G T L n p i.1 i.0 i.2 (hope_wider S T w n i.1 i.3)) (hope_step G S n p e)

  win_hope : (n : ℕ) (p : G.Place) → win G n p ≡ true → hope G G.accepted n p ≡ true
  unfolding win hope
  win_hope zero p e = e
  win_hope (suc n) p e =
      ⊎_elim (λ y. hope_mono G G.accepted zero (suc n) p zero-le y)
      (λ i. let o = i.1 in into_hope G G.accepted L n p o.0 i.0 o.1 (win_hope n o.0 (i.2 o.0 o.1)))
      (win_step G n p e)

  hopes_accepted : (n : ℕ) (p : G.Place) → hoped G n p ≡ true → (m : ℕ) × (hope G G.accepted m p ≡ true)
  unfolding hope
  hopes_accepted zero p e = (size G, win_hope (size G) p e)
  hopes_accepted (suc n) p e =
      ⊎_elim (λ y. hopes_accepted n p y)
      (λ i. let m = hopes_accepted n i.1 i.3 in (suc m.0, into_hope G G.accepted L m.0 p i.1 i.0 i.2 m.1))
      (hope_step G (won G) n p e)

  pub hopes_possible : (n : ℕ) (p : G.Place) → hoped G n p ≡ true → Possible G p
  hopes_possible n p e =
      let m = hopes_accepted n p e in
      let l = has_lowest (λ k. hope G G.accepted k p) m.0 m.1 in
      (l.0, hope_reaches G.accepted (λ q y. y) l.0 p l.2)

  -- The goal can be hoped for from the places of the last round of hope.
  pub possible_iff : (p : G.Place) → Inside G p → Possible G p ↔ (hoped G (size G) p ≡ true)
  possible_iff p m = (
    λ r. hope_settled G (won G) L r.0 p m
        (hope_wider G.accepted (won G) (λ q y. win_accepted G (size G) q y) r.0 p
        (reach_hope G.accepted r.1.0 r.0 (begin p) r.1.1 r.1.2 r.1.3)),
    hopes_possible (size G) p,
  )

  pub reaches_hopes : (n : ℕ) (p : G.Place) → Inside G p → Reaches G (Winning G) p n → hoped G n p ≡ true
  reaches_hopes n p m r =
      reach_hope (won G) r.0 n (begin p) r.1 r.2 ((winning_iff G L _ (run_inside r.0 n (begin p) r.1 m r.2)).0 r.3)

  pub hopes_reaches : (n : ℕ) (p : G.Place) → Least (λ k. hoped G k p ≡ true) n → Reaches G (Winning G) p n
  hopes_reaches n p l =
      let r = hope_reaches (won G) (λ q y. win_accepted G (size G) q y) n p l in
      (r.0, r.1, r.2, win_winning G L (size G) _ r.3)

  -- The number of a place that can be hoped for is the round of hope that it comes in with.
  pub hopes_iff : (n : ℕ) (p : G.Place) → Inside G p → HopesIn G p n ↔ Least (λ k. hoped G k p ≡ true) n
  hopes_iff n p m = (
    λ h. (
      reaches_hopes n p m h.0,
      λ k q. let l = has_lowest (λ i. hoped G i p) k q in
          le_trans (h.1 l.0 (hopes_reaches l.0 p l.2)) l.1,
    ),
    λ l. (hopes_reaches n p l, λ k r. l.1 k (reaches_hopes k p m r)),
  )

  -- ---- the three values

  pub value_of : (p : G.Place) → Inside G p → Winning G p ⊎ (Pending G p ⊎ Losing G p)
  value_of p m = go (winning_dec G L p m) (either (hoped G (size G) p))
    where
      go : Dec (Winning G p) → (hoped G (size G) p ≡ true) ⊎ (hoped G (size G) p ≡ false) → Winning G p ⊎ (Pending G p ⊎ Losing G p)
      go (yes w) h = inl w
      go (no w) (inl e) = inr (inl (w, hopes_possible (size G) p e))
      go (no w) (inr e) = inr (inr (w, λ q. clash ((possible_iff p m).0 q) e))

  pub wins_winning : (n : ℕ) (p : G.Place) → WinsIn G p n → Winning G p
  wins_winning n p w = win_winning G L n p ((wins_iff G L n p).0 w).0

  -- each winning place has its number, and each pending one (one only: `least_unique`)
  pub winning_number : (p : G.Place) → Inside G p → Winning G p → (n : ℕ) × WinsIn G p n
  winning_number p m w = let l = has_lowest (λ k. win G k p) (size G) ((winning_iff G L p m).0 w) in (l.0, (wins_iff G L l.0 p).1 l.2)

  pub pending_number : (p : G.Place) → Inside G p → Pending G p → (n : ℕ) × HopesIn G p n
  pending_number p m h =
      let l = has_lowest (λ k. hoped G k p) (size G) ((possible_iff p m).0 h.1) in (l.0, (hopes_iff l.0 p m).1 l.2)

module _ (G : Arena) where
  -- no place has two of the values
  pub winning_alone : (p : G.Place) → Winning G p → (Pending G p → ⊥) × (Losing G p → ⊥)
  winning_alone p w = (λ h. h.0 w, λ l. l.0 w)

  pub pending_alone : (p : G.Place) → Pending G p → (Winning G p → ⊥) × (Losing G p → ⊥)
  pending_alone p h = (h.0, λ l. l.1 h.1)

  pub number_of_winning : (p : G.Place) (m n : ℕ) → WinsIn G p m → WinsIn G p n → m ≡ n
  number_of_winning p m n v w = least_unique v w

  pub number_of_pending : (p : G.Place) (m n : ℕ) → HopesIn G p m → HopesIn G p n → m ≡ n
  number_of_pending p m n v w = least_unique v w
