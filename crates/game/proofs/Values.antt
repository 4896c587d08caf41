-- What the rounds decide: where the goal can be forced, and within how many moves.
use Prim.Native.Nat.{ℕ, zero, suc, pred, ◌≤◌}
use mathlib.Core.Bool.{Bool, true, false}
use mathlib.Core.Logic.{◌⊎◌, inl, inr, ⊎_elim, ◌↔◌}
use mathlib.Core.Path.{◌≡◌, refl, ap}
use native.Mathlib.Nat.{le_of_suc-le-suc}
use native.Mathlib.Omega.{arith}
use Rattle.game.specs.Below.{some_below}
use Rattle.game.proofs.Lists.{sure, sure_at, sure_true, sure_fails}
use Rattle.game.proofs.Search.{either, clash, if_not_false, if_not_true, least_map, lowest, lowest_is, has_lowest}
use Rattle.game.proofs.Tests.{some_stops, lowest_found}
use Rattle.game.specs.Game.{Arena, Play, begin, then, last, Choice, stop, act, Inside, Listed, Open, Accepted, Unmet, Lawful, Way}
use Rattle.game.specs.Game.{advance, run, Obeys, Forces, Winning, WinsIn, Least}
use Rattle.game.proofs.Rounds.{size, won, win, win_accepted, into_win, win_up, win_mono, win_into, win_settled}
use Rattle.game.proofs.Plays.{Next, over, on, next, Fair, fair_on, some_fair, first, obeys_first, kept, kept_obeys, kept_keeps}
use Rattle.game.proofs.Plays.{some_obeys, run_over, met_stays}

-- ---- ways that go by a test of the last place

abbrev pick : Bool → ℕ → Choice
pick true a = act a
pick false a = stop

module _ (G : Arena) (test : G.Place → ℕ → Bool) (fits : (p : G.Place) (a : ℕ) → test p a ≡ true → Open G p a) where
  -- the lowest action that passes, where one does
  pub seek : Way G
  seek =
      record {
        choose = λ h. pick (some_below G.actions (test (last h))) (lowest (test (last h)) G.actions);
        legal = λ h a e. go h a (some_below G.actions (test (last h))) refl e;
      }
    where
      go : (h : Play G.Place) (a : ℕ) (b : Bool) → some_below G.actions (test (last h)) ≡ b
          → pick b (lowest (test (last h)) G.actions) ≡ act a
          → Open G (last h) a
      go h a true z e =
          let l = lowest_found (test (last h)) G.actions z in
          let q : lowest (test (last h)) G.actions ≡ a = cc in
          rw q at (fits (last h) _ l.1.0)
      go h a false z e = let n : ◌≡◌ {A = ℕ} 0 1 = cc in absurd (omega arith)

  pub seek_finds : Lawful G → (h : Play G.Place) (a : ℕ) → test (last h) a ≡ true → (b : ℕ) × (seek.choose h ≡ act b)
      × (test (last h) b ≡ true)
  unfolding seek
  seek_finds L h a e =
      let o = fits (last h) a e in
      let y = some_stops (test (last h)) G.actions a (L.counted (last h) o.0 a o.1) e in
      (lowest (test (last h)) G.actions, rw y, (lowest_found (test (last h)) G.actions y).1.0)

module _ (G : Arena) (L : Lawful G) where
  -- where p is not in round n, some outcomes keep the goal unmet for n moves
  pub delays : (σ : Way G) (n : ℕ) (h : Play G.Place) → win G n (last h) ≡ false
      → (o : ℕ → G.Place) × Obeys G σ o h × Unmet G (last (run G σ o h n))
  unfolding win
  delays σ zero h e = let o = some_obeys G σ h in (o.0, o.1, e)
  delays σ (suc n) h e = go (next G σ h) (λ k. delays σ n k)
    where
      Then : Play G.Place → Type 0
      Then k = win G n (last k) ≡ false → (o : ℕ → G.Place) × Obeys G σ o k × Unmet G (last (run G σ o k n))

      by : (t : G.Place) → Fair G σ h t → win G n (last (advance G σ h t)) ≡ false → ((k : Play G.Place) → Then k)
          → (o : ℕ → G.Place) × Obeys G σ o h × Unmet G (last (run G σ o h (suc n)))
      by t f z r = let o = r (advance G σ h t) z in (first G σ t o.0, obeys_first G σ h t o.0 f o.1, o.2)

      go : Next G σ h → ((k : Play G.Place) → Then k) → (o : ℕ → G.Place) × Obeys G σ o h × Unmet G (last (run G σ o h (suc n)))
      go (over s c) r =
          let t = some_fair G σ h in by t.0 t.1 (rw (s t.0) (if_not_true _ (λ y. clash (win_up G L n (last h) y) e))) r
      go (on a u c s) r =
          let o = σ.legal h a c in
          let z : sure (λ t. win G n t) (G.leads (last h) a) ≡ false =
          if_not_true _ (λ y. clash (into_win G L n (last h) (a, o, (sure_at _ _ y).1)) e) in
          let t = sure_fails _ _ o z in
          by t.0 (fair_on G σ c t.1) (rw (s t.0) t.2) r

  -- A way that names, where n + 1 moves are needed, an action after which n suffice, meets the goal in time. (D: the plays that it has to
  -- do with)
  module _ (σ : Way G) (D : Play G.Place → Type 0)
      (guide : (h : Play G.Place) (n : ℕ) → D h → Least (λ k. win G k (last h) ≡ true) (suc n)
      → (a : ℕ) × (σ.choose h ≡ act a) × ((t : G.Place) → Listed G (last h) a t → D (then h a t) × (win G n t ≡ true))) where
    pub guided_meets : (n : ℕ) (h : Play G.Place) → D h → win G n (last h) ≡ true → (o : ℕ → G.Place) → Obeys G σ o h
        → Accepted G (last (run G σ o h n))
    unfolding win
    guided_meets zero h d e o b = e
    guided_meets (suc n) h d e o b = go (either (G.accepted (last h))) (λ k x y. guided_meets n k x y (λ i. o (suc i)))
      where
        go : Accepted G (last h) ⊎ Unmet G (last h)
            → ((k : Play G.Place) → D k → win G n (last k) ≡ true → Obeys G σ (λ i. o (suc i)) k
            → Accepted G (last (run G σ (λ i. o (suc i)) k n)))
            → Accepted G (last (run G σ o h (suc n)))
        go (inl y) r = rw (run_over G σ o h (suc n) (met_stays G σ h y)) y
        go (inr u) r = at (has_lowest (λ k. win G k (last h)) (suc n) e)
          where
            at : (k : ℕ) × (k ≤ suc n) × Least (λ i. win G i (last h) ≡ true) k → Accepted G (last (run G σ o h (suc n)))
            at (zero, q, l) = absurd (clash l.0 u)
            at (suc m, q, l) =
                let g = guide h m d l in
                let t = g.2 (o zero) (b zero g.0 u g.1) in
                r (advance G σ h (o zero)) (rw (u, g.1) t.0) (rw (u, g.1) (win_mono G L m n (o zero) (le_of_suc-le-suc q) t.1))
                (λ i a. b (suc i) a)

  -- by a, p gets nearer for sure, where p is of round n
  nearer : ℕ → G.Place → ℕ → Bool
  nearer n p a = sure (win G (pred (lowest (λ k. win G k p) (suc n)))) (G.leads p a)

  nearer_open : (n : ℕ) (p : G.Place) (a : ℕ) → nearer n p a ≡ true → Open G p a
  unfolding nearer
  nearer_open n p a e = (sure_at _ _ e).0

  -- To take the lowest such action each time forces the goal.
  pub win_forces : (n : ℕ) (p : G.Place) → win G n p ≡ true → (σ : Way G) × Forces G σ p n
  unfolding nearer
  win_forces n p e = (
    seek G (nearer n) (nearer_open n),
    λ o b. guided_meets (seek G (nearer n) (nearer_open n)) (λ k. win G n (last k) ≡ true) guide n (begin p) e e o b,
  )
    where
      guide : (h : Play G.Place) (m : ℕ) → win G n (last h) ≡ true → Least (λ k. win G k (last h) ≡ true) (suc m)
          → (a : ℕ) × ((seek G (nearer n) (nearer_open n)).choose h ≡ act a)
          × ((t : G.Place) → Listed G (last h) a t → (win G n t ≡ true) × (win G m t ≡ true))
      guide h m d l =
          let i = win_into G L m (last h) l in
          let r : pred (lowest (λ k. win G k (last h)) (suc n)) ≡ m = ap pred (lowest_is (λ k. win G k (last h)) n (suc m) d l) in
          let f = seek_finds G (nearer n) (nearer_open n) L h i.0 (rw r (sure_true _ _ i.1 i.2)) in
          let s = sure_at (win G m) (G.leads (last h) f.0) (rw r at f.2) in
          (f.0, f.1, λ t k. (win_mono G L m n t (let h : suc m ≤ n = l.1 n d in omega arith) (s.1 t k), s.1 t k))

  -- Round n is where the goal can be forced within n moves.
  pub forces_iff : (n : ℕ) (p : G.Place) → ((σ : Way G) × Forces G σ p n) ↔ (win G n p ≡ true)
  forces_iff n p =
      (λ f. if_not_false (win G n p) (λ e. let d = delays f.0 n (begin p) e in clash (f.1 d.0 d.1) d.2), win_forces n p)

  -- the number of a winning place is the round that it comes in with
  pub wins_iff : (n : ℕ) (p : G.Place) → WinsIn G p n ↔ Least (λ k. win G k p ≡ true) n
  wins_iff n p = (least_map (λ k. forces_iff k p), least_map (λ k. ((forces_iff k p).1, (forces_iff k p).0)))

  -- From a place inside that no round has, some outcomes keep the goal unmet for ever.
  pub spoils : (σ : Way G) (p : G.Place) → Inside G p → won G p ≡ false
      → (o : ℕ → G.Place) × Obeys G σ o (begin p) × ((n : ℕ) → Unmet G (last (run G σ o (begin p) n)))
  spoils σ p m e =
      (kept G σ I keep (begin p) (m, e), kept_obeys G σ I keep (begin p) (m, e), λ n. unmet _ (kept_keeps G σ I keep (begin p) (m, e) n).1)
    where
      I : Play G.Place → Type 0
      I h = Inside G (last h) × (won G (last h) ≡ false)

      keep : (h : Play G.Place) → I h → (t : G.Place) × Fair G σ h t × I (advance G σ h t)
      keep h i = go (next G σ h)
        where
          go : Next G σ h → (t : G.Place) × Fair G σ h t × I (advance G σ h t)
          go (over s c) = let t = some_fair G σ h in (t.0, t.1, rw (s t.0) i)
          go (on a u c s) =
              let o = σ.legal h a c in
              let z : sure (won G) (G.leads (last h) a) ≡ false =
              if_not_true _ (λ y. clash (win_settled G L (suc (size G)) (last h) i.0 (into_win G L (size G) (last h) (
                a,
                o,
                (sure_at _ _ y).1,
              ))) i.1) in
              let t = sure_fails _ _ o z in
              (t.0, fair_on G σ c t.1, rw (s t.0) (L.closed (last h) t.0 a i.0 t.1, t.2))

      unmet : (q : G.Place) → won G q ≡ false → Unmet G q
      unmet q z = if_not_true _ (λ y. clash (win_accepted G (size G) q y) z)

  pub win_winning : (n : ℕ) (p : G.Place) → win G n p ≡ true → Winning G p
  win_winning n p e = let f = win_forces n p e in (f.0, λ o b. (n, f.1 o b))

  -- The winning places are those of the last round.
  pub winning_iff : (p : G.Place) → Inside G p → Winning G p ↔ (won G p ≡ true)
  winning_iff p m = (
    λ w. if_not_false (won G p) (λ e. let s = spoils w.0 p m e in let r = w.1 s.0 s.1 in clash r.1 (s.2 r.0)),
    win_winning (size G) p,
  )

  pub winning_dec : (p : G.Place) → Inside G p → Dec (Winning G p)
  winning_dec p m = ⊎_elim (λ e. yes (win_winning (size G) p e)) (λ e. no (λ w. clash ((winning_iff p m).0 w) e)) (either (won G p))

  pub accepted_winning : (p : G.Place) → Accepted G p → Winning G p
  accepted_winning p e = win_winning 0 p (win_accepted G 0 p e)
