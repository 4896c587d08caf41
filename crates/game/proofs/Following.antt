-- To follow a plan: it meets the goal in the number of moves that it names, where it can be forced, and may come nearer in that number,
-- where it can be hoped for.
use Prim.Native.Nat.{ℕ, zero, suc, ◌+◌, ◌≤◌, ◌<◌, zero-le}
use mathlib.Core.Bool.{true, false, cond}
use mathlib.Core.List.Memᴰ
use mathlib.Core.List.{List, [], ◌∷◌, Memᴰ}
use mathlib.Core.Logic.{◌⊎◌, inl, inr}
use mathlib.Core.Path.{◌≡◌, refl, ◌∙◌, subst}
use native.Mathlib.Nat.{le_of_suc-le-suc}
use native.Mathlib.Omega.{arith}
use borrow.Author.Tests.{eq-eqb, ne_eqb}
use lib.Dec.{eqb}
use Rattle.game.proofs.Lists.{some_found, sure_at}
use Rattle.game.proofs.Search.{clash, if_not_true, if_not_false, least_unique, not_yet}
use Rattle.game.specs.declared.entry.Entry.{Entry}
use Rattle.game.specs.Game.{Arena, Play, then, last, made, Choice, stop, act, Inside, Listed, Open, Accepted, Unmet, Lawful, Way}
use Rattle.game.specs.Game.{advance, run, Obeys, Follows, Winning, Pending, Losing, WinsIn, HopesIn, Sure, Hopeful, Least}
use Rattle.game.specs.Game as game
use Rattle.game.specs.Allowed.{Allowed, lost, met, wins, hopes}
use Rattle.game.proofs.Rounds.{size, won, hoped, win, win_accepted}
use Rattle.game.proofs.Plays.{Next, over, on, next, fair_on, first, obeys_first, some_obeys, met_later}
use Rattle.game.proofs.Values.{delays, guided_meets, wins_iff, win_winning, winning_iff, accepted_winning}
use Rattle.game.proofs.Hopes.{run_inside, reach_hope, guided_comes, hopes_iff, wins_winning}
use Rattle.game.proofs.Right.{sure_iff, hopeful_iff, pending_at}

-- ---- a way that follows entries

-- the action a where it leads somewhere, and no action where it leads nowhere
abbrev pub heed : {P : Type 0} → ℕ → List P → Choice
heed a [] = stop
heed a (t ∷ ts) = act a

pub heed_open : {P : Type 0} (f : ℕ → List P) (a b : ℕ) → heed a (f a) ≡ act b → (t : P) × Memᴰ t (f b)
heed_open {P} f a b e = let s = go (f a) e in let q = s.0 in rw q at s.1
  where
    go : (ts : List P) → heed a ts ≡ act b → (a ≡ b) × ((t : P) × Memᴰ t ts)
    go [] q = let z : ◌≡◌ {A = ℕ} 0 1 = cc in absurd (omega arith)
    go (t ∷ ts) q = (cc, (t, Memᴰ.head refl))

heed_act : {P : Type 0} (a : ℕ) (ts : List P) → (t : P) × Memᴰ t ts → heed a ts ≡ act a
heed_act a [] o = absurd (Memᴰ.not-nil o.1)
heed_act a (t ∷ ts) o = refl

heed_stop : {P : Type 0} (a : ℕ) (ts : List P) → ((t : P) → Memᴰ t ts → ⊥) → heed a ts ≡ stop
heed_stop a [] n = refl
heed_stop a (t ∷ ts) n = absurd (n t (Memᴰ.head refl))

unfoldable pub follow : (G : Arena) → (G.Place → Entry) → Way G
follow G e =
    record {
      choose = λ h. heed (e (last h)).action (G.leads (last h) (e (last h)).action);
      legal = λ h b q. heed_open (G.leads (last h)) (e (last h)).action b q;
    }

-- ---- who follows entries goes on to follow them, along every play that comes about

module _ (G : Arena) (e : G.Place → Entry) (σ : Way G) where
  pub follows_then : (k : Play G.Place) {a : ℕ} {t : G.Place} → Follows G e σ k → Unmet G (last k) → σ.choose k ≡ act a
      → Listed G (last k) a t → Follows G e σ (then k a t)
  follows_then k {a} {t} f u d m = subst (Follows G e σ) s (λ o b n. f (first G σ t o) (obeys_first G σ k t o (fair_on G σ d m) b) (suc n))
    where
      s : advance G σ k t ≡ then k a t
      s = rw (u, d)

  pub follows_on : (n : ℕ) (h : Play G.Place) (o : ℕ → G.Place) → Obeys G σ o h → Follows G e σ h → Follows G e σ (run G σ o h n)
  follows_on zero h o b f = f
  follows_on (suc n) h o b f = follows_on n (advance G σ h (o zero)) (λ i. o (suc i)) (λ i a. b (suc i) a) (go (next G σ h))
    where
      go : Next G σ h → Follows G e σ (advance G σ h (o zero))
      go (over s c) = rw (s (o zero)) f
      go (on a u c s) = rw (s (o zero)) (follows_then h f u c (b zero a u c))

-- ---- what is right is allowed

pub right_allowed : (G : Arena) {p : G.Place} {x : Entry} → game.Right G p x → Allowed G p x
right_allowed G (game.lost l) = lost l
right_allowed G (game.met y) = met y
right_allowed G (game.wins u w s) = wins u w s.0
right_allowed G (game.hopes h k s) = hopes h k s.0

-- ---- what an entry says, read back

module _ (G : Arena) (L : Lawful G) (p : G.Place) where
  pub says_wins : {x : Entry} → Allowed G p x → x.value ≡ 2 → WinsIn G p x.number
  says_wins (lost l) q = absurd (omega arith)
  says_wins (met y) q = (wins_iff G L 0 p).1 (win_accepted G 0 p y, λ m r. zero-le)
  says_wins (wins u w s) q = w
  says_wins (hopes h k s) q = absurd (omega arith)

  pub says_hopes : {x : Entry} → Allowed G p x → x.value ≡ 1 → Pending G p × HopesIn G p x.number
  says_hopes (lost l) q = absurd (omega arith)
  says_hopes (met y) q = absurd (omega arith)
  says_hopes (wins u w s) q = absurd (omega arith)
  says_hopes (hopes h k s) q = (h, k)

  pub wins_says : {x : Entry} (n : ℕ) → Allowed G p x → WinsIn G p (suc n) → (x.value ≡ 2) × Sure G p (suc n) x.action
  wins_says n (lost l) w = absurd (l.0 (wins_winning G L _ p w))
  wins_says n (met y) w = let z : suc n ≤ 0 = ((wins_iff G L (suc n) p).0 w).1 0 (win_accepted G 0 p y) in absurd (omega arith)
  wins_says n (wins {a} u v s) w = (refl, subst (λ m. Sure G p m a) (least_unique v w) s)
  wins_says n (hopes h k s) w = absurd (h.0 (wins_winning G L _ p w))

  pub hopes_says : {x : Entry} (n : ℕ) → Allowed G p x → Pending G p → HopesIn G p n → (x.value ≡ 1) × Hopeful G p n x.action
  hopes_says n (lost l) h k = absurd (l.1 h.1)
  hopes_says n (met y) h k = absurd (h.0 (accepted_winning G L p y))
  hopes_says n (wins u v s) h k = absurd (h.0 (wins_winning G L _ p v))
  hopes_says n (hopes {a} g j s) h k = (refl, subst (λ m. Hopeful G p m a) (least_unique j k) s)

  pub losing_says : {x : Entry} → Allowed G p x → Losing G p → x.value ≡ 0
  losing_says (lost l) k = refl
  losing_says (met y) k = absurd (k.0 (accepted_winning G L p y))
  losing_says (wins u w s) k = absurd (k.0 (wins_winning G L _ p w))
  losing_says (hopes h n s) k = absurd (k.1 h.1)

-- ---- what comes of following it

module _ (G : Arena) (L : Lawful G) (few : G.actions ≤ 255) where
  -- an open action is not 255
  pub open_named : {p : G.Place} {a : ℕ} → Open G p a → eqb a 255 ≡ false
  open_named {p} {a} o = let c = L.counted p o.0 a o.1 in ne_eqb a 255 (λ (q : a ≡ 255). omega arith)

  -- an entry names an open action, or none
  pub allowed_named : {p : G.Place} {x : Entry} → Allowed G p x → Open G p x.action ⊎ (x.action ≡ 255)
  allowed_named (lost l) = inr refl
  allowed_named (met y) = inr refl
  allowed_named (wins u w s) = inl s.0
  allowed_named (hopes h k s) = inl (s.0, s.1)

  -- entries that name open actions, or none, can be followed, from every place inside
  pub follow_named : (e : G.Place → Entry) → ((p : G.Place) → Inside G p → Open G p (e p).action ⊎ ((e p).action ≡ 255))
      → (h : Play G.Place) → Inside G (last h) → Follows G e (follow G e) h
  unfolding follow
  follow_named e named h i o b n u = go (last (run G (follow G e) o h n)) (run_inside G L (follow G e) n h o i b)
    where
      Does : G.Place → Type 0
      Does p = heed (e p).action (G.leads p (e p).action) ≡ cond (eqb (e p).action 255) stop (act (e p).action)

      go : (p : G.Place) → Inside G p → Does p
      go p j = by (named p j)
        where
          by : Open G p (e p).action ⊎ ((e p).action ≡ 255) → Does p
          by (inl o) = rw (open_named o) (heed_act _ _ o)
          by (inr q) =
              rw (eq-eqb (e p).action 255 q)
              (heed_stop _ _ (λ t m. let c = L.counted p t (e p).action m in omega arith))

  module _ (e : G.Place → Entry) (allowed : (p : G.Place) → Inside G p → Allowed G p (e p)) where
    -- so allowed entries can
    pub follow_follows : (h : Play G.Place) → Inside G (last h) → Follows G e (follow G e) h
    follow_follows = follow_named e (λ p j. allowed_named (allowed p j))

    module _ (σ : Way G) where
      -- who follows from k on does as the entry of its last place says
      acts : (k : Play G.Place) → Follows G e σ k → Unmet G (last k) → Open G (last k) (e (last k)).action
          → σ.choose k ≡ act (e (last k)).action
      acts k f u o = let (s, b) = some_obeys G σ k in f s b 0 u ∙ rw (open_named o)

      abbrev Stands : Play G.Place → Type 0
      Stands k = Follows G e σ k × Inside G (last k)

      -- where the goal is forced: each outcome of the action taken is nearer
      plan_nearer : (k : Play G.Place) (n : ℕ) → Stands k → Least (λ m. win G m (last k) ≡ true) (suc n)
          → (a : ℕ) × (σ.choose k ≡ act a) × ((t : G.Place) → Listed G (last k) a t → Stands (then k a t) × (win G n t ≡ true))
      plan_nearer k n (f, j) l =
          let s = wins_says G L (last k) n (allowed (last k) j) ((wins_iff G L (suc n) (last k)).1 l) in
          let a = (e (last k)).action in
          let u : Unmet G (last k) = if_not_true _ (λ y. let x : suc n ≤ 0 = l.1 0 (win_accepted G 0 (last k) y) in omega arith) in
          let d : σ.choose k ≡ act a = acts k f u s.1.0 in (
            a,
            d,
            λ t m. ((follows_then G e σ k f u d m, L.closed (last k) t a j m), (sure_at _ _ ((sure_iff G L (last k) n a).0 s.1)).1 t m),
          )

      -- where it is hoped for: some outcome of the action taken is nearer
      pub plan_toward : (k : Play G.Place) (n : ℕ) → Stands k → Least (λ m. hoped G m (last k) ≡ true) (suc n)
          → (a : ℕ) × (t : G.Place) × (σ.choose k ≡ act a) × Listed G (last k) a t × Stands (then k a t) × (hoped G n t ≡ true)
      plan_toward k n (f, j) l =
          let p = pending_at G L (last k) j n l in
          let s = hopes_says G L (last k) (suc n) (allowed (last k) j) p ((hopes_iff G L (suc n) (last k) j).1 l) in
          let a = (e (last k)).action in
          let t = some_found _ _ ((hopeful_iff G L (last k) j n l a).0 s.1) in
          let u : Unmet G (last k) = if_not_true _ (λ y. absurd (p.0 (accepted_winning G L (last k) y))) in
          let d : σ.choose k ≡ act a = acts k f u (t.0, t.1) in
          (a, t.0, d, t.1, (follows_then G e σ k f u d t.1, L.closed (last k) t.0 a j t.1), t.2)

    module _ (σ : Way G) (h : Play G.Place) (follows : Follows G e σ h) (i : Inside G (last h)) where
      -- It meets the goal within the number of moves named, whatever the outcomes.
      pub plan_forces : (e (last h)).value ≡ 2 → (o : ℕ → G.Place) → Obeys G σ o h → Accepted G (last (run G σ o h (e (last h)).number))
      plan_forces q =
          guided_meets G L σ (Stands σ) (plan_nearer σ) (e (last h)).number h (follows, i)
          ((wins_iff G L _ (last h)).0 (says_wins G L (last h) (allowed (last h) i) q)).0

      -- From a pending place it comes, with some outcomes, to a winning one by exactly the number of moves named.
      pub plan_hopes : (e (last h)).value ≡ 1
          → (o : ℕ → G.Place) × Obeys G σ o h × Winning G (last (run G σ o h (e (last h)).number))
          × (made (run G σ o h (e (last h)).number) ≡ made h + (e (last h)).number)
      plan_hopes q =
          let c = guided_comes G L (won G) (win_accepted G (size G)) σ (Stands σ) (plan_toward σ) (e (last h)).number h (follows, i)
          ((hopes_iff G L _ (last h) i).0 (says_hopes G L (last h) (allowed (last h) i) q).1) in
          (c.0, c.1, win_winning G L (size G) _ c.2, c.3)

-- ---- what no way of choosing can do, after any play

module _ (G : Arena) (L : Lawful G) (τ : Way G) (h : Play G.Place) where
  -- some outcomes need all of the number of a winning place,
  pub tight : (n : ℕ) → WinsIn G (last h) n
      → (o : ℕ → G.Place) × Obeys G τ o h × ((m : ℕ) → m < n → Unmet G (last (run G τ o h m)))
  tight zero w = let o = some_obeys G τ h in (o.0, o.1, λ m l. absurd (omega arith))
  tight (suc n) w =
      let d = delays G L τ n h (not_yet (λ k. win G k (last h)) n ((wins_iff G L (suc n) (last h)).0 w)) in
      (d.0, d.1, λ m l. if_not_true _ (λ y. clash (met_later G τ d.0 h m n (le_of_suc-le-suc l) y) d.2))

  -- so that none guarantees fewer,
  pub least_forced : {n : ℕ} → WinsIn G (last h) n → (m : ℕ) → ((o : ℕ → G.Place) → Obeys G τ o h → Accepted G (last (run G τ o h m)))
      → n ≤ m
  least_forced w m f =
      ((wins_iff G L _ (last h)).0 w).1 m
      (if_not_false (win G m (last h)) (λ x. let d = delays G L τ m h x in clash (f d.0 d.1) d.2))

  -- and fewer moves than the number of a pending place reach no winning one.
  pub least_hoped : {n : ℕ} → Inside G (last h) → HopesIn G (last h) n → (o : ℕ → G.Place) (m : ℕ) → Obeys G τ o h
      → Winning G (last (run G τ o h m)) → n ≤ m
  least_hoped i w o m b v =
      ((hopes_iff G L _ (last h) i).0 w).1 m
      (reach_hope G L (won G) τ m h o b ((winning_iff G L _ (run_inside G L τ m h o i b)).0 v))
