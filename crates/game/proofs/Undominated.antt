-- Nothing does better than allowed entries, right ones among them: document 004's best effort, for whoever follows them.
-- Where another way first parts from them, at a pending place, there is a behaviour that from there on helps whoever took the entry's
-- action, and spoils whoever did not.
use Prim.Native.Nat.{ℕ, zero, suc, pred, ◌≤◌, ◌<◌}
use mathlib.Core.Bool.{Bool, true, false, cond, not}
use mathlib.Core.List.Memᴰ
use mathlib.Core.List.{List, [], ◌∷◌, Memᴰ}
use mathlib.Core.Logic.{◌⊎◌, inl, inr, ◌↔◌}
use mathlib.Core.Path.{◌≡◌, refl, sym, ◌∙◌, ap, subst}
use native.Mathlib.Decide.{ℕ_discrete}
use native.Mathlib.Omega.{arith}
use lib.Dec.{ltb, eqb}
use borrow.Author.Tests.{lt-ltb, le-ltb, eq-eqb, ne_eqb, not-true}
use Rattle.game.specs.Game.{Arena, Play, begin, then, last, made, Choice, stop, act, Inside, Listed, Open, Accepted, Unmet, Lawful}
use Rattle.game.specs.Game.{Way, advance, Follows, Winning, Possible, Pending, Losing, Least}
use Rattle.game.specs.Allowed.{Allowed}
use Rattle.game.specs.Behaviour.{Behaviour, reply, against, Meets, Dominates, StrictlyDominates, BestEffort, Better}
use Rattle.game.specs.declared.entry.Entry.{Entry}
use Rattle.game.proofs.Lists.{sure, sure_at, sure_fails}
use Rattle.game.proofs.Search.{either, clash, if_not_false, if_not_true, lowest, lowest_is, has_lowest}
use Rattle.game.proofs.Rounds.{size, won, hoped, hope, win_accepted, into_win, win_settled, hope_down, hope_settled}
use Rattle.game.proofs.Plays.{Next, over, on, next}
use Rattle.game.proofs.Values.{winning_iff, win_winning}
use Rattle.game.proofs.Hopes.{hope_wider, reach_hope, hopes_possible, possible_iff, value_of}
use Rattle.game.proofs.Right.{by_rounds, by_rounds_right}
use Rattle.game.proofs.Following.{follow, right_allowed, follow_follows, follows_then, plan_toward, plan_forces}
use Rattle.game.proofs.Demands.{value_told}
use Rattle.game.proofs.Facing.{outcomes, outcomes_obey, against_run, against_on, against_next, meets_on, meets_early, meets_late}

-- ---- to pick from a list

-- the first that passes; else the last, or d where there is none
unfoldable pub lead : {P : Type 0} → (P → Bool) → P → List P → P
lead f d [] = d
lead f d (t ∷ ts) = cond (f t) t (lead f t ts)

module _ {P : Type 0} (f : P → Bool) where
  lead_among : (t : P) (ts : List P) → Memᴰ (lead f t ts) (t ∷ ts)
  unfolding lead
  lead_among t [] = Memᴰ.head refl
  lead_among t (u ∷ us) = go (f u) (lead_among u us)
    where
      go : (c : Bool) → Memᴰ (lead f u us) (u ∷ us) → Memᴰ (cond c u (lead f u us)) (t ∷ (u ∷ us))
      go true m = Memᴰ.tail (Memᴰ.head refl)
      go false m = Memᴰ.tail m

  lead_in : (d : P) (ts : List P) → (t : P) × Memᴰ t ts → Memᴰ (lead f d ts) ts
  unfolding lead
  lead_in d [] o = absurd (Memᴰ.not-nil o.1)
  lead_in d (t ∷ ts) o = go (f t)
    where
      go : (c : Bool) → Memᴰ (cond c t (lead f t ts)) (t ∷ ts)
      go true = Memᴰ.head refl
      go false = lead_among t ts

  lead_passes : (d : P) (ts : List P) (t : P) → Memᴰ t ts → f t ≡ true → f (lead f d ts) ≡ true
  unfolding lead
  lead_passes d [] t m e = absurd (Memᴰ.not-nil m)
  lead_passes d (u ∷ us) t m e = go (f u) refl (Memᴰ.cases_cons m) (λ k. lead_passes u us t k e)
    where
      go : (c : Bool) → f u ≡ c → (t ≡ u) ⊎ Memᴰ t us → (Memᴰ t us → f (lead f u us) ≡ true) → f (lead f d (u ∷ us)) ≡ true
      go true z k r = rw z z
      go false z (inl q) r = absurd (clash (sym (ap f q) ∙ e) z)
      go false z (inr k) r = rw z (r k)

-- ---- to do better, said in two ways

-- Who is better strictly dominates: so where none strictly dominates, none is better.
pub better_strictly : (G : Arena) {τ σ : Way G} {h : Play G.Place} → Better G τ σ h → StrictlyDominates G τ σ h
better_strictly G d = (d.never_worse, λ back. d.missed (back d.once d.met))

-- ---- the action taken at move k, of the play h and the action x after it

turn : {P : Type 0} → ℕ → Play P → ℕ → ℕ
turn k (begin p) x = x
turn k (then h a p) x = cond (eqb (suc (made h)) k) x (turn k h a)

turn_at : {P : Type 0} (h : Play P) (x : ℕ) → turn (made h) h x ≡ x
unfolding turn
turn_at (begin p) x = refl
turn_at (then h a p) x = rw (eq-eqb (suc (made h)) (suc (made h)) refl)

turn_past : {P : Type 0} (k : ℕ) (h : Play P) (a : ℕ) (p : P) (x : ℕ) → k ≤ made h → turn k (then h a p) x ≡ turn k h a
unfolding turn
turn_past k h a p x l = rw (ne_eqb (suc (made h)) k (λ e. omega arith))

-- where τ stops, the play stays
pub stopped : (G : Arena) (τ : Way G) (b : Behaviour G) (h : Play G.Place) → τ.choose h ≡ stop → (n : ℕ) → against G τ b h n ≡ h
stopped G τ b h c zero = refl
stopped G τ b h c (suc n) = let s : advance G τ h (reply G b (τ.choose h) h) ≡ h = go (G.accepted (last h)) refl in rw s (stopped G τ b h c n)
  where
    go : (x : Bool) → G.accepted (last h) ≡ x → advance G τ h (reply G b (τ.choose h) h) ≡ h
    go true e = rw e
    go false e = rw (e, c)

module _ (G : Arena) (L : Lawful G) where
  -- ---- outcomes that help, and outcomes that spoil

  unfoldable pub help : G.Place → ℕ → G.Place
  help p x = lead (hoped G (pred (lowest (λ k. hoped G k p) (suc (size G))))) p (G.leads p x)

  spoil : G.Place → ℕ → G.Place
  spoil p x = lead (λ t. not (won G t)) p (G.leads p x)

  pub help_listed : (p : G.Place) (x : ℕ) → Open G p x → Listed G p x (help p x)
  unfolding help
  help_listed p x o = lead_in _ _ _ o

  spoil_listed : (p : G.Place) (x : ℕ) → Open G p x → Listed G p x (spoil p x)
  unfolding spoil
  spoil_listed p x o = lead_in _ _ _ o

  help_helps : (p : G.Place) (n x : ℕ) → Inside G p → Least (λ k. hoped G k p ≡ true) (suc n) → (t : G.Place) → Listed G p x t
      → hoped G n t ≡ true → hoped G n (help p x) ≡ true
  unfolding help
  help_helps p n x i l t m e =
      let r : pred (lowest (λ k. hoped G k p) (suc (size G))) ≡ n =
      ap pred (lowest_is (λ k. hoped G k p) (size G) (suc n) (hope_settled G (won G) L (suc n) p i l.0) l) in
      rw r (lead_passes (hoped G n) p (G.leads p x) t m e)

  spoil_spoils : (p : G.Place) (x : ℕ) → Inside G p → won G p ≡ false → Open G p x → won G (spoil p x) ≡ false
  unfolding spoil
  spoil_spoils p x i z o =
      let s : sure (won G) (G.leads p x) ≡ false =
      if_not_true _ (λ y. clash (win_settled G L (suc (size G)) p i (into_win G L (size G) p (x, o, (sure_at _ _ y).1))) z) in
      let t = sure_fails _ _ o s in
      not-true _ (lead_passes (λ t. not (won G t)) p (G.leads p x) t.0 t.1 (rw t.2))

  -- There are behaviours: one that helps wherever it can, and one that spoils wherever it can.
  unfoldable pub helping : Behaviour G
  helping = record { picks = λ h x. help (last h) x; listed = λ h x o. help_listed (last h) x o }

  pub spoiling : Behaviour G
  spoiling = record { picks = λ h x. spoil (last h) x; listed = λ h x o. spoil_listed (last h) x o }

  -- as b before move k; from there on, help where action a was taken at move k, and spoil where another was
  module _ (b : Behaviour G) (k a : ℕ) where
    mixed : Play G.Place → ℕ → G.Place
    mixed h x = cond (ltb (made h) k) (b.picks h x) (cond (eqb (turn k h x) a) (help (last h) x) (spoil (last h) x))

    mixed_listed : (h : Play G.Place) (x : ℕ) → Open G (last h) x → Listed G (last h) x (mixed h x)
    unfolding mixed
    mixed_listed h x o = go (ltb (made h) k) (eqb (turn k h x) a)
      where
        go : (c d : Bool) → Listed G (last h) x (cond c (b.picks h x) (cond d (help (last h) x) (spoil (last h) x)))
        go true d = b.listed h x o
        go false true = help_listed (last h) x o
        go false false = spoil_listed (last h) x o

    abbrev mix : Behaviour G
    mix = record { picks = mixed; listed = mixed_listed }

    mix_before : (h : Play G.Place) (x : ℕ) → made h < k → mixed h x ≡ b.picks h x
    unfolding mixed
    mix_before h x l = rw (lt-ltb (made h) k l)

    mix_help : (h : Play G.Place) (x : ℕ) → k ≤ made h → turn k h x ≡ a → mixed h x ≡ help (last h) x
    unfolding mixed
    mix_help h x l e = rw (le-ltb (made h) k l, eq-eqb (turn k h x) a e)

    mix_spoil : (h : Play G.Place) (x : ℕ) → k ≤ made h → (turn k h x ≡ a → ⊥) → mixed h x ≡ spoil (last h) x
    unfolding mixed
    mix_spoil h x l e = rw (le-ltb (made h) k l, ne_eqb (turn k h x) a e)

  -- from h on, the action that σ took at move k is one of A
  abbrev Took : Way G → ℕ → (ℕ → Type 0) → Play G.Place → Type 0
  Took σ k A h = (k ≤ made h) × ((x : ℕ) → σ.choose h ≡ act x → A (turn k h x))

  took_on : (σ : Way G) (k : ℕ) (A : ℕ → Type 0) (h : Play G.Place) (x : ℕ) → Took σ k A h → σ.choose h ≡ act x → (t : G.Place)
      → Took σ k A (then h x t)
  took_on σ k A h x r c t = (let l = r.0 in omega arith, λ y d. subst A (sym (turn_past k h x t y r.0)) (r.1 x c))

  -- along the plays of D, b picks by f whatever σ takes
  abbrev Picks : Way G → Behaviour G → (G.Place → ℕ → G.Place) → (Play G.Place → Type 0) → Type 0
  Picks σ b f D =
      (h : Play G.Place) (x : ℕ) → D h → σ.choose h ≡ act x → (b.picks h x ≡ f (last h) x) × ((t : G.Place) → D (then h x t))

  -- whom b spoils from a place that is not winning never meets the goal
  module _ (τ : Way G) (b : Behaviour G) (D : Play G.Place → Type 0) (by : Picks τ b spoil D) where
    spoiled : (n : ℕ) (h : Play G.Place) → Inside G (last h) → won G (last h) ≡ false → D h → Unmet G (last (against G τ b h n))
    spoiled zero h i z d = if_not_true _ (λ y. clash (win_accepted G (size G) (last h) y) z)
    spoiled (suc n) h i z d = go (next G τ h) (spoiled n)
      where
        go : Next G τ h
            → ((g : Play G.Place) → Inside G (last g) → won G (last g) ≡ false → D g → Unmet G (last (against G τ b g n)))
            → Unmet G (last (against G τ b h (suc n)))
        go (over s c) f = rw (s (reply G b (τ.choose h) h)) (f h i z d)
        go (on x u c s) f =
            let o = τ.legal h x c in
            let q = by h x d c in
            rw (against_on G τ b h x u c)
            (f (then h x (b.picks h x)) (L.closed (last h) _ x i (b.listed h x o)) (rw q.0 (spoil_spoils (last h) x i z o))
            (q.1 (b.picks h x)))

  -- From a place that is not winning one behaviour defeats every way of choosing.
  pub none_meets : (h : Play G.Place) → Inside G (last h) → (Winning G (last h) → ⊥) → (τ : Way G) → Meets G τ spoiling h → ⊥
  unfolding spoiling
  none_meets h i w τ m =
      clash m.1 (spoiled τ spoiling (λ g. Unit {0}) (λ g x d c. (refl, λ t. tt)) m.0 h i
      (if_not_true _ (λ y. w (win_winning G L (size G) (last h) y))) tt)

  -- what a way meets against a behaviour is possible
  pub meets_possible : (τ : Way G) (b : Behaviour G) (h : Play G.Place) → Meets G τ b h → Possible G (last h)
  meets_possible τ b h m =
      hopes_possible G L m.0 (last h)
      (hope_wider G L G.accepted (won G) (λ q y. win_accepted G (size G) q y) m.0 (last h)
      (reach_hope G L G.accepted τ m.0 h (outcomes G τ b h) (outcomes_obey G τ b h) (rw (against_run G τ b h m.0) at m.1)))

  module _ (few : G.actions ≤ 255) (e : G.Place → Entry) (allowed : (p : G.Place) → Inside G p → Allowed G p (e p)) (σ : Way G)
    where
      -- From a winning place it meets the goal against every behaviour.
      pub plan_wins : (h : Play G.Place) → Follows G e σ h → Inside G (last h) → Winning G (last h) → (b : Behaviour G) → Meets G σ b h
      plan_wins h f i w b = (
        (e (last h)).number,
        rw (against_run G σ b h (e (last h)).number)
            (plan_forces G L few e allowed σ h f i ((value_told G L (allowed (last h) i)).winning.1 w) (outcomes G σ b h) (outcomes_obey G σ b h)),
      )

      -- whom b helps from a place that can be hoped for meets the goal, if it follows
      module _ (b : Behaviour G) (D : Play G.Place → Type 0) (by : Picks σ b help D) where
        helped : (n : ℕ) (h : Play G.Place) → Follows G e σ h → Inside G (last h) → D h → Least (λ j. hoped G j (last h) ≡ true) n
            → Meets G σ b h
        unfolding hope
        helped zero h f i d l = plan_wins h f i (win_winning G L (size G) (last h) l.0) b
        helped (suc n) h f i d l =
            let g = plan_toward G L few e allowed σ h n (f, i) l in
            let x = g.0 in
            let c = g.2 in
            let u : Unmet G (last h) = if_not_true _ (λ y. let z : suc n ≤ 0 = l.1 0 (win_accepted G (size G) (last h) y) in omega arith) in
            let m = b.listed h x (g.1, g.3) in
            let q = by h x d c in
            let y : hoped G n (b.picks h x) ≡ true = rw q.0 (help_helps (last h) n x i l g.1 g.3 g.5) in
            meets_on G σ b h x u c
            (helped n (then h x (b.picks h x)) (follows_then G e σ h f u c m) (L.closed (last h) _ x i m) (q.1 (b.picks h x))
            (hope_down G (won G) L n (last h) _ x l m y))

      module _ (start : Play G.Place) (τ : Way G) (b₀ : Behaviour G) where
        -- both ways come to h, against every behaviour that picks as b₀ does until h
        abbrev Shared : Play G.Place → Type 0
        Shared h =
            (b : Behaviour G) → ((g : Play G.Place) (x : ℕ) → made g < made h → b.picks g x ≡ b₀.picks g x)
            → ((j : ℕ) × (against G σ b start j ≡ h)) × ((j : ℕ) × (against G τ b start j ≡ h))

        shared_on : (h : Play G.Place) (a : ℕ) → Shared h → Unmet G (last h) → σ.choose h ≡ act a → τ.choose h ≡ act a
            → Shared (then h a (b₀.picks h a))
        shared_on h a s u c c' b f =
            let q = s b (λ g x l. f g x (omega arith)) in ((suc q.0.0, after σ c q.0), (suc q.1.0, after τ c' q.1))
          where
            after : (ρ : Way G) → ρ.choose h ≡ act a → (r : (j : ℕ) × (against G ρ b start j ≡ h))
                → against G ρ b start (suc r.0) ≡ then h a (b₀.picks h a)
            after ρ q r = rw (against_next G ρ b start r.0, r.1, against_on G ρ b h a u q, f h a (omega arith))

        -- against some behaviour the plan meets the goal, and τ does not
        abbrev Worse : Type 0
        Worse = (b : Behaviour G) × Meets G σ b start × (Meets G τ b start → ⊥)

        -- where they part at a pending place, τ is worse against some behaviour
        parted : (h : Play G.Place) (a n : ℕ) → Follows G e σ h → Inside G (last h) → Shared h
            → Least (λ j. hoped G j (last h) ≡ true) (suc n) → σ.choose h ≡ act a → ((x : ℕ) → τ.choose h ≡ act x → x ≡ a → ⊥) → Worse
        unfolding hope
        parted h a n follows i s l c other =
            let k = made h in
            let b = mix b₀ k a in
            let q = s b (λ g x l. mix_before b₀ k a g x l) in
            let m = helped b (Took σ k (λ y. y ≡ a))
            (λ g x r d. (mix_help b₀ k a g x r.0 (r.1 x d), took_on σ k (λ y. y ≡ a) g x r d))
            (suc n) h follows i (omega arith, λ x z. let e : x ≡ a = cc in turn_at h x ∙ e) l in
            let z : won G (last h) ≡ false = if_not_true _ (λ y. let z : suc n ≤ 0 = l.1 0 y in omega arith) in (
              b,
              meets_early G σ b start q.0.0 (rw q.0.1 m),
              λ (m' : Meets G τ b start).
                  let m'' = meets_late G τ b start q.1.0 m' in
                  clash {b = G.accepted (last (against G τ b h m''.0))} (rw q.1.1 at m''.1)
                  (spoiled τ b (Took τ k (λ y. y ≡ a → ⊥))
                  (λ g x r d. (mix_spoil b₀ k a g x r.0 (r.1 x d), took_on τ k (λ y. y ≡ a → ⊥) g x r d))
                  m''.0 h i z (omega arith, λ x t k. other x t (sym (turn_at h x) ∙ k))),
            )

        -- so the plan meets the goal against b₀ if τ does, or τ is worse against another
        matched : (n : ℕ) (h : Play G.Place) → Follows G e σ h → Inside G (last h) → Shared h → Accepted G (last (against G τ b₀ h n))
            → Meets G σ b₀ h ⊎ Worse
        unfolding hope
        matched zero h follows i s y = inl (zero, y)
        matched (suc n) h follows i s y = at (either (G.accepted (last h))) (matched n)
          where
            Below : Type 0
            Below =
                (g : Play G.Place) → Follows G e σ g → Inside G (last g) → Shared g → Accepted G (last (against G τ b₀ g n))
                → Meets G σ b₀ g ⊎ Worse

            pending : Unmet G (last h) → (m : ℕ) → Least (λ j. hoped G j (last h) ≡ true) (suc m) → Below → Meets G σ b₀ h ⊎ Worse
            pending u m l f = choice (τ.choose h) refl
              where
                g : (a : ℕ) × (t : G.Place) × (σ.choose h ≡ act a) × Listed G (last h) a t
                    × (Follows G e σ (then h a t) × Inside G t) × (hoped G m t ≡ true)
                g = plan_toward G L few e allowed σ h m (follows, i) l

                back : Meets G σ b₀ (then h g.0 (b₀.picks h g.0)) ⊎ Worse → Meets G σ b₀ h ⊎ Worse
                back (inl k) = inl (meets_on G σ b₀ h g.0 u g.2 k)
                back (inr w) = inr w

                same : (x : ℕ) → τ.choose h ≡ act x → Dec (x ≡ g.0) → Meets G σ b₀ h ⊎ Worse
                same x q (yes k) =
                    let c : τ.choose h ≡ act g.0 = cc in
                    let m = b₀.listed h g.0 (g.1, g.3) in
                    back (f (then h g.0 (b₀.picks h g.0)) (follows_then G e σ h follows u g.2 m) (L.closed (last h) _ g.0 i m)
                    (shared_on h g.0 s u g.2 c) (rw (against_on G τ b₀ h g.0 u c) at y))
                same x q (no k) = inr (parted h g.0 m follows i s l g.2 (λ z t v. let w : x ≡ g.0 = cc in k w))

                choice : (c : Choice) → τ.choose h ≡ c → Meets G σ b₀ h ⊎ Worse
                choice stop q = inr (parted h g.0 m follows i s l g.2 (λ z t v. let w : ◌≡◌ {A = ℕ} 0 1 = cc in omega arith))
                choice (act x) q = same x q (ℕ_discrete x g.0)

            value : Unmet G (last h) → Winning G (last h) ⊎ (Pending G (last h) ⊎ Losing G (last h)) → Below → Meets G σ b₀ h ⊎ Worse
            value u (inl w) f = inl (plan_wins h follows i w b₀)
            value u (inr (inr l)) f = absurd (l.1 (meets_possible τ b₀ h (suc n, y)))
            value u (inr (inl q)) f = number (has_lowest (λ j. hoped G j (last h)) (size G) ((possible_iff G L (last h) i).0 q.1))
              where
                number : (k : ℕ) × (k ≤ size G) × Least (λ j. hoped G j (last h) ≡ true) k → Meets G σ b₀ h ⊎ Worse
                number (zero, t, l) = absurd (q.0 (win_winning G L (size G) (last h) l.0))
                number (suc m, t, l) = pending u m l f

            at : Accepted G (last h) ⊎ Unmet G (last h) → Below → Meets G σ b₀ h ⊎ Worse
            at (inl z) f = inl (zero, z)
            at (inr u) f = value u (value_of G L (last h) i) f

      module _ (h : Play G.Place) (follows : Follows G e σ h) (i : Inside G (last h)) where
        -- Whoever meets the goal against a behaviour against which the plan does not misses it against another against which the plan does.
        pub better_costs : (τ : Way G) (b : Behaviour G) → Meets G τ b h → (Meets G σ b h → ⊥)
            → (d : Behaviour G) × Meets G σ d h × (Meets G τ d h → ⊥)
        better_costs τ b m none = go (matched h τ b m.0 h follows i (λ b f. ((0, refl), (0, refl))) m.1)
          where
            go : Meets G σ b h ⊎ Worse h τ b → Worse h τ b
            go (inl k) = absurd (none k)
            go (inr w) = w

        -- A way that does at least as well as the plan against every behaviour does no better against any.
        pub none_better : (τ : Way G) → Dominates G τ σ h → Dominates G σ τ h
        none_better τ d b m = go (matched h τ b m.0 h follows i (λ b f. ((0, refl), (0, refl))) m.1)
          where
            go : Meets G σ b h ⊎ Worse h τ b → Meets G σ b h
            go (inl k) = k
            go (inr w) = absurd (w.2 (d w.0 w.1))

        -- So the plan makes the best effort, as document 004 says it,
        pub best_effort : BestEffort G σ h
        best_effort τ s = s.1 (none_better τ s.0)

        -- and in the request's words: no way does at least as well against every behaviour and better against one.
        pub nothing_better : (τ : Way G) → Better G τ σ h → ⊥
        nothing_better τ d = best_effort τ (better_strictly G d)

        -- Where the goal is possible at all, the plan meets it against one behaviour, the same for all.
        pub plan_may_meet : Possible G (last h) → Meets G σ helping h
        unfolding helping
        plan_may_meet q =
            let l = has_lowest (λ j. hoped G j (last h)) (size G) ((possible_iff G L (last h) i).0 q) in
            helped helping (λ g. Unit {0}) (λ g x d c. (refl, λ t. tt)) l.0 h follows i tt l.2

        -- So wherever the goal is possible and not yet met the plan is better than whoever stops there.
        pub better_than_stopping : Unmet G (last h) → Possible G (last h) → (τ : Way G) → τ.choose h ≡ stop → Better G σ τ h
        better_than_stopping u q τ c =
            record {
              never_worse = λ b k. absurd (unmet b k);
              once = helping;
              met = plan_may_meet q;
              missed = unmet helping;
            }
          where
            unmet : (b : Behaviour G) → Meets G τ b h → ⊥
            unmet b (n, y) = clash (rw (stopped G τ b h c n) at y) u

  -- ---- the values, said with behaviours

  pub winning_against : (p : G.Place) → Inside G p → Winning G p ↔ ((σ : Way G) × ((b : Behaviour G) → Meets G σ b (begin p)))
  winning_against p i = (
    λ w. (
      w.0,
      λ b.
          let r = w.1 (outcomes G w.0 b (begin p)) (outcomes_obey G w.0 b (begin p)) in
          (r.0, rw (against_run G w.0 b (begin p) r.0) r.1),
    ),
    λ s. (winning_iff G L p i).1 (if_not_false _ (λ z.
        none_meets (begin p) i (λ w. clash ((winning_iff G L p i).0 w) z) s.0 (s.1 spoiling))),
  )

  pub possible_against : G.actions ≤ 255 → (p : G.Place) → Inside G p
      → Possible G p ↔ ((σ : Way G) × (b : Behaviour G) × Meets G σ b (begin p))
  possible_against few p i = (
    λ q.
        let σ = follow G (by_rounds G) in
        let r : (x : G.Place) → Inside G x → Allowed G x (by_rounds G x) = λ x j. right_allowed G (by_rounds_right G L x j) in
        let f = follow_follows G L few (by_rounds G) r (begin p) i in
        (σ, helping, plan_may_meet few (by_rounds G) r σ (begin p) f i q),
    λ s. meets_possible s.0 s.1 (begin p) s.2,
  )
