-- The game with slips of the arm: what naming an action leads to, that the game is lawful, how many larger places there are; no slips are
-- today's game; a slip fewer never hurts; and seeing what was done changes nothing.
use Prim.Native.Nat.{ℕ, zero, suc, ◌*◌, ◌≤◌, zero-le}
use mathlib.Core.Bool.{Bool, true, false, cond}
use mathlib.Core.List.Memᴰ
use mathlib.Core.List.{List, [], ◌∷◌, map, Memᴰ}
use mathlib.Core.Logic.Iff
use mathlib.Core.Logic.{⊎_elim, ◌↔◌}
use mathlib.Core.Path.{◌≡◌, refl, sym, ◌∙◌, subst}
use native.Mathlib.Omega.{arith}
use borrow.Author.Tests.{ne_eqb, eq-eqb}
use lib.Dec.{eqb}
use lib.ListN.{length-map}
use Rattle.game.specs.Game.{Arena, Inside, Listed, Open, Lawful, Winning, WinsIn, Right}
use Rattle.game.specs.Below.{upto, each}
use Rattle.game.specs.declared.entry.Entry.{Entry}
use Rattle.rules.proofs.Arenas.{upto_iff, each_iff, length_each, length_upto}
use Rattle.game.proofs.Search.{clash, has_lowest}
use Rattle.game.proofs.Rounds.{size, win, win_accepted, win_step, into_win}
use Rattle.game.proofs.Values.{wins_iff, winning_iff, win_winning}
use Rattle.game.proofs.Alike.{Alike, right_alike}
use Rattle.larger.specs.Larger.{Larger, larger, Watched, watched, unwatched, others, slipped, named, slipping, watching}

module _ (G : Arena) where
  -- ---- what naming an action leads to

  -- with k slips left, naming a leads by doing d to t, with k' left: a itself was done, or by a slip another open action
  pub data Done (p : G.Place) (k a k' d : ℕ) (t : G.Place) : Type 0 where
    as_named : k ≡ k' → d ≡ a → Listed G p a t → Done p k a k' d t
    by_slip : k ≡ suc k' → (d ≡ a → ⊥) → Listed G p d t → Done p k a k' d t

  module _ (L : Lawful G) {A : Type 0} (f : ℕ → ℕ → G.Place → A) where
    others_iff : (k : ℕ) (p : G.Place) (a : ℕ) (u : A) → Memᴰ u (others G (f k) p a)
        ↔ ((d : ℕ) × (t : G.Place) × (d ≡ a → ⊥) × Listed G p d t × (f k d t ≡ u))
    others_iff k p a u = (into, back)
      where
        Other : Type 0
        Other = (d : ℕ) × (t : G.Place) × (d ≡ a → ⊥) × Listed G p d t × (f k d t ≡ u)

        at : (d : ℕ) (c : Bool) → eqb d a ≡ c → Memᴰ u (cond c [] (map (f k d) (G.leads p d))) → Other
        at d true z m = absurd (Memᴰ.not-nil m)
        at d false z m =
            let t = Memᴰ.of_map (f k d) (G.leads p d) m in (d, t.0, λ e. clash (eq-eqb d a e) z, t.1, t.2)

        into : Memᴰ u (others G (f k) p a) → Other
        into m =
            let t = (each_iff (λ b. cond (eqb b a) [] (map (f k b) (G.leads p b))) (upto G.actions)).0 m in
            at t.0 (eqb t.0 a) refl t.2

        back : Other → Memᴰ u (others G (f k) p a)
        back (d, t, n, m, e) =
            (each_iff (λ b. cond (eqb b a) [] (map (f k b) (G.leads p b))) (upto G.actions)).1
            (d, (upto_iff G.actions d).1 (L.counted p t d m), rw (ne_eqb d a n) (Memᴰ.cast (sym e) (Memᴰ.map (f k d) m)))

    abbrev Led : G.Place → ℕ → ℕ → A → Type 0
    Led p k a u = Open G p a × ((k' : ℕ) × (d : ℕ) × (t : G.Place) × Done p k a k' d t × (f k' d t ≡ u))

    pub named_iff : (p : G.Place) (k a : ℕ) (u : A) → Memᴰ u (named G f (G.leads p a) p k a) ↔ Led p k a u
    named_iff p k a u = (into (G.leads p a) (λ t m. m), λ l. back (G.leads p a) (λ t m. m) l.0 l)
      where
        slips : (k : ℕ) → Memᴰ u (slipped G f p k a) → (k' : ℕ) × (d : ℕ) × (t : G.Place) × Done p k a k' d t × (f k' d t ≡ u)
        slips zero m = absurd (Memᴰ.not-nil m)
        slips (suc k) m = let o = (others_iff k p a u).0 m in (k, o.0, o.1, by_slip refl o.2 o.3, o.4)

        into : (ts : List G.Place) → ((t : G.Place) → Memᴰ t ts → Listed G p a t) → Memᴰ u (named G f ts p k a) → Led p k a u
        into [] h m = absurd (Memᴰ.not-nil m)
        into (t ∷ ts) h m = (
          (t, h t (Memᴰ.head refl)),
          ⊎_elim (λ l. let v = Memᴰ.of_map (f k a) (t ∷ ts) l in (k, a, v.0, as_named refl refl (h v.0 v.1), v.2)) (slips k)
              (Memᴰ.append_cases (map (f k a) (t ∷ ts)) m),
        )

        slip : (k : ℕ) (k' d : ℕ) (t : G.Place) → k ≡ suc k' → (d ≡ a → ⊥) → Listed G p d t → f k' d t ≡ u
            → Memᴰ u (slipped G f p k a)
        slip zero k' d t e n m q = absurd (omega arith)
        slip (suc k) k' d t e n m q = let r : k' ≡ k = omega arith in (others_iff k p a u).1 (d, t, n, m, rw r at q)

        back : (ts : List G.Place) → ((t : G.Place) → Listed G p a t → Memᴰ t ts) → Open G p a → Led p k a u
            → Memᴰ u (named G f ts p k a)
        back [] h o l = absurd (Memᴰ.not-nil (h o.0 o.1))
        back (t ∷ ts) h o (x, (k', d, v, as_named e q m, r)) =
            Memᴰ.append_left (slipped G f p k a) (Memᴰ.cast (sym r ∙ (λ i. f (sym e i) (q i) v)) (Memᴰ.map (f k a) (h v m)))
        back (t ∷ ts) h o (x, (k', d, v, by_slip e n m, r)) = Memᴰ.append_right (map (f k a) (t ∷ ts)) (slip k k' d v e n m r)

  -- ---- the places

  pub inside_slipping : (K : ℕ) (x : Larger G.Place) → Inside (slipping G K) x ↔ (Inside G x.at × (x.slips ≤ K))
  inside_slipping K x = (
    λ m.
        let (k, mk, mp) = (each_iff (λ k. map (larger k) G.all) (upto (suc K))).0 m in
        let (p, mq, e) = Memᴰ.of_map (larger k) G.all mp in
        let l = (upto_iff (suc K) k).0 mk in
        rw (← e) (mq, omega arith),
    λ t. (each_iff (λ k. map (larger k) G.all) (upto (suc K))).1 (
      x.slips,
      (upto_iff (suc K) x.slips).1 (let l = t.1 in omega arith),
      Memᴰ.map (larger x.slips) t.0,
    ),
  )

  -- Bounds count larger places: there are K + 1 times as many.
  pub size_slipping : (K : ℕ) → size (slipping G K) ≡ suc K * size G
  size_slipping K =
      length_each (λ k. map (larger k) G.all) (λ k. length-map G.all (larger k)) (upto (suc K)) ∙ rw (length_upto (suc K))

  module _ (L : Lawful G) where
    -- what naming a at x leads to, in the request's words
    pub slipping_iff : (K : ℕ) (x u : Larger G.Place) (a : ℕ) → Listed (slipping G K) x a u
        ↔ (Open G x.at a × (d : ℕ) × Done x.at x.slips a u.slips d u.at)
    slipping_iff K x u a = (
      λ m.
          let (o, (k, d, t, h, e)) = (named_iff L (λ k d. larger k) x.at x.slips a u).0 m in
          (o, d, subst (λ (v : Larger G.Place). Done x.at x.slips a v.slips d v.at) e h),
      λ t. (named_iff L (λ k d. larger k) x.at x.slips a u).1 (t.0, (u.slips, t.1, u.at, t.2, refl)),
    )

    -- a's own outcomes keep the slips, and with slips left the others' use one up
    own_listed : (K : ℕ) (p t : G.Place) (k a : ℕ) → Listed G p a t → Listed (slipping G K) (larger k p) a (larger k t)
    own_listed K p t k a m = (slipping_iff K (larger k p) (larger k t) a).1 ((t, m), a, as_named refl refl m)

    other_listed : (K : ℕ) (p t : G.Place) (k a d : ℕ) → Open G p a → (d ≡ a → ⊥) → Listed G p d t
        → Listed (slipping G K) (larger (suc k) p) a (larger k t)
    other_listed K p t k a d o n m = (slipping_iff K (larger (suc k) p) (larger k t) a).1 (o, d, by_slip refl n m)

    done_listed : {p t : G.Place} {k a k' d : ℕ} → Done p k a k' d t → Listed G p d t
    done_listed {p} {t} (as_named e q m) = rw q m
    done_listed (by_slip e n m) = m

    done_fewer : {p t : G.Place} {k a k' d : ℕ} → Done p k a k' d t → k' ≤ k
    done_fewer (as_named e q m) = omega arith
    done_fewer (by_slip e n m) = omega arith

    pub slipping_lawful : (K : ℕ) → Lawful (slipping G K)
    slipping_lawful K =
        record {
          closed = λ x u a i m.
              let (j, k) = (inside_slipping K x).0 i in
              let (o, d, h) = (slipping_iff K x u a).0 m in
              let f = done_fewer h in
              (inside_slipping K u).1 (L.closed x.at u.at d j (done_listed h), omega arith);
          counted = λ x u a m. let (o, d, h) = (slipping_iff K x u a).0 m in L.counted x.at o.0 a o.1;
        }

    -- ---- no slips: today's game; and what is right of a larger place does not depend on how many slips others have

    pub alike_today : Alike (slipping G 0) G (λ x. x.at)
    alike_today =
        record {
          inside = λ x i. ((inside_slipping 0 x).0 i).0;
          accepted = λ x i. refl;
          there = λ x t a i m.
              let (o, d, h) = (slipping_iff 0 x t a).0 m in none ((inside_slipping 0 x).0 i).1 h;
          back = λ x u a i m. (larger x.slips u, own_listed 0 x.at u x.slips a m, refl);
        }
      where
        none : {p t : G.Place} {k a k' d : ℕ} → k ≤ 0 → Done p k a k' d t → Listed G p a t
        none l (as_named e q m) = m
        none l (by_slip e n m) = absurd (omega arith)

    pub alike_more : (K K' : ℕ) → K ≤ K' → Alike (slipping G K) (slipping G K') (λ x. x)
    alike_more K K' l =
        record {
          inside = λ x i. let (j, k) = (inside_slipping K x).0 i in (inside_slipping K' x).1 (j, omega arith);
          accepted = λ x i. refl;
          there = λ x t a i m. m;
          back = λ x u a i m. (u, m, refl);
        }

    pub right_more : (K K' : ℕ) → K ≤ K' → (x : Larger G.Place) → Inside (slipping G K) x → (e : Entry)
        → Right (slipping G K) x e ↔ Right (slipping G K') x e
    right_more K K' l x i e =
        right_alike (slipping G K) (slipping G K') (slipping_lawful K) (slipping_lawful K') (λ x. x) (alike_more K K' l) x i e

    -- Without slips left, what is right is what is right today.
    pub right_today : (K : ℕ) (p : G.Place) → Inside G p → (e : Entry) → Right (slipping G K) (larger 0 p) e ↔ Right G p e
    right_today K p i e =
        let j = (inside_slipping 0 (larger 0 p)).1 (i, zero-le) in
        Iff.trans (Iff.symm (right_more 0 K zero-le (larger 0 p) j e))
        (right_alike (slipping G 0) G (slipping_lawful 0) L (λ x. x.at) alike_today (larger 0 p) j e)

    -- ---- a slip fewer never hurts

    pub win_fewer : (K n k : ℕ) (p : G.Place) → win (slipping G K) n (larger (suc k) p) ≡ true → win (slipping G K) n (larger k p) ≡ true
    unfolding win
    win_fewer K zero k p e = e
    win_fewer K (suc n) k p e =
        ⊎_elim (λ y. win_accepted (slipping G K) (suc n) (larger k p) y) (λ j.
        let (o, d, h) = (slipping_iff K (larger (suc k) p) j.1.0 j.0).0 j.1.1 in
        into_win (slipping G K) (slipping_lawful K) n (larger k p) (
          j.0,
          (larger k o.0, own_listed K p o.0 k j.0 o.1),
          λ u m. let (w, d, t) = (slipping_iff K (larger k p) u j.0).0 m in at k j.0 j.2 o u d t (win_fewer K n),
        )) (win_step (slipping G K) n (larger (suc k) p) e)
      where
        at : (k a : ℕ) → ((u : Larger G.Place) → Listed (slipping G K) (larger (suc k) p) a u → win (slipping G K) n u ≡ true) → Open G p a
            → (u : Larger G.Place) (d : ℕ) → Done p k a u.slips d u.at
            → ((k : ℕ) (p : G.Place) → win (slipping G K) n (larger (suc k) p) ≡ true → win (slipping G K) n (larger k p) ≡ true)
            → win (slipping G K) n u ≡ true
        at k a all o u d (as_named e q m) r =
            rw (← e) (r k u.at (all (larger (suc k) u.at) (own_listed K p u.at (suc k) a m)))
        at k a all o u d (by_slip e n m) r =
            r u.slips u.at (all (larger (suc u.slips) u.at) (rw (← e) (other_listed K p u.at k a d o n m)))

    -- A place that is winning with one more slip is winning without it, and its number is then no larger.
    pub wins_fewer : (K n k : ℕ) (p : G.Place) → WinsIn (slipping G K) (larger (suc k) p) n
        → (m : ℕ) × WinsIn (slipping G K) (larger k p) m × (m ≤ n)
    wins_fewer K n k p w =
        let S = slipping G K in
        let LS = slipping_lawful K in
        let l = has_lowest (λ i. win S i (larger k p)) n (win_fewer K n k p ((wins_iff S LS n (larger (suc k) p)).0 w).0) in
        (l.0, (wins_iff S LS l.0 (larger k p)).1 l.2, l.1)

    -- a place that is winning with one more slip is winning without it
    pub winning_fewer : (K k : ℕ) (p : G.Place) → Inside G p → suc k ≤ K → Winning (slipping G K) (larger (suc k) p)
        → Winning (slipping G K) (larger k p)
    winning_fewer K k p i h w =
        let H = slipping G K in
        let LH = slipping_lawful K in
        win_winning H LH (size H) (larger k p)
        (win_fewer K (size H) k p ((winning_iff H LH (larger (suc k) p) ((inside_slipping K (larger (suc k) p)).1 (i, h))).0 w))

    -- ---- the chooser sees what was done: nothing changes

    pub inside_watching : (K : ℕ) (x : Watched G.Place) → Inside (watching G K) x
        ↔ (Inside G x.at × (x.slips ≤ K) × (x.done ≤ G.actions))
    inside_watching K x = (
      λ m.
          let (k, mk, md) = (each_iff rows (upto (suc K))).0 m in
          let (d, mj, mp) = (each_iff (λ d. map (watched k d) G.all) (upto (suc G.actions))).0 md in
          let (p, mq, e) = Memᴰ.of_map (watched k d) G.all mp in
          let l = (upto_iff (suc K) k).0 mk in
          let l' = (upto_iff (suc G.actions) d).0 mj in
          rw (← e) (mq, omega arith, omega arith),
      λ t. (each_iff rows (upto (suc K))).1 (
        x.slips,
        (upto_iff (suc K) x.slips).1 (let l = t.1 in omega arith),
        (each_iff (λ d. map (watched x.slips d) G.all) (upto (suc G.actions))).1 (
          x.done,
          (upto_iff (suc G.actions) x.done).1 (let l = t.2 in omega arith),
          Memᴰ.map (watched x.slips x.done) t.0,
        ),
      ),
    )
      where
        rows : ℕ → List (Watched G.Place)
        rows k = each (upto (suc G.actions)) (λ d. map (watched k d) G.all)

    -- the chooser sees d, what was done
    pub watching_iff : (K : ℕ) (x u : Watched G.Place) (a : ℕ) → Listed (watching G K) x a u
        ↔ (Open G x.at a × Done x.at x.slips a u.slips u.done u.at)
    watching_iff K x u a = (
      λ m.
          let (o, (k, d, t, h, e)) = (named_iff L watched x.at x.slips a u).0 m in
          (o, rw (← e) h),
      λ t. (named_iff L watched x.at x.slips a u).1 (t.0, (u.slips, u.done, u.at, t.1, refl)),
    )

    pub watching_lawful : (K : ℕ) → Lawful (watching G K)
    watching_lawful K =
        record {
          closed = λ x u a i m.
              let (j, k, c) = (inside_watching K x).0 i in
              let (o, h) = (watching_iff K x u a).0 m in
              let f = done_fewer h in
              let g = L.counted x.at u.at u.done (done_listed h) in
              (inside_watching K u).1 (L.closed x.at u.at u.done j (done_listed h), omega arith, omega arith);
          counted = λ x u a m. let (o, h) = (watching_iff K x u a).0 m in L.counted x.at o.0 a o.1;
        }

    pub alike_watched : (K : ℕ) → Alike (watching G K) (slipping G K) unwatched
    alike_watched K =
        record {
          inside = λ x i. let (j, k, c) = (inside_watching K x).0 i in (inside_slipping K (unwatched x)).1 (j, k);
          accepted = λ x i. refl;
          there = λ x t a i m.
              let (o, h) = (watching_iff K x t a).0 m in (slipping_iff K (unwatched x) (unwatched t) a).1 (o, t.done, h);
          back = λ x u a i m.
              let (o, d, h) = (slipping_iff K (unwatched x) u a).0 m in
              (watched u.slips d u.at, (watching_iff K x (watched u.slips d u.at) a).1 (o, h), refl);
        }

    -- What is right of a larger place is right for a chooser who sees what was done.
    pub right_watched : (K : ℕ) (x : Watched G.Place) → Inside (watching G K) x → (e : Entry)
        → Right (watching G K) x e ↔ Right (slipping G K) (unwatched x) e
    right_watched K x i e =
        right_alike (watching G K) (slipping G K) (watching_lawful K) (slipping_lawful K) unwatched (alike_watched K) x i e
