-- The loop of calls against a behaviour does what a way of choosing that follows the plan does, and so no other caller does better.
use Prim.Native.Nat.{ℕ, zero, suc, ◌≤◌, ◌<◌}
use mathlib.Core.Bool.{Bool, true, false, cond}
use mathlib.Core.List.Memᴰ
use mathlib.Core.List.{List, [], ◌∷◌, Memᴰ}
use mathlib.Core.Logic.{◌⊎◌, inl, inr, ◌≢◌, ◌↔◌}
use mathlib.Core.Path.{◌≡◌, refl, sym, ap, ◌∙◌, subst}
use native.Mathlib.Omega.{arith}
use borrow.Author.Tests.{eq-eqb, ne_eqb, lt-ltb, le-ltb}
use lib.Dec.{ltb, eqb}
use Rattle.game.specs.Game.{Arena, Play, begin, then, last, made, Choice, stop, act, Inside, Listed, Open, Accepted, Unmet, Lawful, Way}
use Rattle.game.specs.Game.{advance, Follows, met}
use Rattle.game.specs.Behaviour.{Behaviour, reply, against, Meets, Dominates}
use Rattle.game.specs.declared.entry.Entry.{Entry}
use Rattle.rules.specs.Job.{arena}
use Rattle.rules.specs.Fault.{only}
use Rattle.rules.specs.Bytes.{said}
use Rattle.rules.specs.Keeps.{Keeps}
use Rattle.rules.specs.Answers.{MovedFigures, AdvisedFigures}
use Rattle.rules.specs.Calls.{Planning, started, followed}
use Rattle.rules.specs.declared.place.Place.{Place}
use Rattle.game.proofs.Search.{either}
use Rattle.game.proofs.Plays.{some_obeys, met_stays}
use Rattle.game.proofs.Following.{right_allowed, allowed_named, open_named}
use Rattle.game.proofs.Right.{right_unique}
use Rattle.game.proofs.Facing.{against_on, against_follows, meets_on}
use Rattle.rules.proofs.Arenas.{arena_lawful}
use Rattle.rules.proofs.Planned.{entry_of}
use Rattle.cabinet.specs.Playing.{Caller, turn, told, heeds, Stands, Met}
use Rattle.cabinet.specs.Behaving.{played, observed, turns_against, MeetsBy, DominatesBy, BetterBy}
use Rattle.cabinet.proofs.Starting.{followed_listed}
use Rattle.cabinet.proofs.Turns.{at, stands_inside, followed_stands, listed_taken}
use Rattle.cabinet.proofs.Callers.{open_way}
use Rattle.cabinet.proofs.Looping.{keeps, told_entry, entry_right}
use Rattle.cabinet.proofs.Demands.{demand_3_ways}
use Rattle.cabinet.proofs.Playing.{start_stands}
use Rattle.cabinet.proofs.Effort.{none_better_after, pending_worth}

-- ---- the play that a run of calls is

played_last : (h : Play MovedFigures) → last (played h) ≡ at (last h)
played_last (begin f) = refl
played_last (then h a f) = refl

played_made : (h : Play MovedFigures) → made (played h) ≡ made h
played_made (begin f) = refl
played_made (then h a f) = ap suc (played_made h)

module _ (b : List ℕ) (keeps : Keeps b) where
  abbrev G : Arena
  G = arena (said b)

  -- a listed move is followed, and its answer stands on the place that it leads to
  pub record Lands (f : MovedFigures) (a : ℕ) (t : Place) : Type 0 where
    pub stands : Stands b (followed b f.state f.goal a t.state)
    pub there : at (followed b f.state f.goal a t.state) ≡ t

  lands : {f : MovedFigures} → Stands b f → (a : ℕ) (t : Place) → Listed G (at f) a t → Lands f a t
  lands {f} s a t m =
      let e = listed_taken b keeps s a t m in
      record {
        stands = followed_stands b f.state f.goal a t.state (ap (λ (g : MovedFigures). g.refusal) e);
        there = ap at e;
      }

  -- after a refused move nothing changes
  refused_stays : (c : Caller) (v : Behaviour G) (n : ℕ) (h : Play MovedFigures) → (last h).refusal ≢ 0 → turns_against b c v h n ≡ h
  refused_stays c v zero h e = refl
  refused_stays c v (suc n) h e =
      let s : turn b c h (observed b v (c h) h) ≡ h = rw (ne_eqb (last h).refusal 0 e) in
      ap (λ (k : Play MovedFigures). turns_against b c v k n) s ∙ refused_stays c v n h e

  -- ---- whoever calls chooses as some way would, whatever the behaviour

  module _ (c : Caller) (h : Play MovedFigures) where
    -- what a caller has seen when the play is k, which goes on from h
    shown : Play Place → Play MovedFigures
    shown (begin p) = h
    shown (then k a t) =
        cond (ltb (made k) (made h)) h (then (shown k) a (followed b (last (shown k)).state (last (shown k)).goal a t.state))

    shown_played : shown (played h) ≡ h
    unfolding shown
    shown_played = go h refl
      where
        go : (g : Play MovedFigures) → g ≡ h → shown (played g) ≡ h
        go (begin f) e = refl
        go (then g a f) e =
            let l : made (played g) < made h = subst (λ (k : Play MovedFigures). made (played g) < made k) e (omega (arith, played_made g)) in
            rw (lt-ltb (made (played g)) (made h) l)

    shown_on : (k : Play Place) (a : ℕ) (t : Place) → made h ≤ made k
        → shown (then k a t) ≡ then (shown k) a (followed b (last (shown k)).state (last (shown k)).goal a t.state)
    unfolding shown
    shown_on k a t l = rw (le-ltb (made k) (made h) l)

    -- the way of choosing of a caller who has seen h
    way_by : Way G
    way_by = open_way b (λ k. c (shown k))

    -- k goes on from h, and is what the caller has seen
    record Came (k : Play Place) : Type 0 where
      late : made h ≤ made k
      seen : played (shown k) ≡ k
      stands : Stands b (last (shown k))

    came_last : {k : Play Place} → Came k → at (last (shown k)) ≡ last k
    came_last {k} w = sym (played_last (shown k)) ∙ ap last w.seen

    came_begin : Stands b (last h) → Came (played h)
    came_begin s =
        record {
          late = omega (arith, played_made h);
          seen = rw shown_played;
          stands = rw shown_played s;
        }

    module _ (v : Behaviour G) where
      -- the turn at k
      abbrev after_turn : Play Place → Play MovedFigures
      after_turn k = turn b c (shown k) (observed b v (c (shown k)) (shown k))

      abbrev after_move : Play Place → Play Place
      after_move k = advance G way_by k (reply G v (way_by.choose k) k)

      -- neither goes on; the caller is refused where the way stops; or both go on by the same action to the same place
      data Both (k : Play Place) : Type 0 where
        rest : after_turn k ≡ shown k → after_move k ≡ k → Both k
        broken : (last (after_turn k)).refusal ≢ 0 → after_move k ≡ k → Both k
        go_on : (a : ℕ) → way_by.choose k ≡ act a → Came (then k a (v.picks k a))
            → after_turn k ≡ shown (then k a (v.picks k a)) → Both k

      both : (k : Play Place) → Came k → Unmet G (last k) → Both k
      unfolding way_by open_way
      both k w u = go (c (shown k)) refl
        where
          H : Play MovedFigures
          H = shown k

          live : eqb (last H).refusal 0 ≡ true
          live = eq-eqb (last H).refusal 0 w.stands.answered

          go : (d : Choice) → c H ≡ d → Both k
          go stop e = rest (rw (live, e)) (rw (u, e))
          go (act a) e = by (G.leads (last k) a) refl
            where
              by : (ts : List Place) → G.leads (last k) a ≡ ts → Both k
              by [] z =
                  let x = observed b v (act a) H in
                  let f = followed b (last H).state (last H).goal a x in
                  let none : f.refusal ≢ 0 =
                  λ r. let m = followed_listed b (last H).state (last H).goal a x r in
                  let m' = subst (λ (p : Place). Memᴰ (at f) (G.leads p a)) (came_last w) m in
                  Memᴰ.not-nil (subst (Memᴰ (at f)) z m') in
                  let moves : after_turn k ≡ then H a f = rw (live, e) in
                  broken (λ r. none (rw moves at r)) (rw (u, e, z))
              by (t ∷ ts) z =
                  let d : way_by.choose k ≡ act a = rw (e, z) in
                  let m : Listed G (last k) a (v.picks k a) = v.listed k a (t, rw z (Memᴰ.head refl)) in
                  let l = lands w.stands a (v.picks k a) (subst (λ (p : Place). Listed G p a (v.picks k a)) (sym (came_last w)) m) in
                  let s = shown_on k a (v.picks k a) w.late in
                  let came : Came (then k a (v.picks k a)) =
                  record {
                    late = let x = w.late in omega arith;
                    seen = rw (s, w.seen, l.there);
                    stands = rw s l.stands;
                  } in
                  let moves : after_turn k ≡ then H a (followed b (last H).state (last H).goal a (v.picks (played H) a).state) =
                  rw (live, e) in
                  let same =
                  ap (λ (g : Play Place). then H a (followed b (last H).state (last H).goal a (v.picks g a).state)) w.seen in
                  go_on a d came (moves ∙ (same ∙ sym s))

      -- so the one meets the goal where the other does
      caller_way : (n : ℕ) (k : Play Place) → Came k → Met b (last (turns_against b c v (shown k) n)) → Meets G way_by v k
      caller_way zero k w y = (0, subst (Accepted G) (came_last w) y.1)
      caller_way (suc n) k w y = start (either (G.accepted (last k))) (caller_way n)
        where
          Below : Type 0
          Below = (k : Play Place) → Came k → Met b (last (turns_against b c v (shown k) n)) → Meets G way_by v k

          go : Unmet G (last k) → Both k → Below → Meets G way_by v k
          go u (rest e e') rec = rec k w (rw e at y)
          go u (broken e e') rec =
              absurd (e (subst (λ (g : Play MovedFigures). (last g).refusal ≡ 0) (refused_stays c v n (after_turn k) e) y.0))
          go u (go_on a d x e) rec = meets_on G way_by v k a u d (rec (then k a (v.picks k a)) x (rw e at y))

          start : Accepted G (last k) ⊎ Unmet G (last k) → Below → Meets G way_by v k
          start (inl z) rec = (0, z)
          start (inr u) rec = go u (both k w u) rec

      way_caller : (n : ℕ) (k : Play Place) → Came k → Accepted G (last (against G way_by v k n)) → MeetsBy b c v (shown k)
      way_caller zero k w y = (0, (w.stands.answered, subst (Accepted G) (sym (came_last w)) y))
      way_caller (suc n) k w y = start (either (G.accepted (last k))) (way_caller n)
        where
          Below : Type 0
          Below = (k : Play Place) → Came k → Accepted G (last (against G way_by v k n)) → MeetsBy b c v (shown k)

          go : Unmet G (last k) → Both k → Below → MeetsBy b c v (shown k)
          go u (rest e e') rec = rec k w (rw e' at y)
          go u (broken e e') rec = rec k w (rw e' at y)
          go u (go_on a d x e) rec =
              let r = rec (then k a (v.picks k a)) x (rw (against_on G way_by v k a u d) at y) in
              (suc r.0, rw e r.1)

          start : Accepted G (last k) ⊎ Unmet G (last k) → Below → MeetsBy b c v (shown k)
          start (inl z) rec = (0, (w.stands.answered, subst (Accepted G) (sym (came_last w)) z))
          start (inr u) rec = go u (both k w u) rec

  -- For each caller, and whatever run of calls came before, there is a way of choosing that meets the goal against the same behaviours.
  pub caller_ways : (c : Caller) (h : Play MovedFigures) → Stands b (last h)
      → (τ : Way G) × ((v : Behaviour G) → MeetsBy b c v h ↔ Meets G τ v (played h))
  caller_ways c h s = (
    way_by c h,
    λ v. (
      λ m. caller_way c h v m.0 (played h) (came_begin c h s)
          (subst (λ (g : Play MovedFigures). Met b (last (turns_against b c v g m.0))) (sym (shown_played c h)) m.1),
      λ m. subst (MeetsBy b c v) (shown_played c h) (way_caller c h v m.0 (played h) (came_begin c h s) m.1),
    ),
  )

-- a caller who stops stays
stopped_by : (b : List ℕ) (c : Caller) (v : Behaviour (arena (said b))) (h : Play MovedFigures) → c h ≡ stop → (n : ℕ)
    → turns_against b c v h n ≡ h
stopped_by b c v h q zero = refl
stopped_by b c v h q (suc n) =
    let s : turn b c h (observed b v (c h) h) ≡ h = go (eqb (last h).refusal 0) refl in
    ap (λ (k : Play MovedFigures). turns_against b c v k n) s ∙ stopped_by b c v h q n
  where
    go : (x : Bool) → eqb (last h).refusal 0 ≡ x → turn b c h (observed b v (c h) h) ≡ h
    go true e = rw (e, q)
    go false e = rw e

-- ---- the loop does what the plan says

module _ {b before after : List ℕ} (done : Planning b before (only 0) after) where
  abbrev A : Arena
  A = arena (said b)

  L : Lawful A
  L = arena_lawful b (keeps done)

  few : (said b).actions ≤ 255
  few = let h = (keeps done).few_actions in omega arith

  abbrev plan : Place → Entry
  plan = entry_of b after

  abbrev loop : Caller
  loop = heeds b after

  module _ (v : Behaviour A) (σ : Way A) where
    -- one turn of the loop is one move of who follows the plan
    module _ (h : Play MovedFigures) (s : Stands b (last h)) (follows : Follows A plan σ (played h)) where
      abbrev turned : Play MovedFigures
      turned = turn b loop h (observed b v (loop h) h)

      abbrev next : Play Place
      next = advance A σ (played h) (reply A v (σ.choose (played h)) (played h))

      abbrev Same : Type 0
      Same = Stands b (last turned) × (played turned ≡ next)

      live : eqb (last h).refusal 0 ≡ true
      live = eq-eqb (last h).refusal 0 s.answered

      heeded : loop h ≡ cond (eqb (plan (at (last h))).action 255) stop (act (plan (at (last h))).action)
      heeded = rw (told_entry done h s)

      stays : loop h ≡ stop → next ≡ played h → Same
      stays e e' =
          let x : turned ≡ h = rw (live, e) in
          (subst (λ (g : Play MovedFigures). Stands b (last g)) (sym x) s, ap played x ∙ sym e')

      moves : (a : ℕ) → loop h ≡ act a → σ.choose (played h) ≡ act a → Unmet A (last (played h)) → Open A (last (played h)) a → Same
      moves a e d u o =
          let t = v.picks (played h) a in
          let m = subst (λ (p : Place). Listed A p a t) (played_last h) (v.listed (played h) a o) in
          let l = lands b (keeps done) s a t m in
          let x : turned ≡ then h a (followed b (last h).state (last h).goal a t.state) = rw (live, e) in (
            subst (λ (g : Play MovedFigures). Stands b (last g)) (sym x) l.stands,
            ap played x ∙ (ap (then (played h) a) l.there ∙ sym (against_on A σ v (played h) a u d)),
          )

      loop_step : Same
      loop_step = go (either (A.accepted (last (played h))))
        where
          by : Unmet A (last (played h)) → Open A (at (last h)) (plan (at (last h))).action ⊎ ((plan (at (last h))).action ≡ 255) → Same
          by u z =
              let (o, y) = some_obeys A σ (played h) in
              let c : σ.choose (played h) ≡ cond (eqb (plan (at (last h))).action 255) stop (act (plan (at (last h))).action) =
              subst (λ (p : Place). σ.choose (played h) ≡ cond (eqb (plan p).action 255) stop (act (plan p).action)) (played_last h)
              (follows o y 0 u) in
              then_by c z
            where
              then_by : σ.choose (played h) ≡ cond (eqb (plan (at (last h))).action 255) stop (act (plan (at (last h))).action)
                  → Open A (at (last h)) (plan (at (last h))).action ⊎ ((plan (at (last h))).action ≡ 255) → Same
              then_by c (inl o) =
                  let n = open_named A L few o in
                  moves (plan (at (last h))).action (heeded ∙ rw n) (c ∙ rw n) u
                  (subst (λ (p : Place). Open A p (plan (at (last h))).action) (sym (played_last h)) o)
              then_by c (inr e) =
                  let n = eq-eqb (plan (at (last h))).action 255 e in
                  let d : σ.choose (played h) ≡ stop = c ∙ rw n in
                  stays (heeded ∙ rw n) (rw (u, d))

          go : Accepted A (last (played h)) ⊎ Unmet A (last (played h)) → Same
          go (inl y) =
              let e = right_unique A L (entry_right done h s) (met (subst (Accepted A) (played_last h) y)) in
              stays (heeded ∙ rw (ap (λ (x : Entry). x.action) e)) (met_stays A σ (played h) y (reply A v (σ.choose (played h)) (played h)))
          go (inr u) = by u (allowed_named A L few (right_allowed A (entry_right done h s)))

    -- What the loop does against a behaviour is what whoever follows the plan does: turn by turn the same play, and no move refused.
    pub loop_plays : (n : ℕ) (h : Play MovedFigures) → Stands b (last h) → Follows A plan σ (played h)
        → Stands b (last (turns_against b loop v h n)) × (played (turns_against b loop v h n) ≡ against A σ v (played h) n)
    loop_plays zero h s f = (s, refl)
    loop_plays (suc n) h s f =
        let (t, e) = loop_step h s f in
        let g = against_follows A σ v plan (played h) f 1 in
        let (r, q) = loop_plays n (turn b loop h (observed b v (loop h) h)) t (subst (Follows A plan σ) (sym e) g) in
        (r, q ∙ ap (λ (k : Play Place). against A σ v k n) e)

  module _ (h : Play MovedFigures) (s : Stands b (last h)) where
    -- so the loop meets the goal against the behaviours that the plan meets it against
    pub loop_meets : (σ : Way A) → Follows A plan σ (played h) → (v : Behaviour A) → MeetsBy b loop v h ↔ Meets A σ v (played h)
    loop_meets σ f v = (there, back)
      where
        there : MeetsBy b loop v h → Meets A σ v (played h)
        there (n, y) =
            let (t, e) = loop_plays v σ n h s f in
            (n, subst (Accepted A) (sym (played_last (turns_against b loop v h n)) ∙ ap last e) y.1)

        back : Meets A σ v (played h) → MeetsBy b loop v h
        back (n, y) =
            let (t, e) = loop_plays v σ n h s f in
            (n, (t.answered, subst (Accepted A) (sym (ap last e) ∙ played_last (turns_against b loop v h n)) y))

    -- A caller who does at least as well as the loop against every behaviour does no better against any:
    pub none_better_by : (c : Caller) → DominatesBy b c loop h → DominatesBy b loop c h
    none_better_by c d v m =
        let i = subst (Inside A) (sym (played_last h)) (stands_inside b s) in
        let (σ, f) = demand_3_ways done (played h) i in
        let (τ, same) = caller_ways b (keeps done) c h s in
        let better : Dominates A τ σ (played h) = λ v k. (same v).0 (d v ((loop_meets σ f v).1 k)) in
        (loop_meets σ f v).1 (none_better_after done (played h) i σ f τ better v ((same v).0 m))

    -- no caller does at least as well as the loop against every behaviour of the cabinet, and better against one.
    pub nothing_better_by : (c : Caller) → BetterBy b c loop h → ⊥
    nothing_better_by c d = d.missed (none_better_by c d.never_worse d.once d.met)

    -- Where advice says pending, some behaviour defeats every caller, and against some behaviour the loop meets the goal;
    pub pending_by : (told b after h).value ≡ 1
        → ((v : Behaviour A) × ((c : Caller) → MeetsBy b c v h → ⊥)) × ((v : Behaviour A) × MeetsBy b loop v h)
    pending_by e =
        let i = subst (Inside A) (sym (played_last h)) (stands_inside b s) in
        let (σ, f) = demand_3_ways done (played h) i in
        let x = ap (λ (g : AdvisedFigures). g.value) (sym (told_entry done h s)) ∙ e in
        let ((v, none), (w, m)) = pending_worth done (played h) i σ f (subst (λ (p : Place). (plan p).value ≡ 1) (sym (played_last h)) x) in (
          (v, λ c k. let (τ, same) = caller_ways b (keeps done) c h s in none τ ((same v).0 k)),
          (w, (loop_meets σ f w).1 m),
        )

    -- so the loop is better than whoever stops there.
    pub stopping_bettered : (told b after h).value ≡ 1 → (c : Caller) → c h ≡ stop → BetterBy b loop c h
    stopping_bettered e c q =
        let ((v, none), (w, m)) = pending_by e in
        let unmet : (u : Behaviour A) → MeetsBy b c u h → ⊥ =
        λ u k. none c (0, subst (λ (g : Play MovedFigures). Met b (last g)) (stopped_by b c u h q k.0) k.1) in
        record { never_worse = λ u k. absurd (unmet u k); once = w; met = m; missed = unmet w }

  -- From the start, as the loop of the header goes, whoever else calls:
  pub nothing_better_from_start : (c : Caller) → BetterBy b c loop (begin (started b)) → ⊥
  nothing_better_from_start = nothing_better_by (begin (started b)) (start_stands done)
