-- The turns of the loop of calls with slips of the arm, on plans that planning left: what the cabinet does within the rules is a move of whoever
-- follows the plans, and each listed outcome is what some cabinet within the rules does.
use Prim.Native.Nat.{ℕ, zero, suc, ◌+◌, ◌-◌, ◌≤◌, ◌<◌}
use mathlib.Core.Bool.{Bool, true, false, cond}
use mathlib.Core.List.{List}
use mathlib.Core.Logic.{◌⊎◌, inl, inr, ◌≢◌}
use mathlib.Core.Path.{◌≡◌, refl, sym, ap, ◌∙◌, subst}
use native.Mathlib.Omega.{arith}
use borrow.Author.Tests.{eq-eqb, ne_eqb, eqb-true, eqb-false}
use lib.Dec.{eqb}
use Rattle.game.specs.Game.{Arena, Play, begin, then, last, made, Choice, stop, act, Inside, Listed, Open, Accepted, Unmet, Lawful, Way}
use Rattle.game.specs.Game.{advance, run, Obeys, Follows, Right, met}
use Rattle.game.specs.declared.entry.Entry.{Entry}
use Rattle.rules.specs.Job.{place, recorded, arena}
use Rattle.rules.specs.Fault.{only}
use Rattle.rules.specs.Bytes.{said}
use Rattle.rules.specs.Keeps.{Keeps}
use Rattle.rules.specs.Answers.{MovedFigures}
use Rattle.rules.specs.Calls.{followed, advice_of}
use Rattle.rules.specs.declared.place.Place.{Place}
use Rattle.larger.specs.Larger.{Watched, watched, unwatched, watching}
use Rattle.larger.specs.Plans.{Trembling}
use Rattle.game.proofs.Search.{either, clash}
use Rattle.game.proofs.Plays.{some_obeys, met_stays}
use Rattle.game.proofs.Right.{right_unique}
use Rattle.game.proofs.Following.{right_allowed, allowed_named, open_named, follows_then}
use Rattle.rules.proofs.Arenas.{inside_iff, arena_lawful}
use Rattle.larger.proofs.Slipping.{inside_watching, watching_iff, watching_lawful}
use Rattle.larger.proofs.Trembled.{larger_entry, trembled_exactly, watched_right}
use Rattle.larger.proofs.Advising.{advice_trembled}
use Rattle.cabinet.proofs.Starting.{followed_when, recorded_followed}
use Rattle.cabinet.proofs.Turns.{stands_inside, followed_stands}
use Rattle.cabinet.proofs.ArmSlips.{move_followed, followed_named, followed_slip}
use Rattle.arm_loop.specs.Loop.{Deed, Seen, Cabinet, spot, played_slips, left_after, May, after_deed, StandsSlips, told_slips, names}
use Rattle.arm_loop.specs.Loop.{turn_slips, turns_slips, InRules, led}

-- ---- the play that a run of calls is

pub played_last : (h : Play Seen) → last (played_slips h) ≡ spot (last h)
played_last (begin x) = refl
played_last (then h a x) = refl

pub played_made : (h : Play Seen) → made (played_slips h) ≡ made h
played_made (begin x) = refl
played_made (then h a x) = ap suc (played_made h)

-- the last of n + 1 moves
run_next : (G : Arena) (σ : Way G) (n : ℕ) (o : ℕ → G.Place) (h : Play G.Place)
    → run G σ o h (suc n) ≡ advance G σ (run G σ o h n) (o n)
run_next G σ zero o h = refl
run_next G σ (suc n) o h = run_next G σ n (λ i. o (suc i)) (advance G σ h (o zero))

module _ {b before after : List ℕ} {K : ℕ} (done : Trembling b K before (only 0) after) where
  pub keeps : Keeps b
  keeps = ((trembled_exactly done).0 refl).0

  pub few : (said b).actions ≤ 255
  few = let h = keeps.few_actions in omega arith

  abbrev G : Arena
  G = arena (said b)

  -- the game that the chooser sees
  abbrev W : Arena
  W = watching (arena (said b)) K

  L : Lawful G
  L = arena_lawful b keeps

  LW : Lawful W
  LW = watching_lawful G L K

  abbrev plans : Watched Place → Entry
  plans x = larger_entry b after (unwatched x)

  abbrev loop : Play Seen → Choice
  loop = names b K after

  -- ---- what the loop is told where it stands

  pub stands_watched : {x : Seen} → StandsSlips b K x → Inside W (spot x)
  stands_watched {x} s = (inside_watching G L K (spot x)).1 (stands_inside b s.stands, s.left, s.known)

  pub entry_right : {x : Seen} → StandsSlips b K x → Right W (spot x) (plans (spot x))
  entry_right {x} s = watched_right done (spot x) (stands_watched s)

  pub told_entry : (h : Play Seen) → StandsSlips b K (last h) → told_slips b K after h ≡ advice_of (plans (spot (last h)))
  told_entry h s =
      let (hs, hq) = (inside_iff (said b) (spot (last h)).at).0 (stands_inside b s.stands) in
      advice_trembled done (last h).slips (last h).at.state (last h).at.goal s.left hs hq

  loop_entry : (h : Play Seen) → StandsSlips b K (last h)
      → loop h ≡ cond (eqb (plans (spot (last h))).action 255) stop (act (plans (spot (last h))).action)
  loop_entry h s = rw (eq-eqb (last h).at.refusal 0 s.stands.answered, told_entry h s)

  -- ---- what the cabinet does within the rules is a move of the game

  module _ {x : Seen} (s : StandsSlips b K x) (a : ℕ) (o : Open G (spot x).at a) (d : Deed) (m : May b x a d) where
    taken : (followed b x.at.state x.at.goal d.done d.outcome).refusal ≡ 0
    taken =
        ap (λ (f : MovedFigures). f.refusal)
        (recorded_followed b x.at.state x.at.goal d.done d.outcome keeps s.stands.on_place m.listed)

    pub may_listed : Listed W (spot x) a (spot (after_deed b x a d))
    may_listed = go (eqb d.done a) refl m.slip
      where
        go : (z : Bool) → eqb d.done a ≡ z → (d.done ≡ a) ⊎ (0 < x.slips) → Listed W (spot x) a (spot (after_deed b x a d))
        go true e c =
            let q = eqb-true d.done a e in
            rw e (followed_named b keeps K x.at.state x.at.goal a d.done d.outcome x.slips x.done o taken q)
        go false e (inl q) = absurd (eqb-false d.done a e q)
        go false e (inr l) =
            let i = x.slips - 1 in
            let k : suc i ≡ x.slips = omega arith in
            let q = eqb-false d.done a e in
            rw e
            (subst (λ (n : ℕ). Listed W (watched n x.done (spot x).at) a (watched i d.done (spot (after_deed b x a d)).at)) k
            (followed_slip b keeps K x.at.state x.at.goal a d.done d.outcome i x.done o taken q))

    pub may_stands : StandsSlips b K (after_deed b x a d)
    may_stands =
        let y = after_deed b x a d in
        let (i, k, c) = (inside_watching G L K (spot y)).0 (LW.closed (spot x) (spot y) a (stands_watched s) may_listed) in
        record { stands = followed_stands b x.at.state x.at.goal d.done d.outcome taken; left = k; known = c }

  -- ---- one turn

  module _ (σ : Way W) where
    -- the loop names what whoever follows the plans names: neither names any, or both name the same open action
    data Both (h : Play Seen) : Type 0 where
      none_named : loop h ≡ stop → ((t : Watched Place) → advance W σ (played_slips h) t ≡ played_slips h)
          → ((a : ℕ) → Unmet W (last (played_slips h)) → σ.choose (played_slips h) ≡ act a → ⊥) → Both h
      named : (a : ℕ) → loop h ≡ act a → Unmet W (last (played_slips h)) → σ.choose (played_slips h) ≡ act a → Open G (spot (last h)).at a → Both h

    both : (h : Play Seen) → StandsSlips b K (last h) → Follows W plans σ (played_slips h) → Both h
    both h s f = go (either (W.accepted (last (played_slips h))))
      where
        x : Entry
        x = plans (spot (last h))

        by : Unmet W (last (played_slips h)) → σ.choose (played_slips h) ≡ cond (eqb x.action 255) stop (act x.action)
            → Open W (spot (last h)) x.action ⊎ (x.action ≡ 255) → Both h
        by u c (inl o) =
            let n = open_named W LW few {p = spot (last h)} {a = x.action} o in
            let (g, m) = (watching_iff G L K (spot (last h)) o.0 x.action).0 o.1 in
            named x.action (loop_entry h s ∙ rw n) u (c ∙ rw n) g
        by u c (inr e) =
            let n = eq-eqb x.action 255 e in
            let d : σ.choose (played_slips h) ≡ stop = c ∙ rw n in
            none_named (loop_entry h s ∙ rw n) (λ t. rw (u, d)) (λ a v q. let z : ◌≡◌ {A = ℕ} 0 1 = cc in omega arith)

        go : Accepted W (last (played_slips h)) ⊎ Unmet W (last (played_slips h)) → Both h
        go (inl y) =
            let e = right_unique W LW (entry_right s) (met (subst (Accepted W) (played_last h) y)) in
            none_named (loop_entry h s ∙ rw (ap (λ (z : Entry). z.action) e)) (met_stays W σ (played_slips h) y) (λ a u q. clash y u)
        go (inr u) =
            let (o, z) = some_obeys W σ (played_slips h) in
            let c = subst (λ (p : Watched Place). σ.choose (played_slips h) ≡ cond (eqb (plans p).action 255) stop (act (plans p).action))
            (played_last h) (f o z 0 u) in
            by u c (allowed_named W LW few (right_allowed W (entry_right s)))

    -- a turn leaves all as it is, or makes the move of whoever follows the plans
    data Turned (v : Cabinet) (h : Play Seen) : Type 0 where
      stays : turn_slips b K after v h ≡ h → ((t : Watched Place) → advance W σ (played_slips h) t ≡ played_slips h)
          → ((a : ℕ) → Unmet W (last (played_slips h)) → σ.choose (played_slips h) ≡ act a → ⊥) → Turned v h
      moves : (a : ℕ) (x : Seen) → turn_slips b K after v h ≡ then h a x → StandsSlips b K x → Unmet W (last (played_slips h))
          → σ.choose (played_slips h) ≡ act a → Listed W (last (played_slips h)) a (spot x) → Turned v h

    turned : (v : Cabinet) (h : Play Seen) → StandsSlips b K (last h) → Follows W plans σ (played_slips h)
        → ((a : ℕ) → loop h ≡ act a → May b (last h) a (v h a)) → Turned v h
    turned v h s f r = go (both h s f)
      where
        go : Both h → Turned v h
        go (none_named e still none) = stays (rw e) still none
        go (named a e u c o) =
            let m = r a e in
            moves a (after_deed b (last h) a (v h a)) (rw e) (may_stands s a o (v h a) m) u c
            (subst (λ (p : Watched Place). Listed W p a (spot (after_deed b (last h) a (v h a)))) (sym (played_last h)) (may_listed s a o (v h a) m))

    -- ---- turn after turn

    -- what holds of each run of calls that comes about
    pub record Came (h : Play Seen) : Type 0 where
      pub stands : StandsSlips b K (last h)
      pub follows : Follows W plans σ (played_slips h)

    came_on : (v : Cabinet) (h : Play Seen) → Came h → ((a : ℕ) → loop h ≡ act a → May b (last h) a (v h a)) → Came (turn_slips b K after v h)
    came_on v h c r = go (turned v h c.stands c.follows r)
      where
        go : Turned v h → Came (turn_slips b K after v h)
        go (stays e still none) = rw e c
        go (moves a x e s u d m) =
            rw e (record { stands = s; follows = follows_then W plans σ (played_slips h) c.follows u d m })

    module _ (v : Cabinet) (h : Play Seen) (c : Came h) (r : InRules b K after v h) where
      abbrev at : ℕ → Play Seen
      at n = turns_slips b K after v h n

      pub came : (n : ℕ) → Came (at n)
      came zero = c
      came (suc n) = came_on v (at n) (came n) (r n)

      abbrev to : ℕ → Watched Place
      to = led b K after v h

      pub plays : (n : ℕ) → played_slips (at n) ≡ run W σ to (played_slips h) n
      plays zero = refl
      plays (suc n) =
          go (turned v (at n) (came n).stands (came n).follows (r n))
          ∙ (ap (λ (k : Play (Watched Place)). advance W σ k (to n)) (plays n) ∙ sym (run_next W σ n to (played_slips h)))
        where
          go : Turned v (at n) → played_slips (at (suc n)) ≡ advance W σ (played_slips (at n)) (to n)
          go (stays e still none) = ap played_slips e ∙ sym (still (to n))
          go (moves a x e s u d m) =
              let y : advance W σ (played_slips (at n)) (to n) ≡ then (played_slips (at n)) a (to n) = rw (u, d) in
              ap played_slips e ∙ (ap (λ (k : Play Seen). then (played_slips (at n)) a (spot (last k))) (sym e) ∙ sym y)

      pub obeys : Obeys W σ to (played_slips h)
      obeys n a =
          subst (λ (k : Play (Watched Place)). Unmet W (last k) → σ.choose k ≡ act a → Listed W (last k) a (to n)) (plays n)
          (go (turned v (at n) (came n).stands (came n).follows (r n)))
        where
          go : Turned v (at n) → Unmet W (last (played_slips (at n))) → σ.choose (played_slips (at n)) ≡ act a
              → Listed W (last (played_slips (at n))) a (to n)
          go (stays e still none) u q = absurd (none a u q)
          go (moves a' x e s u d m) u' q =
              let same : a' ≡ a = cc in
              rw e (rw same at m)

  -- ---- the other way round: listed outcomes are what some cabinet within the rules does

  abbrev deed : Watched Place → Deed
  deed y = record { done = y.done; outcome = y.at.state }

  -- a listed move is within the rules, and leads there
  record Fits (x : Seen) (a : ℕ) (y : Watched Place) : Type 0 where
    may : May b x a (deed y)
    there : spot (after_deed b x a (deed y)) ≡ y

  fits : {x : Seen} → StandsSlips b K x → (a : ℕ) (y : Watched Place) → Listed W (spot x) a y → Fits x a y
  fits {x} s a y m =
      let (e, c) = move_followed b keeps K (spot x) y a (stands_watched s) m in
      let rec = followed_when b x.at.state x.at.goal y.done y.at.state
      (λ f. recorded (said b) x.at.state y.done y.at.state ≡ true) (λ k p r. r) (ap (λ (f : MovedFigures). f.refusal) e) in
      record {
        may = record { slip = slip c; listed = rec };
        there = λ i. watched (left c i) y.done (place (e i).state (e i).goal);
      }
    where
      Cases : Type 0
      Cases = ((y.done ≡ a) × (y.slips ≡ x.slips)) ⊎ ((y.done ≢ a) × (suc y.slips ≡ x.slips))

      slip : Cases → (y.done ≡ a) ⊎ (0 < x.slips)
      slip (inl (q, k)) = inl q
      slip (inr (q, k)) = inr (omega arith)

      left : Cases → left_after x.slips a y.done ≡ y.slips
      left (inl (q, k)) = rw (eq-eqb y.done a q) (sym k)
      left (inr (q, k)) = rw (ne_eqb y.done a q) (omega arith)

  module _ (σ : Way W) (h : Play Seen) (c : Came σ h) (o : ℕ → Watched Place) (listed : Obeys W σ o (played_slips h)) where
    -- the cabinet that goes by the number of the turn
    pub by_number : Cabinet
    by_number g a = deed (o (made g - made h))

    abbrev then_at : ℕ → Play Seen
    then_at n = turns_slips b K after by_number h n

    -- after n turns: the play is that with the outcomes o, of n moves if the loop has not stopped
    pub record Went (n : ℕ) : Type 0 where
      pub came_to : Came σ (then_at n)
      pub same : played_slips (then_at n) ≡ run W σ o (played_slips h) n
      pub pace : (made (then_at n) ≡ made h + n) ⊎ (loop (then_at n) ≡ stop)

    -- in that turn the cabinet does what o says
    does : (n a : ℕ) → Went n → Unmet W (last (played_slips (then_at n))) → σ.choose (played_slips (then_at n)) ≡ act a
        → loop (then_at n) ≡ act a
        → Fits (last (then_at n)) a (o n) × (by_number (then_at n) a ≡ deed (o n)) × (made (then_at n) ≡ made h + n)
    unfolding by_number
    does n a w u d e = go w.pace
      where
        near : Listed W (spot (last (then_at n))) a (o n)
        near =
            subst (λ (p : Watched Place). Listed W p a (o n)) (played_last (then_at n))
            (subst (λ (k : Play (Watched Place)). Unmet W (last k) → σ.choose k ≡ act a → Listed W (last k) a (o n)) (sym w.same)
            (listed n a) u d)

        go : (made (then_at n) ≡ made h + n) ⊎ (loop (then_at n) ≡ stop)
            → Fits (last (then_at n)) a (o n) × (by_number (then_at n) a ≡ deed (o n)) × (made (then_at n) ≡ made h + n)
        go (inl p) =
            let z : made (then_at n) - made h ≡ n = omega arith in
            (fits w.came_to.stands a (o n) near, ap (λ (i : ℕ). deed (o i)) z, p)
        go (inr q) = let z : ◌≡◌ {A = ℕ} 0 1 = cc in absurd (omega arith)

    within : (n : ℕ) → Went n → (a : ℕ) → loop (then_at n) ≡ act a → May b (last (then_at n)) a (by_number (then_at n) a)
    within n w a e = go (both σ (then_at n) w.came_to.stands w.came_to.follows)
      where
        go : Both σ (then_at n) → May b (last (then_at n)) a (by_number (then_at n) a)
        go (none_named q still none) = let z : ◌≡◌ {A = ℕ} 0 1 = cc in absurd (omega arith)
        go (named a' q u d g) =
            let z : a' ≡ a = cc in
            let (f, y, p) = does n a w u (rw z at d) e in
            rw y f.may

    went_on : (n : ℕ) → Went n → Went (suc n)
    went_on n w = go (both σ (then_at n) w.came_to.stands w.came_to.follows)
      where
        came_next : Came σ (then_at (suc n))
        came_next = came_on σ by_number (then_at n) w.came_to (within n w)

        moved : played_slips (then_at (suc n)) ≡ advance W σ (played_slips (then_at n)) (o n)
            → played_slips (then_at (suc n)) ≡ run W σ o (played_slips h) (suc n)
        moved e = e ∙ (ap (λ (k : Play (Watched Place)). advance W σ k (o n)) w.same ∙ sym (run_next W σ n o (played_slips h)))

        go : Both σ (then_at n) → Went (suc n)
        go (none_named q still none) =
            let e : then_at (suc n) ≡ then_at n = rw q in
            record { came_to = came_next; same = moved (ap played_slips e ∙ sym (still (o n))); pace = inr (ap loop e ∙ q) }
        go (named a q u d g) =
            let (f, y, p) = does n a w u d q in
            let x = after_deed b (last (then_at n)) a (deed (o n)) in
            let e : then_at (suc n) ≡ then (then_at n) a x = rw (q, y) in
            let l : advance W σ (played_slips (then_at n)) (o n) ≡ then (played_slips (then_at n)) a (o n) = rw (u, d) in
            record {
              came_to = came_next;
              same = moved (ap played_slips e ∙ (ap (then (played_slips (then_at n)) a) f.there ∙ sym l));
              pace = inl (ap made e ∙ omega arith);
            }

    pub went : (n : ℕ) → Went n
    went zero = record { came_to = c; same = refl; pace = inl (omega arith) }
    went (suc n) = went_on n (went n)

    pub by_number_rules : InRules b K after by_number h
    by_number_rules n = within n (went n)
