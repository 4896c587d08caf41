-- The loop of calls with slips of the arm, on plans that planning left: no call is refused, turn by turn it makes the play of whoever follows the
-- plans, and from where advice says winning the goal is met in time, whatever the cabinet does within the rules.
use Prim.Native.Nat.{ℕ, zero, suc, ◌+◌, ◌≤◌, ◌<◌}
use mathlib.Core.List.{List}
use mathlib.Core.Logic.{inl, inr, ◌↔◌}
use mathlib.Core.Path.{◌≡◌, refl, sym, ap, ◌∙◌, subst}
use native.Mathlib.Omega.{arith}
use borrow.Author.Tests.{eq-eqb, eqb-false}
use Rattle.game.specs.Game.{Arena, Play, then, last, made, Choice, stop, act, says, Inside, Accepted, Lawful, Way}
use Rattle.game.specs.Game.{run, Obeys, Follows, Winning, Right, lost, met, wins, hopes}
use Rattle.game.specs.Demands.{WinningKept, PendingKept}
use Rattle.game.specs.Visits.{Goes}
use Rattle.game.specs.declared.entry.Entry.{Entry}
use Rattle.rules.specs.Job.{start, arena}
use Rattle.rules.specs.Fault.{Fault, only}
use Rattle.rules.specs.Bytes.{refusal, said}
use Rattle.rules.specs.Answers.{AdvisedFigures}
use Rattle.rules.specs.Calls.{moved_to, started, advice_of}
use Rattle.rules.specs.declared.place.Place.{Place}
use Rattle.larger.specs.Larger.{Watched, unwatched, watching}
use Rattle.larger.specs.Plans.{Trembling}
use Rattle.game.proofs.Search.{clash, least_unique}
use Rattle.game.proofs.Hopes.{wins_winning}
use Rattle.game.proofs.Visiting.{run_goes}
use Rattle.game.proofs.Right.{right_unique}
use Rattle.game.proofs.Following.{right_allowed, says_wins, open_named}
use Rattle.rules.proofs.Kept.{kept}
use Rattle.rules.proofs.Arenas.{arena_lawful, start_inside}
use Rattle.larger.proofs.Slipping.{watching_iff, watching_lawful}
use Rattle.larger.proofs.Trembled.{larger_entry, trembled_plainly, watched_told, watched_followable, watched_wins, watched_hopes}
use Rattle.cabinet.specs.Figures.{figures_planned}
use Rattle.cabinet.specs.declared.calls.PlannedFigures.{PlannedFigures}
use Rattle.cabinet.specs.Playing.{Met}
use Rattle.cabinet.proofs.Turns.{inside_stands}
use Rattle.arm_loop.specs.Loop.{Seen, Cabinet, spot, played_slips, May, after_deed, StandsSlips, begun, told_slips, names}
use Rattle.arm_loop.specs.Loop.{turn_slips, turns_slips, InRules, led, NoneRefused, WinningSlips, PendingSlips, EndSlips, LoopKept, FromStart}
use Rattle.arm_loop.proofs.Turning.{played_last, played_made, keeps, few, stands_watched, entry_right, told_entry, Came, came, plays, obeys}
use Rattle.arm_loop.proofs.Turning.{may_listed, may_stands, by_number, went, by_number_rules}

module _ {b before after : List ℕ} {K : ℕ} (done : Trembling b K before (only 0) after) where
  -- the game that the chooser sees
  abbrev W : Arena
  W = watching (arena (said b)) K

  LW : Lawful W
  LW = watching_lawful (arena (said b)) (arena_lawful b (keeps done)) K

  abbrev plans : Watched Place → Entry
  plans x = larger_entry b after (unwatched x)

  module _ (h : Play Seen) (s : StandsSlips b K (last h)) where
    inside : Inside W (last (played_slips h))
    inside = subst (Inside W) (sym (played_last h)) (stands_watched done s)

    -- No call of the loop is refused, and turn by turn it makes the play of whoever follows the plans, whatever the cabinet does within the rules.
    module _ (σ : Way W) (f : Follows W plans σ (played_slips h)) (v : Cabinet) (r : InRules b K after v h) where
      came_here : Came done σ h
      came_here = record { stands = s; follows = f }

      pub loop_stands_slips : (n : ℕ) → StandsSlips b K (last (turns_slips b K after v h n))
      loop_stands_slips n = (came done σ v h came_here r n).stands

      pub loop_plays_slips : (n : ℕ) → played_slips (turns_slips b K after v h n) ≡ run W σ (led b K after v h) (played_slips h) n
      loop_plays_slips = plays done σ v h came_here r

      pub loop_obeys_slips : Obeys W σ (led b K after v h) (played_slips h)
      loop_obeys_slips = obeys done σ v h came_here r

    -- so its turns are moves of the game, whoever looks on
    pub loop_goes_slips : (v : Cabinet) → InRules b K after v h → (n : ℕ) → Goes W (played_slips h) (played_slips (turns_slips b K after v h n))
    loop_goes_slips v r n =
        let (σ, f) = watched_followable done (played_slips h) inside in
        subst (Goes W (played_slips h)) (sym (loop_plays_slips σ f v r n))
        (run_goes W σ n (played_slips h) (led b K after v h) (loop_obeys_slips σ f v r))

    pub loop_answered_slips : NoneRefused b K after h
    loop_answered_slips v r n =
        let (σ, f) = watched_followable done (played_slips h) inside in
        let t = loop_stands_slips σ f v r n in
        (t, ap (λ (x : AdvisedFigures). x.refusal) (told_entry done (turns_slips b K after v h n) t))

    -- what advice says at h is what the plans say of the play's last place
    told_value : (plans (last (played_slips h))).value ≡ (told_slips b K after h).value
    told_value = ap (λ (p : Watched Place). (plans p).value) (played_last h) ∙ sym (ap (λ (x : AdvisedFigures). x.value) (told_entry done h s))

    told_number : (plans (last (played_slips h))).number ≡ (told_slips b K after h).number
    told_number = ap (λ (p : Watched Place). (plans p).number) (played_last h) ∙ sym (ap (λ (x : AdvisedFigures). x.number) (told_entry done h s))

  -- where advice says winning, in the words of the game
  told_winning : (g : Play Seen) → StandsSlips b K (last g) → ((told_slips b K after g).value ≡ 2) ↔ Winning W (last (played_slips g))
  told_winning g t =
      let w = (watched_told done (last (played_slips g)) (inside g t)).winning in
      (λ e. w.0 (told_value g t ∙ e), λ y. sym (told_value g t) ∙ w.1 y)

  met_accepted : (g : Play Seen) → StandsSlips b K (last g) → Met b (last g).at ↔ Accepted W (last (played_slips g))
  met_accepted g t =
      (λ m. subst (Accepted W) (sym (played_last g)) m.1, λ y. (t.stands.answered, subst (Accepted W) (played_last g) y))

  met_told : (g : Play Seen) → StandsSlips b K (last g) → Accepted W (last (played_slips g)) → told_slips b K after g ≡ advice_of (says 2 255 0)
  met_told g t y =
      told_entry done g t ∙ ap advice_of (right_unique W LW (entry_right done t) (met (subst (Accepted W) (played_last g) y)))

  -- one turn from where advice says winning leads to where it says winning with a smaller number
  abbrev Nearer : Play Seen → Play Seen → Type 0
  Nearer g k = ((told_slips b K after k).value ≡ 2) × ((told_slips b K after k).number < (told_slips b K after g).number)

  nearer_turn : (v : Cabinet) (g : Play Seen) → StandsSlips b K (last g) → ((a : ℕ) → names b K after g ≡ act a → May b (last g) a (v g a))
      → (told_slips b K after g).value ≡ 2 → (a : ℕ) → names b K after g ≡ act a → Nearer g (turn_slips b K after v g)
  nearer_turn v g t r q k e = go (entry_right done t) (told_entry done g t)
    where
      go : {x : Entry} → Right W (spot (last g)) x → told_slips b K after g ≡ advice_of x → Nearer g (turn_slips b K after v g)
      go (lost l) z = let k = sym (ap (λ (x : AdvisedFigures). x.value) z) ∙ q in absurd (omega arith)
      go (hopes p w i) z = let k = sym (ap (λ (x : AdvisedFigures). x.value) z) ∙ q in absurd (omega arith)
      go (met y) z =
          let k : names b K after g ≡ stop = rw (eq-eqb (last g).at.refusal 0 t.stands.answered, z) in
          let c : ◌≡◌ {A = ℕ} 0 1 = cc in absurd (omega arith)
      go (wins {a} {n} u w i) z =
          let j = open_named W LW (few done) {p = spot (last g)} {a = a} i.0.0 in
          let k : names b K after g ≡ act a = rw (eq-eqb (last g).at.refusal 0 t.stands.answered, z, j) in
          let (o, d) = (watching_iff (arena (said b)) (arena_lawful b (keeps done)) K (spot (last g)) i.0.0.0 a).0 i.0.0.1 in
          let x = after_deed b (last g) a (v g a) in
          let f : turn_slips b K after v g ≡ then g a x = rw k in
          let t' = may_stands done t a o (v g a) (r a k) in
          let (m, wins-x, less) = i.0.1 (spot x) (may_listed done t a o (v g a) (r a k)) in
          let two = (told_winning (then g a x) t').1 (wins_winning W LW m (spot x) wins-x) in
          let one = says_wins W LW (spot x) (right_allowed W (entry_right done t')) (told_value (then g a x) t' ∙ two) in
          let same = least_unique one wins-x in
          let there = told_number (then g a x) t' in
          let here = ap (λ (y : AdvisedFigures). y.number) z in
          rw f (two, omega arith)

  module _ (h : Play Seen) (s : StandsSlips b K (last h)) where
    abbrev number : ℕ
    number = (told_slips b K after h).number

    -- one who follows the plans
    abbrev σ : Way W
    σ = (watched_followable done (played_slips h) (inside h s)).0

    f : Follows W plans σ (played_slips h)
    f = (watched_followable done (played_slips h) (inside h s)).1

    -- Where advice says winning, the goal is met in time, whatever the cabinet does within the rules.
    pub loop_meets_slips : (told_slips b K after h).value ≡ 2 → WinningSlips b K after h
    loop_meets_slips e = record { met_within = within_number; nearer = closer; all_needed = needed }
      where
        known : WinningKept W plans σ (played_slips h)
        known = watched_wins done σ (played_slips h) f (inside h s) (told_value h s ∙ e)

        within_number : (v : Cabinet) → InRules b K after v h
            → Met b (last (turns_slips b K after v h number)).at
            × (told_slips b K after (turns_slips b K after v h number) ≡ advice_of (says 2 255 0))
        within_number v r =
            let g = turns_slips b K after v h number in
            let t = loop_stands_slips h s σ f v r number in
            let z = subst (λ (n : ℕ). Accepted W (last (run W σ (led b K after v h) (played_slips h) n))) (told_number h s)
            (known.met_within (led b K after v h) (loop_obeys_slips h s σ f v r)) in
            let y = subst (λ (k : Play (Watched Place)). Accepted W (last k)) (sym (loop_plays_slips h s σ f v r number)) z in
            ((met_accepted g t).1 y, met_told g t y)

        wins_still : (v : Cabinet) → InRules b K after v h → (n : ℕ) → (told_slips b K after (turns_slips b K after v h n)).value ≡ 2
        wins_still v r zero = e
        wins_still v r (suc n) = go (names b K after (turns_slips b K after v h n)) refl (wins_still v r n)
          where
            go : (c : Choice) → names b K after (turns_slips b K after v h n) ≡ c → (told_slips b K after (turns_slips b K after v h n)).value ≡ 2
                → (told_slips b K after (turns_slips b K after v h (suc n))).value ≡ 2
            go stop q w =
                let y : turns_slips b K after v h (suc n) ≡ turns_slips b K after v h n = rw q in
                ap (λ (g : Play Seen). (told_slips b K after g).value) y ∙ w
            go (act a) q w = (nearer_turn v (turns_slips b K after v h n) (loop_stands_slips h s σ f v r n) (r n) w a q).0

        closer : (v : Cabinet) → InRules b K after v h → (n a : ℕ) → names b K after (turns_slips b K after v h n) ≡ act a
            → Nearer (turns_slips b K after v h n) (turns_slips b K after v h (suc n))
        closer v r n a q = nearer_turn v (turns_slips b K after v h n) (loop_stands_slips h s σ f v r n) (r n) (wins_still v r n) a q

        needed : (v : Cabinet) × InRules b K after v h × ((m : ℕ) → m < number → Met b (last (turns_slips b K after v h m)).at → ⊥)
        needed =
            let (o, ob, unmet) = known.all_needed σ in
            let c : Came done σ h = record { stands = s; follows = f } in (
              by_number done σ h c o ob,
              by_number_rules done σ h c o ob,
              λ m l y.
                  let w = went done σ h c o ob m in
                  let x = (met_accepted (turns_slips b K after (by_number done σ h c o ob) h m) w.came_to.stands).0 y in
                  clash (subst (λ (k : Play (Watched Place)). Accepted W (last k)) w.same x) (unmet m (rw (told_number h s) l)),
            )

    -- Where it says pending, some cabinet within the rules brings the loop to a winning place in the number of turns, and none in fewer.
    pub loop_hopes_slips : (told_slips b K after h).value ≡ 1 → PendingSlips b K after h
    loop_hopes_slips e = record { reached_by = reached; none_fewer = fewest }
      where
        known : PendingKept W plans σ (played_slips h)
        known = watched_hopes done σ (played_slips h) f (inside h s) (told_value h s ∙ e)

        reached : (v : Cabinet) × InRules b K after v h × ((told_slips b K after (turns_slips b K after v h number)).value ≡ 2)
            × (made (turns_slips b K after v h number) ≡ made h + number)
        reached =
            let (o, ob, win, moved) = known.reached_by in
            let c : Came done σ h = record { stands = s; follows = f } in
            let v = by_number done σ h c o ob in
            let g = turns_slips b K after v h number in
            let w = went done σ h c o ob number in
            let y = subst (λ (n : ℕ). Winning W (last (run W σ o (played_slips h) n))) (told_number h s) win in
            let m = subst (λ (n : ℕ). made (run W σ o (played_slips h) n) ≡ made (played_slips h) + n) (told_number h s) moved in (
              v,
              by_number_rules done σ h c o ob,
              (told_winning g w.came_to.stands).1 (subst (λ (k : Play (Watched Place)). Winning W (last k)) (sym w.same) y),
              sym (played_made g) ∙ (ap made w.same ∙ (m ∙ ap (λ (i : ℕ). i + number) (played_made h))),
            )

        fewest : (v : Cabinet) → InRules b K after v h → (n : ℕ) → (told_slips b K after (turns_slips b K after v h n)).value ≡ 2 → number ≤ n
        fewest v r n q =
            let g = turns_slips b K after v h n in
            let y = (told_winning g (loop_stands_slips h s σ f v r n)).0 q in
            rw (← told_number h s)
            (known.none_fewer σ (led b K after v h) n (loop_obeys_slips h s σ f v r)
            (subst (λ (k : Play (Watched Place)). Winning W (last k)) (loop_plays_slips h s σ f v r n) y))

    -- Where it names no action, the goal is met or lost.
    pub loop_ends_slips : (told_slips b K after h).action ≡ 255 → EndSlips b K after h
    loop_ends_slips e = go (entry_right done s) (told_entry done h s)
      where
        go : {x : Entry} → Right W (spot (last h)) x → told_slips b K after h ≡ advice_of x → EndSlips b K after h
        go (lost l) q = inr (ap (λ (x : AdvisedFigures). x.value) q, l)
        go (met y) q = inl (ap (λ (x : AdvisedFigures). x.value) q, (s.stands.answered, y))
        go (wins {a} {n} u w r) q =
            let o = open_named W LW (few done) {p = spot (last h)} {a = a} r.0.0 in
            absurd (eqb-false a 255 o (sym (ap (λ (x : AdvisedFigures). x.action) q) ∙ e))
        go (hopes {a} {n} p w r) q =
            let o = open_named W LW (few done) {p = spot (last h)} {a = a} (r.0.0, r.0.1) in
            absurd (eqb-false a 255 o (sym (ap (λ (x : AdvisedFigures). x.action) q) ∙ e))

    -- All that is promised of the loop, from any run of calls on that stands on a place:
    pub loop_kept_slips : LoopKept b K after h
    loop_kept_slips =
        record { none_refused = loop_answered_slips h s; winning = loop_meets_slips; pending = loop_hopes_slips; ended = loop_ends_slips }

  -- and so from the start, and after each turn then.
  pub start_stands_slips : StandsSlips b K (last (begun b K))
  start_stands_slips =
      let e : started b ≡ moved_to (start (said b)) = rw (eq-eqb (refusal b) 0 ((kept b).1 (keeps done))) in
      record { stands = rw e (inside_stands b (start_inside b (keeps done))); left = omega arith; known = omega arith }

  pub start_kept_slips : FromStart b K after
  start_kept_slips =
      record {
        at_once = loop_kept_slips (begun b K) start_stands_slips;
        later = λ v r n.
            loop_kept_slips (turns_slips b K after v (begun b K) n) (loop_answered_slips (begun b K) start_stands_slips v r n).0;
      }

-- Over the call that plans: where it does not refuse, the loop on what it left keeps what is promised.
pub call_kept_slips : {b before after : List ℕ} {K : ℕ} (r : PlannedFigures) → Trembling b K before (figures_planned r) after → r.refusal ≡ 0
    → FromStart b K after
call_kept_slips {b} {before} {after} {K} r t z =
    start_kept_slips (subst (λ (f : Fault). Trembling b K before f after) (trembled_plainly t z) t)
