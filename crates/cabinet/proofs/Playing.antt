-- The third demand over the calls: what is promised of the loop that asks advice, acts and follows, on a plan that planning left.
use Prim.Native.Nat.{ℕ, ◌+◌, ◌≤◌, ◌<◌}
use mathlib.Core.List.{List, Memᴰ}
use mathlib.Core.Logic.{◌⊎◌, inl, inr}
use mathlib.Core.Path.{◌≡◌, refl, sym, ap, ◌∙◌, subst}
use native.Mathlib.Nat.{le_of_suc-le-suc, lt_of_not-le}
use native.Mathlib.Omega.{arith}
use borrow.Author.Tests.{eq-eqb}
use lib.ListN.{length}
use Rattle.game.specs.Game.{Arena, Play, begin, last, made, says, Inside, Open, Accepted, Unmet, Lawful, Winning, WinsIn, HopesIn}
use Rattle.game.specs.Game.{Right, lost, met, wins, hopes}
use Rattle.rules.specs.Job.{place, start, arena}
use Rattle.rules.specs.Bytes.{refusal, said}
use Rattle.rules.specs.Fault.{only}
use Rattle.rules.specs.Answers.{MovedFigures, AdvisedFigures}
use Rattle.rules.specs.Calls.{Planning, moved_to, started, advice_of, advised}
use Rattle.rules.specs.declared.place.Place.{Place}
use Rattle.game.specs.declared.entry.Entry.{Entry}
use Rattle.game.proofs.Search.{clash}
use Rattle.game.proofs.Bounds.{wins_within}
use Rattle.game.proofs.Values.{accepted_winning}
use Rattle.game.proofs.Hopes.{wins_winning}
use Rattle.game.proofs.Right.{right_unique}
use Rattle.game.proofs.Following.{right_allowed, says_wins, says_hopes}
use Rattle.game.proofs.Visiting.{goes_hoped, goes_possible}
use Rattle.rules.proofs.Kept.{kept}
use Rattle.rules.proofs.Arenas.{start_inside, arena_lawful}
use Rattle.rules.proofs.Planned.{entry_of}
use Rattle.labelling.proofs.Demands.{values_told}
use Rattle.cabinet.specs.Playing.{Caller, turns, told, heeds, Stands, Met, AsListed, Guarantees, Allows}
use Rattle.cabinet.specs.Playing.{WinningPlayed, PendingPlayed, EndTold}
use Rattle.cabinet.proofs.Turns.{at, join, stands_inside, inside_stands, turns_go, turns_join, stays_on, allowed_answered}
use Rattle.cabinet.proofs.Callers.{caller_needs}
use Rattle.cabinet.proofs.Looping.{keeps, told_entry, entry_right, none_refused, meets, Reached, reaches}

module _ {b before after : List ℕ} (done : Planning b before (only 0) after) where
  abbrev G : Arena
  G = arena (said b)

  L : Lawful G
  L = arena_lawful b (keeps done)

  abbrev heeded_turns : (ℕ → ℕ) → Play MovedFigures → ℕ → Play MovedFigures
  heeded_turns o h n = turns b (heeds b after) o h n

  -- ---- starting, and standing

  -- The loop starts on a place;
  pub start_stands : Stands b (started b)
  start_stands =
      let e : started b ≡ moved_to (start (said b)) = rw (eq-eqb (refusal b) 0 ((kept b).1 (keeps done))) in
      subst (Stands b) (sym e) (inside_stands b (start_inside b (keeps done)))

  module _ (h : Play MovedFigures) (s : Stands b (last h)) where
    -- there advice is never refused,
    pub told_answered : (told b after h).refusal ≡ 0
    told_answered = ap (λ (f : AdvisedFigures). f.refusal) (told_entry done h s)

    -- and whoever calls, whatever is observed, a run stays on places or ends by refusal 11: an outcome that the table does not list.
    pub stays_standing : (c : Caller) (o : ℕ → ℕ) (n : ℕ) → Stands b (last (turns b c o h n)) ⊎ ((last (turns b c o h n)).refusal ≡ 11)
    stays_standing c o n = stays_on b c (keeps done) n o h s

    -- Advice says winning or pending there, or 0, 255, 0.
    pub told_kinds : ((told b after h).value ≡ 2) ⊎ (((told b after h).value ≡ 1) ⊎ (told b after h ≡ advice_of (says 0 255 0)))
    told_kinds = go (entry_right done h s) (told_entry done h s)
      where
        go : {x : Entry} → Right G (at (last h)) x → told b after h ≡ advice_of x
            → ((told b after h).value ≡ 2) ⊎ (((told b after h).value ≡ 1) ⊎ (told b after h ≡ advice_of (says 0 255 0)))
        go (lost k) q = inr (inr q)
        go (met y) q = inl (ap (λ (f : AdvisedFigures). f.value) q)
        go (wins u w r) q = inl (ap (λ (f : AdvisedFigures). f.value) q)
        go (hopes k w r) q = inr (inl (ap (λ (f : AdvisedFigures). f.value) q))

    number_told : (entry_of b after (at (last h))).number ≡ (told b after h).number
    number_told = ap (λ (f : AdvisedFigures). f.number) (sym (told_entry done h s))

    value_told : (v : ℕ) → (told b after h).value ≡ v → (entry_of b after (at (last h))).value ≡ v
    value_told v e = ap (λ (f : AdvisedFigures). f.value) (sym (told_entry done h s)) ∙ e

    -- where the goal is met advice says so
    pub met_told : Met b (last h) → told b after h ≡ advice_of (says 2 255 0)
    met_told y = told_entry done h s ∙ ap advice_of (right_unique G L (entry_right done h s) (met y.1))

    pub end_told : (told b after h).action ≡ 255 → EndTold b after h
    end_told e = go (entry_right done h s) (told_entry done h s)
      where
        unnamed : (a : ℕ) → Open G (at (last h)) a → a ≡ 255 → ⊥
        unnamed a (t, m) z = let c = L.counted (at (last h)) t a m in let f = (keeps done).few_actions in omega arith

        go : {x : Entry} → Right G (at (last h)) x → told b after h ≡ advice_of x → EndTold b after h
        go (lost k) q =
            record {
              either = inr (ap (λ (f : AdvisedFigures). f.value) q);
              met = λ v. let z : ◌≡◌ {A = ℕ} 0 2 = ap (λ (f : AdvisedFigures). f.value) (sym q) ∙ v in absurd (omega arith);
              lost = λ v c o n y. let w = turns_go b c n o h (begin (at (last h))) s refl y.0 in
                  k.1 (goes_possible G L w.goes (subst (Accepted G) (sym w.here) y.1));
            }
        go (met y) q =
            record {
              either = inl (ap (λ (f : AdvisedFigures). f.value) q);
              met = λ v. (s.answered, y);
              lost = λ v. let z : ◌≡◌ {A = ℕ} 2 0 = ap (λ (f : AdvisedFigures). f.value) (sym q) ∙ v in absurd (omega arith);
            }
        go (wins {a} u w r) q = absurd (unnamed a r.0.0 (ap (λ (f : AdvisedFigures). f.action) (sym q) ∙ e))
        go (hopes {a} k w r) q =
            let (t, m, _) = r.0 in absurd (unnamed a (t, m) (ap (λ (f : AdvisedFigures). f.action) (sym q) ∙ e))

  -- ---- the third demand

  module _ (h : Play MovedFigures) (s : Stands b (last h)) where
    pub winning_played : (told b after h).value ≡ 2 → WinningPlayed b after h
    winning_played v =
        record {
          met_within = met_within;
          all_needed = needed;
          guaranteed = λ o l. ((told b after h).number, omega arith, (met_within o (none_refused done (told b after h).number o h s l)).0);
          none_fewer = fewer;
          at_most = at_most;
        }
      where
        forced : WinsIn G (at (last h)) (told b after h).number
        forced = subst (WinsIn G (at (last h))) (number_told h s) (says_wins G L (at (last h)) (right_allowed G (entry_right done h s)) (value_told h s 2 v))

        met_within : (o : ℕ → ℕ) → (last (heeded_turns o h (told b after h).number)).refusal ≡ 0
            → Met b (last (heeded_turns o h (told b after h).number))
            × (told b after (heeded_turns o h (told b after h).number) ≡ advice_of (says 2 255 0))
        met_within o e =
            let n = (told b after h).number in
            let k = heeded_turns o h n in
            let (t, y) = meets done n h s n forced (omega arith) o e in
            ((e, y), told_entry done k t ∙ ap advice_of (right_unique G L (entry_right done k t) (met y)))

        needed : (c : Caller) → (o : ℕ → ℕ) × AsListed b c o h (told b after h).number
            × ((m : ℕ) → m < (told b after h).number → Met b (last (turns b c o h m)) → ⊥)
        needed c = let (o, x) = caller_needs b (keeps done) c h s (told b after h).number forced in (o, x.listed, x.unmet)

        fewer : (c : Caller) (n : ℕ) → Guarantees b c h n → (told b after h).number ≤ n
        fewer c n g =
            let (o, l, u) = needed c in
            le_of_suc-le-suc (lt_of_not-le (λ (x : n < (told b after h).number).
            let (m, y, z) = g o (λ k a t q. l k a t (omega arith)) in
            u m (omega arith) z))

        at_most : (ts : List Place)
            → ((s q : ℕ) → (advised b after s q).value ≡ 2 → ((advised b after s q).action ≡ 255 → ⊥) → Memᴰ (place s q) ts)
            → (told b after h).number ≤ length ts
        at_most ts all = wins_within G L (told b after h).number (at (last h)) (stands_inside b s) forced ts counted
          where
            counted : (t : Place) → Inside G t → Winning G t → Unmet G t → Memᴰ t ts
            counted t i w u =
                let here = begin (moved_to t) in
                let k = inside_stands b i in
                let x = ap (λ (f : AdvisedFigures). f.value) (told_entry done here k) ∙ (values_told done t i).winning.1 w in
                all t.state t.goal x (λ e. clash ((end_told here k e).met x).1 u)

    -- The same, said with refusals alone. Some outcomes, none of them refused, need all of the turns of the loop;
    pub loop_needs_all : (told b after h).value ≡ 2
        → (o : ℕ → ℕ) × ((last (heeded_turns o h (told b after h).number)).refusal ≡ 0)
        × ((m : ℕ) → m < (told b after h).number → Met b (last (heeded_turns o h m)) → ⊥)
    loop_needs_all v =
        let (o, l, u) = (winning_played v).all_needed (heeds b after) in
        (o, none_refused done (told b after h).number o h s l, u)

    -- and where the calls allow c, and by c the goal is met within n turns whenever none of them is refused, n is no smaller.
    pub none_allowed_fewer : (told b after h).value ≡ 2 → (c : Caller) → Allows b c h → (n : ℕ)
        → ((o : ℕ → ℕ) → (last (turns b c o h n)).refusal ≡ 0 → (m : ℕ) × (m ≤ n) × Met b (last (turns b c o h m)))
        → (told b after h).number ≤ n
    none_allowed_fewer v c al n f = (winning_played v).none_fewer c n (λ o l. f o (allowed_answered b c n o h al s.answered l))

    pub pending_played : (told b after h).value ≡ 1 → PendingPlayed b after h
    pending_played v = record { reached_by = reached; none_fewer = fewer }
      where
        hoped : HopesIn G (at (last h)) (told b after h).number
        hoped = subst (HopesIn G (at (last h))) (number_told h s) (says_hopes G L (at (last h)) (right_allowed G (entry_right done h s)) (value_told h s 1 v)).1

        reached : (o : ℕ → ℕ) × ((last (heeded_turns o h (told b after h).number)).refusal ≡ 0)
            × ((told b after (heeded_turns o h (told b after h).number)).value ≡ 2)
            × (made (heeded_turns o h (told b after h).number) ≡ made h + (told b after h).number)
        reached =
            let r = reaches done (told b after h).number h s hoped in
            let k = heeded_turns r.outcomes h (told b after h).number in
            let v = (values_told done (at (last k)) (stands_inside b r.stands)).winning.1 r.winning in (
              r.outcomes,
              r.stands.answered,
              ap (λ (f : AdvisedFigures). f.value) (told_entry done k r.stands) ∙ v,
              r.moved,
            )

        fewer : (c : Caller) (o : ℕ → ℕ) (n : ℕ) → (last (turns b c o h n)).refusal ≡ 0 → (told b after (turns b c o h n)).value ≡ 2
            → (told b after h).number ≤ n
        fewer c o n e x =
            let k = turns b c o h n in
            let w = turns_go b c n o h (begin (at (last h))) s refl e in
            let t = w.stands in
            let y = ap (λ (f : AdvisedFigures). f.value) (sym (told_entry done k t)) ∙ x in
            let win = (values_told done (at (last k)) (stands_inside b t)).winning.0 y in
            let far = goes_hoped G L (stands_inside b s) hoped w.goes (subst (Winning G) (sym w.here) win) in
            let near = w.short in
            omega arith

  -- a winning place brings the loop to the goal, with some outcomes; and so does a run that reaches one
  from_winning : (h : Play MovedFigures) → Stands b (last h) → Winning G (at (last h))
      → (o : ℕ → ℕ) × (n : ℕ) × Met b (last (heeded_turns o h n))
  from_winning h s w =
      let e = (values_told done (at (last h)) (stands_inside b s)).winning.1 w in
      let v = ap (λ (f : AdvisedFigures). f.value) (told_entry done h s) ∙ e in
      let (o, r, u) = loop_needs_all h s v in
      (o, (told b after h).number, ((winning_played h s v).met_within o r).0)

  from_reached : (h : Play MovedFigures) (n : ℕ) → Reached done h n → (o : ℕ → ℕ) × (n : ℕ) × Met b (last (heeded_turns o h n))
  from_reached h n r =
      let (o, m, y) = from_winning (heeded_turns r.outcomes h n) r.stands r.winning in
      let (k, e) = turns_join b (heeds b after) n r.outcomes o m h in
      (join n r.outcomes o, k, rw e y)

  -- Wherever advice does not say losing, some outcomes bring the loop itself to the goal.
  pub may_meet : (h : Play MovedFigures) → Stands b (last h) → ((told b after h).value ≡ 0 → ⊥)
      → (o : ℕ → ℕ) × (n : ℕ) × Met b (last (heeded_turns o h n))
  may_meet h s z = go (entry_right done h s) (told_entry done h s)
    where
      go : {x : Entry} → Right G (at (last h)) x → told b after h ≡ advice_of x → (o : ℕ → ℕ) × (n : ℕ) × Met b (last (heeded_turns o h n))
      go (lost k) q = absurd (z (ap (λ (f : AdvisedFigures). f.value) q))
      go (met y) q = from_winning h s (accepted_winning G L (at (last h)) y)
      go (wins u w r) q = from_winning h s (wins_winning G L _ (at (last h)) w)
      go (hopes {n} k w r) q = from_reached h n (reaches done n h s w)
