-- The loop that asks advice, acts and follows, on a plan that planning left: how it comes to the goal, turn after turn.
use Prim.Native.Nat.{ℕ, zero, suc, ◌+◌, ◌≤◌, zero-le}
use mathlib.Core.List.{List}
use mathlib.Core.Logic.{◌⊎◌, inl, inr}
use mathlib.Core.Path.{◌≡◌, refl, sym, ap, ◌∙◌, subst}
use native.Mathlib.Omega.{arith}
use borrow.Author.Tests.{eq-eqb}
use Rattle.game.specs.Game.{Arena, Play, begin, then, last, made, stop, act, Inside, Open, Accepted, Lawful, Winning, Pending, WinsIn}
use Rattle.game.specs.Game.{HopesIn, Right, lost, met, wins, hopes}
use Rattle.rules.specs.Job.{arena}
use Rattle.rules.specs.Bytes.{said}
use Rattle.rules.specs.Keeps.{Keeps}
use Rattle.rules.specs.Fault.{only}
use Rattle.rules.specs.Answers.{MovedFigures}
use Rattle.rules.specs.Calls.{Planning, followed, advice_of}
use Rattle.rules.specs.declared.place.Place.{Place}
use Rattle.game.specs.declared.entry.Entry.{Entry}
use Rattle.game.proofs.Search.{least_unique}
use Rattle.game.proofs.Plays.{some_obeys}
use Rattle.game.proofs.Hopes.{wins_winning, hopes_iff}
use Rattle.game.proofs.Right.{pending_at}
use Rattle.game.proofs.Following.{right_allowed, says_wins, hopes_says, allowed_named, open_named}
use Rattle.rules.proofs.Arenas.{arena_lawful}
use Rattle.rules.proofs.Planned.{entry_of, planned_exactly, planned_right}
use Rattle.cabinet.specs.Playing.{Caller, turn, turns, told, heeds, Stands, AsListed, Allows}
use Rattle.cabinet.proofs.Advising.{advice_planned}
use Rattle.cabinet.proofs.Starting.{followed_listed}
use Rattle.cabinet.proofs.Turns.{at, first, taken_to, stands_inside, inside_stands, followed_stands, listed_taken, answered_before}
use Rattle.cabinet.proofs.Turns.{turns_go, allowed_answered}

module _ {b before after : List ℕ} (done : Planning b before (only 0) after) where
  pub keeps : Keeps b
  keeps = ((planned_exactly done).0 refl).0

  abbrev G : Arena
  G = arena (said b)

  L : Lawful G
  L = arena_lawful b keeps

  -- what a caller is told where it stands, and that it is right
  pub told_entry : (h : Play MovedFigures) → Stands b (last h) → told b after h ≡ advice_of (entry_of b after (at (last h)))
  told_entry h s = advice_planned done (last h).state (last h).goal s.on_place

  pub entry_right : (h : Play MovedFigures) → Stands b (last h) → Right G (at (last h)) (entry_of b after (at (last h)))
  entry_right h s = planned_right done refl (at (last h)) (stands_inside b s)

  few : (said b).actions ≤ 255
  few = let h = keeps.few_actions in omega arith

  abbrev heeding : Caller
  heeding = heeds b after

  -- the loop stops at h, or takes the action that is named, which is open
  data Heeded (h : Play MovedFigures) : Type 0 where
    none_named : heeding h ≡ stop → Heeded h
    named : (a : ℕ) → heeding h ≡ act a → Open G (at (last h)) a → Heeded h

  heeded_at : (h : Play MovedFigures) → Stands b (last h) → Heeded h
  heeded_at h s = go (allowed_named G L few (right_allowed G (entry_right h s)))
    where
      x : Entry
      x = entry_of b after (at (last h))

      go : Open G (at (last h)) x.action ⊎ (x.action ≡ 255) → Heeded h
      go (inl o) = named x.action (rw (told_entry h s, open_named G L few o)) o
      go (inr e) = none_named (rw (told_entry h s, eq-eqb x.action 255 e))

  abbrev heeded_turns : (ℕ → ℕ) → Play MovedFigures → ℕ → Play MovedFigures
  heeded_turns o h n = turns b heeding o h n

  -- the calls allow the loop, from every place on; so where each outcome is a listed one no move is refused
  pub loop_allowed : (h : Play MovedFigures) → Stands b (last h) → Allows b heeding h
  loop_allowed h s o n a e d =
      let t = (turns_go b heeding n o h (begin (at (last h))) s refl e).stands in
      go t (heeded_at (heeded_turns o h n) t)
    where
      k : Play MovedFigures
      k = heeded_turns o h n

      go : Stands b (last k) → Heeded k → (t : ℕ) × ((followed b (last k).state (last k).goal a t).refusal ≡ 0)
      go s (none_named q) = let z : ◌≡◌ {A = ℕ} 0 1 = cc in absurd (omega arith)
      go s (named a' q (t, m)) =
          let same : a' ≡ a = cc in
          (t.state, rw (← same) (ap (λ (g : MovedFigures). g.refusal) (listed_taken b keeps s a' t m)))

  pub none_refused : (n : ℕ) (o : ℕ → ℕ) (h : Play MovedFigures) → Stands b (last h) → AsListed b heeding o h n
      → (last (heeded_turns o h n)).refusal ≡ 0
  none_refused n o h s l = allowed_answered b heeding n o h (loop_allowed h s) s.answered l

  -- From where the goal can be forced within m turns, n of them meet it.
  pub meets : (n : ℕ) (h : Play MovedFigures) → Stands b (last h) → (m : ℕ) → WinsIn G (at (last h)) m → m ≤ n → (o : ℕ → ℕ)
      → (last (heeded_turns o h n)).refusal ≡ 0 → Stands b (last (heeded_turns o h n)) × Accepted G (at (last (heeded_turns o h n)))
  meets zero h s m w l o e =
      let z : m ≡ 0 = omega arith in
      let (σ, f) = (rw z at w).0 in
      let (p, y) = some_obeys G σ (begin (at (last h))) in
      (s, f p y)
  meets (suc n) h s m w l o e = go (entry_right h s) (told_entry h s) (λ h. meets n h)
    where
      After : Play MovedFigures → Play MovedFigures
      After k = heeded_turns (λ i. o (suc i)) k n

      Ends : Play MovedFigures → Type 0
      Ends k = Stands b (last (After k)) × Accepted G (at (last (After k)))

      go : {x : Entry} → Right G (at (last h)) x → told b after h ≡ advice_of x
          → ((h : Play MovedFigures) → Stands b (last h) → (m : ℕ) → WinsIn G (at (last h)) m → m ≤ n → (o : ℕ → ℕ)
          → (last (heeded_turns o h n)).refusal ≡ 0 → Stands b (last (heeded_turns o h n)) × Accepted G (at (last (heeded_turns o h n))))
          → Ends (turn b heeding h (o zero))
      go (lost k) q rec = absurd (k.0 (wins_winning G L m (at (last h)) w))
      go (hopes k i r) q rec = absurd (k.0 (wins_winning G L m (at (last h)) w))
      go (met y) q rec =
          let x : turn b heeding h (o zero) ≡ h = rw (eq-eqb (last h).refusal 0 s.answered, q) in
          subst Ends (sym x)
          (rec h s 0 (says_wins G L (at (last h)) (right_allowed G (met y)) refl) zero-le (λ i. o (suc i))
          (subst (λ (k : Play MovedFigures). (last (After k)).refusal ≡ 0) x e))
      go (wins {a} u v r) q rec =
          let f = followed b (last h).state (last h).goal a (o zero) in
          let x : turn b heeding h (o zero) ≡ then h a f = rw (eq-eqb (last h).refusal 0 s.answered, q, open_named G L few r.0.0) in
          let e' = subst (λ (k : Play MovedFigures). (last (After k)).refusal ≡ 0) x e in
          let y = answered_before b heeding n (λ i. o (suc i)) (then h a f) e' in
          let (k, i, less) = r.0.1 (at f) (followed_listed b (last h).state (last h).goal a (o zero) y) in
          let same = least_unique v w in
          subst Ends (sym x)
          (rec (then h a f) (followed_stands b (last h).state (last h).goal a (o zero) y) k i (omega arith) (λ i. o (suc i)) e')

  -- with the outcomes o the loop stands, after n turns from h on, on a winning place
  pub record Reached (h : Play MovedFigures) (n : ℕ) : Type 0 where
    pub outcomes : ℕ → ℕ
    pub stands : Stands b (last (heeded_turns outcomes h n))
    pub winning : Winning G (at (last (heeded_turns outcomes h n)))
    pub moved : made (heeded_turns outcomes h n) ≡ made h + n

  one_more : (n : ℕ) (h : Play MovedFigures) (a x : ℕ) (f : MovedFigures) → turn b heeding h x ≡ then h a f → Reached (then h a f) n
      → Reached h (suc n)
  one_more n h a x f e r =
      let m = r.moved in
      record {
        outcomes = first x r.outcomes;
        stands = subst (λ (k : Play MovedFigures). Stands b (last (heeded_turns r.outcomes k n))) (sym e) r.stands;
        winning = subst (λ (k : Play MovedFigures). Winning G (at (last (heeded_turns r.outcomes k n)))) (sym e) r.winning;
        moved = ap (λ (k : Play MovedFigures). made (heeded_turns r.outcomes k n)) e ∙ omega arith;
      }

  -- From where n turns are hoped for, some outcomes bring a winning place in them.
  pub reaches : (n : ℕ) (h : Play MovedFigures) → Stands b (last h) → HopesIn G (at (last h)) n → Reached h n
  reaches zero h s w = record { outcomes = λ i. 0; stands = s; winning = w.0.3; moved = omega arith }
  reaches (suc n) h s w =
      let p = at (last h) in
      let i = stands_inside b s in
      let a = (entry_of b after p).action in
      let pend = pending_at G L p i n ((hopes_iff G L (suc n) p i).0 w) in
      let (t, m, near) = (hopes_says G L p (suc n) (right_allowed G (entry_right h s)) pend w).1 in
      let j = L.closed p t a i m in
      let x : turn b heeding h t.state ≡ then h a (taken_to b (last h) a t) =
      rw (eq-eqb (last h).refusal 0 s.answered, told_entry h s, open_named G L few (t, m), listed_taken b keeps s a t m) in
      one_more n h a t.state (taken_to b (last h) a t) x (go a t j near (λ w. reaches n (then h a (taken_to b (last h) a t)) (inside_stands b j) w))
    where
      go : (a : ℕ) (t : Place) → Inside G t
          → ((suc n ≡ 1) × Winning G t) ⊎ ((k : ℕ) × (suc n ≡ suc k) × Pending G t × HopesIn G t k)
          → (HopesIn G t n → Reached (then h a (taken_to b (last h) a t)) n) → Reached (then h a (taken_to b (last h) a t)) n
      go a t j (inl (q, v)) rec =
          let z : n ≡ 0 = omega arith in
          rw z (record { outcomes = λ i. 0; stands = inside_stands b j; winning = v; moved = omega arith })
      go a t j (inr (k, q, pend, v)) rec = let z : k ≡ n = omega arith in rec (rw z at v)
