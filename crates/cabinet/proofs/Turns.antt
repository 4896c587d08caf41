-- One turn of a caller, and many: where it comes to stand, and that its moves are the game's.
use Prim.Native.Nat.{ℕ, zero, suc, ◌+◌, ◌≤◌}
use mathlib.Core.Bool.{Bool, true, false}
use mathlib.Core.List.{List}
use mathlib.Core.Logic.Iff
use mathlib.Core.Logic.{◌⊎◌, inl, inr, ◌≢◌, ◌↔◌}
use mathlib.Core.Path.{◌≡◌, refl, sym, ap, ◌∙◌, subst}
use native.Mathlib.Omega.{arith}
use borrow.Author.Tests.{eq-eqb, ne_eqb, eqb-true, eqb-false}
use lib.Dec.{eqb}
use Rattle.game.specs.Game.{Play, then, last, made, Choice, stop, act, Inside, Listed}
use Rattle.rules.specs.Job.{place, recorded, record_number, arena}
use Rattle.rules.specs.Bytes.{refusal, said}
use Rattle.rules.specs.Keeps.{Keeps}
use Rattle.game.specs.Visits.{Goes, so_far, further}
use Rattle.rules.specs.Answers.{MovedFigures}
use Rattle.rules.specs.Calls.{moved_by, is_place, followed}
use Rattle.rules.specs.declared.place.Place.{Place}
use Rattle.game.proofs.Tests.{and_iff, ltb_iff}
use Rattle.rules.proofs.Kept.{kept}
use Rattle.game.proofs.Visiting.{goes_on}
use Rattle.rules.proofs.Arenas.{inside_iff}
use Rattle.cabinet.specs.Playing.{Caller, turn, turns, Stands, AsListed, Allows}
use Rattle.cabinet.proofs.Starting.{followed_inside, followed_listed, recorded_followed, listed_followed}

-- the place that an answer names
abbrev pub at : MovedFigures → Place
at f = place f.state f.goal

-- ---- outcomes

abbrev pub first : ℕ → (ℕ → ℕ) → ℕ → ℕ
first t o zero = t
first t o (suc n) = o n

-- n of the outcomes o, and then p
abbrev pub join : ℕ → (ℕ → ℕ) → (ℕ → ℕ) → ℕ → ℕ
join zero o p = p
join (suc n) o p = first (o zero) (join n (λ i. o (suc i)) p)

-- ---- answers that stand on a place

module _ (b : List ℕ) where
  pub is_place_iff : (p : Place) → (is_place (said b) p.state p.goal ≡ true) ↔ Inside (arena (said b)) p
  is_place_iff p =
      Iff.trans (and_iff (ltb_iff p.state (said b).states) (ltb_iff p.goal (said b).goals)) (Iff.symm (inside_iff (said b) p))

  pub stands_inside : {f : MovedFigures} → Stands b f → Inside (arena (said b)) (at f)
  stands_inside {f} s = (is_place_iff (at f)).0 s.on_place

  pub inside_stands : {k : ℕ} {p : Place} → Inside (arena (said b)) p → Stands b (moved_by k p)
  inside_stands {p = p} i = record { answered = refl; on_place = (is_place_iff p).1 i }

  -- the answer to a move that following takes stands on a place
  pub followed_stands : (s q a t : ℕ) → (followed b s q a t).refusal ≡ 0 → Stands b (followed b s q a t)
  followed_stands s q a t e =
      record { answered = e; on_place = (is_place_iff (at (followed b s q a t))).1 (followed_inside b s q a t e) }

  -- what following answers from f of a move of the game by a to t
  abbrev pub taken_to : MovedFigures → ℕ → Place → MovedFigures
  taken_to f a t = moved_by (record_number (said b) f.state a t.state) t

  -- every move of the game is one that following takes, with the state entered as its outcome
  pub listed_taken : Keeps b → {f : MovedFigures} → Stands b f → (a : ℕ) (t : Place) → Listed (arena (said b)) (at f) a t
      → followed b f.state f.goal a t.state ≡ taken_to f a t
  listed_taken keeps {f} s a t m = listed_followed b f.state f.goal a t keeps (stands_inside s) m

  -- from a place a move is followed, or refused by 11
  pub taken_or_11 : Keeps b → {f : MovedFigures} → Stands b f → (a t : ℕ)
      → ((followed b f.state f.goal a t).refusal ≡ 0) ⊎ ((followed b f.state f.goal a t).refusal ≡ 11)
  taken_or_11 keeps {f} s a t = go (recorded (said b) f.state a t) refl
    where
      go : (x : Bool) → recorded (said b) f.state a t ≡ x
          → ((followed b f.state f.goal a t).refusal ≡ 0) ⊎ ((followed b f.state f.goal a t).refusal ≡ 11)
      go true e = inl (ap (λ (g : MovedFigures). g.refusal) (recorded_followed b f.state f.goal a t keeps s.on_place e))
      go false e = inr (rw (eq-eqb (refusal b) 0 ((kept b).1 keeps), s.on_place, e))

  -- a run of calls up to h is a play of the game from k on, of at most n moves
  pub record Went (k : Play Place) (n : ℕ) (h : Play MovedFigures) : Type 0 where
    pub play : Play Place
    pub goes : Goes (arena (said b)) k play
    pub here : last play ≡ at (last h)
    pub short : made play ≤ made k + n
    pub stands : Stands b (last h)

-- ---- one turn

module _ (b : List ℕ) (c : Caller) where
  -- at h the caller stops, or takes a
  pub data Turned (h : Play MovedFigures) (t : ℕ) : Type 0 where
    stays : c h ≡ stop → turn b c h t ≡ h → Turned h t
    moves : (a : ℕ) → c h ≡ act a → turn b c h t ≡ then h a (followed b (last h).state (last h).goal a t) → Turned h t

  pub turned : (h : Play MovedFigures) (t : ℕ) → (last h).refusal ≡ 0 → Turned h t
  turned h t e = go (c h) refl
    where
      go : (d : Choice) → c h ≡ d → Turned h t
      go stop q = stays q (rw (eq-eqb (last h).refusal 0 e, q))
      go (act a) q = moves a q (rw (eq-eqb (last h).refusal 0 e, q))

  -- a refused move ends the run
  pub refused_ends : (n : ℕ) (o : ℕ → ℕ) (h : Play MovedFigures) → (last h).refusal ≢ 0 → turns b c o h n ≡ h
  refused_ends zero o h e = refl
  refused_ends (suc n) o h e =
      let s : turn b c h (o zero) ≡ h = rw (ne_eqb (last h).refusal 0 e) in
      ap (λ (k : Play MovedFigures). turns b c (λ i. o (suc i)) k n) s ∙ refused_ends n (λ i. o (suc i)) h e

  -- so where the last move was not refused none before it was
  pub answered_before : (n : ℕ) (o : ℕ → ℕ) (h : Play MovedFigures) → (last (turns b c o h n)).refusal ≡ 0 → (last h).refusal ≡ 0
  answered_before n o h e = go (eqb (last h).refusal 0) refl
    where
      go : (x : Bool) → eqb (last h).refusal 0 ≡ x → (last h).refusal ≡ 0
      go true q = eqb-true (last h).refusal 0 q
      go false q = subst (λ (k : Play MovedFigures). (last k).refusal ≡ 0) (refused_ends n o h (eqb-false (last h).refusal 0 q)) e

  -- the turns of a caller are moves of the game
  pub turns_go : (n : ℕ) (o : ℕ → ℕ) (h : Play MovedFigures) (k : Play Place) → Stands b (last h) → last k ≡ at (last h)
      → (last (turns b c o h n)).refusal ≡ 0 → Went b k n (turns b c o h n)
  turns_go zero o h k s q e = record { play = k; goes = so_far; here = q; short = omega arith; stands = s }
  turns_go (suc n) o h k s q e = go (turned h (o zero) s.answered) (λ h k. turns_go n (λ i. o (suc i)) h k)
    where
      After : Play MovedFigures → Play MovedFigures
      After h = turns b c (λ i. o (suc i)) h n

      go : Turned h (o zero)
          → ((h : Play MovedFigures) (k : Play Place) → Stands b (last h) → last k ≡ at (last h) → (last (After h)).refusal ≡ 0
          → Went b k n (After h))
          → Went b k (suc n) (After (turn b c h (o zero)))
      go (stays d x) rec =
          let w = rec h k s q (subst (λ (H : Play MovedFigures). (last (After H)).refusal ≡ 0) x e) in
          let l = w.short in
          subst (λ (H : Play MovedFigures). Went b k (suc n) (After H)) (sym x)
          (record { play = w.play; goes = w.goes; here = w.here; short = omega arith; stands = w.stands })
      go (moves a d x) rec =
          let f = followed b (last h).state (last h).goal a (o zero) in
          let e' = subst (λ (H : Play MovedFigures). (last (After H)).refusal ≡ 0) x e in
          let y = answered_before n (λ i. o (suc i)) (then h a f) e' in
          let m = followed_listed b (last h).state (last h).goal a (o zero) y in
          let w = rec (then h a f) (then k a (at f)) (followed_stands b (last h).state (last h).goal a (o zero) y) refl e' in
          let l = w.short in
          let g = goes_on (arena (said b)) (further so_far (rw q m)) w.goes in
          subst (λ (H : Play MovedFigures). Went b k (suc n) (After H)) (sym x)
          (record { play = w.play; goes = g; here = w.here; short = omega arith; stands = w.stands })

  -- a run after a run is one run
  pub turns_join : (n : ℕ) (o p : ℕ → ℕ) (m : ℕ) (h : Play MovedFigures)
      → (k : ℕ) × (turns b c (join n o p) h k ≡ turns b c p (turns b c o h n) m)
  turns_join zero o p m h = (m, refl)
  turns_join (suc n) o p m h = let (k, e) = turns_join n (λ i. o (suc i)) p m (turn b c h (o zero)) in (suc k, e)

  -- whoever calls, and whatever is observed, a run stays on places or ends by refusal 11
  pub stays_on : Keeps b → (n : ℕ) (o : ℕ → ℕ) (h : Play MovedFigures) → Stands b (last h)
      → Stands b (last (turns b c o h n)) ⊎ ((last (turns b c o h n)).refusal ≡ 11)
  stays_on keeps zero o h s = inl s
  stays_on keeps (suc n) o h s = go (turned h (o zero) s.answered) (λ h. stays_on keeps n (λ i. o (suc i)) h)
    where
      After : Play MovedFigures → Play MovedFigures
      After h = turns b c (λ i. o (suc i)) h n

      Ends : Play MovedFigures → Type 0
      Ends h = Stands b (last (After h)) ⊎ ((last (After h)).refusal ≡ 11)

      go : Turned h (o zero) → ((h : Play MovedFigures) → Stands b (last h) → Ends h) → Ends (turn b c h (o zero))
      go (stays d x) rec = subst Ends (sym x) (rec h s)
      go (moves a d x) rec = subst Ends (sym x) (by (taken_or_11 b keeps s a (o zero)))
        where
          f : MovedFigures
          f = followed b (last h).state (last h).goal a (o zero)

          by : (f.refusal ≡ 0) ⊎ (f.refusal ≡ 11) → Ends (then h a f)
          by (inl e) = rec (then h a f) (followed_stands b (last h).state (last h).goal a (o zero) e)
          by (inr e) =
              inr (ap (λ (k : Play MovedFigures). (last k).refusal)
              (refused_ends n (λ i. o (suc i)) (then h a f) (λ (z : f.refusal ≡ 0). omega arith)) ∙ e)

  -- for whom the calls allow, listed outcomes are those that are not refused
  pub allowed_answered : (n : ℕ) (o : ℕ → ℕ) (h : Play MovedFigures) → Allows b c h → (last h).refusal ≡ 0 → AsListed b c o h n
      → (last (turns b c o h n)).refusal ≡ 0
  allowed_answered zero o h al e l = e
  allowed_answered (suc n) o h al e l =
      allowed_answered n (λ i. o (suc i)) (turn b c h (o zero)) (λ p i. al (first (o zero) p) (suc i)) (go (turned h (o zero) e))
      (λ k a t x. l (suc k) a t (omega arith))
    where
      go : Turned h (o zero) → (last (turn b c h (o zero))).refusal ≡ 0
      go (stays d x) = rw x e
      go (moves a d x) = let (t, y) = al o zero a e d in rw x (l zero a t (omega arith) e d y)
