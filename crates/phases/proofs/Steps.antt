-- The rounds of both phases, tied to what can be forced and what can be hoped for: once each phase has settled, every entry is right.
use Prim.Native.Nat.{ℕ, zero, suc, ◌≤◌, zero-le}
use mathlib.Core.Bool.{Bool, true, false, cond, ◌||◌}
use mathlib.Core.Path.{◌≡◌, refl, sym, ap, ◌∙◌, subst, subst₂, fun_ext}
use Rattle.game.specs.Game.{Arena, Inside, Lawful, Least, Pending, WinsIn, HopesIn, Right, met, says}
use Rattle.game.specs.declared.entry.Entry.{Entry}
use Rattle.game.specs.Below.{some_below}
use Rattle.game.proofs.Lists.{sure, some}
use Rattle.game.proofs.Search.{clash, if_not_true, lowest_ext, has_lowest, least_map, not_yet, new}
use Rattle.game.proofs.Rounds.{size, win, hope, won, hoped, win_accepted, win_up, win_settled, win_closed, hope_closed}
use Rattle.game.proofs.Values.{wins_iff}
use Rattle.game.proofs.Hopes.{hopes_iff}
use Rattle.game.proofs.Right.{right_wins, right_hopes, right_loses, pending_at}
use Rattle.phases.specs.declared.phase.Phase.{Phase}
use Rattle.phases.specs.Wanted.{wanted}
use Rattle.phases.specs.Rounds.{reached, written}
use Rattle.phases.proofs.Agree.{wanted_ext, reached_ext, reached_up, reached_mono, written_old, written_none, written_new}

-- with no round, nothing is reached but what was there
reached_none : (v : Phase) (G : Arena) (f : G.Place → Bool) (p : G.Place) → reached v G f zero p ≡ true → f p ≡ true
unfolding reached
reached_none v G f p e = e

module _ (G : Arena) where
  -- one round more, as the rounds of the game have it
  hope_next : (S : G.Place → Bool) (n : ℕ) (p : G.Place)
      → (hope G S n p || some_below G.actions (λ a. some (hope G S n) (G.leads p a))) ≡ hope G S (suc n) p
  unfolding hope
  hope_next S n p = go (hope G S n p) refl
    where
      go : (b : Bool) → hope G S n p ≡ b
          → (hope G S n p || some_below G.actions (λ a. some (hope G S n) (G.leads p a))) ≡ hope G S (suc n) p
      go true z = rw (z, hope)
      go false z = rw (z, hope)

  win_next : Lawful G → (n : ℕ) (p : G.Place)
      → (win G n p || some_below G.actions (λ a. sure (win G n) (G.leads p a))) ≡ win G (suc n) p
  unfolding win
  win_next L n p = go (win G n p) refl
    where
      go : (b : Bool) → win G n p ≡ b → (win G n p || some_below G.actions (λ a. sure (win G n) (G.leads p a))) ≡ win G (suc n) p
      go true z = rw z (sym (win_up G L n p z))
      go false z = let u = if_not_true (G.accepted p) (λ y. clash (win_accepted G n p y) z) in rw (z, u, win)

  pub reached_hope : (S : G.Place → Bool) (n : ℕ) → reached Phase.Pending G S n ≡ hope G S n
  unfolding reached hope
  reached_hope S zero = refl
  reached_hope S (suc n) =
      fun_ext (λ p. ap (λ (f : G.Place
      → Bool). f p || some_below G.actions (wanted Phase.Pending G f p)) (reached_hope S n) ∙ hope_next S n p)

  pub reached_win : Lawful G → (n : ℕ) → reached Phase.Winning G G.accepted n ≡ win G n
  unfolding reached win
  reached_win L zero = refl
  reached_win L (suc n) =
      fun_ext (λ p. ap (λ (f : G.Place
      → Bool). f p || some_below G.actions (wanted Phase.Winning G f p)) (reached_win L n) ∙ win_next L n p)

-- what round 0 says
abbrev pub first_says : (G : Arena) → G.Place → Entry
first_says G p = cond (G.accepted p) (says 2 255 0) (says 0 255 0)

-- the places that n rounds of winning reach, and what the plan then says
abbrev pub wins_by : (G : Arena) → ℕ → G.Place → Bool
wins_by G = reached Phase.Winning G G.accepted

abbrev pub wins_says : (G : Arena) → ℕ → G.Place → Entry
wins_says G = written Phase.Winning G G.accepted (first_says G)

-- the same of m rounds of hope after them
abbrev pub hopes_by : (G : Arena) → ℕ → ℕ → G.Place → Bool
hopes_by G n = reached Phase.Pending G (wins_by G n)

abbrev pub hopes_say : (G : Arena) → ℕ → ℕ → G.Place → Entry
hopes_say G n = written Phase.Pending G (wins_by G n) (wins_says G n)

-- a round adds no place inside
abbrev pub Last : (G : Arena) → (ℕ → G.Place → Bool) → ℕ → Type 0
Last G f n = (p : G.Place) → Inside G p → f (suc n) p ≡ true → f n p ≡ true

module _ (G : Arena) (L : Lawful G) where
  -- ---- winning places

  won_right : (n : ℕ) (p : G.Place) → wins_by G n p ≡ true → Right G p (wins_says G n p)
  won_right n p w = go (G.accepted p) refl (has_lowest (λ k. wins_by G k p) n w)
    where
      go : (b : Bool) → G.accepted p ≡ b → (k : ℕ) × (k ≤ n) × Least (λ k. wins_by G k p ≡ true) k → Right G p (wins_says G n p)
      go true y k = rw (written_old Phase.Winning G G.accepted (first_says G) p n y, y) (met y)
      go false u (zero, h, l) = absurd (clash (reached_none Phase.Winning G G.accepted p l.0) u)
      go false u (suc k, h, l) =
          rw (written_new Phase.Winning G G.accepted (first_says G) p k n (not_yet (λ k. wins_by G k p) k l) l.0 h, reached_win G L k)
          (right_wins G L p k (subst (λ (f : ℕ → G.Place → Bool). Least (λ k. f k p ≡ true) (suc k)) (fun_ext (reached_win G L)) l))

  not_won_says : (n : ℕ) (p : G.Place) → wins_by G n p ≡ false → wins_says G n p ≡ says 0 255 0
  unfolding reached
  not_won_says n p w =
      let u = if_not_true (G.accepted p) (λ y. clash (reached_mono Phase.Winning G G.accepted 0 n p zero-le y) w) in
      written_none Phase.Winning G G.accepted (first_says G) p n w ∙ rw u

  -- ---- the rest, once no round adds a winning place

  module _ (n : ℕ) (end : Last G (wins_by G) n) where
    end_win : (p : G.Place) → Inside G p → win G (suc n) p ≡ true → win G n p ≡ true
    end_win =
        subst₂ (λ (f g : G.Place → Bool). (p : G.Place) → Inside G p → f p ≡ true → g p ≡ true)
        (reached_win G L (suc n)) (reached_win G L n) end

    won_all : (p : G.Place) → Inside G p → wins_by G n p ≡ won G p
    won_all p i = ap (λ (f : G.Place → Bool). f p) (reached_win G L n) ∙ go (win G n p) refl
      where
        go : (b : Bool) → win G n p ≡ b → win G n p ≡ won G p
        go true z = z ∙ sym (win_settled G L n p i z)
        go false z = z ∙ sym (if_not_true (won G p) (λ w. clash (win_closed G L n end_win (size G) p i w) z))

    pub hopes_hoped : (m : ℕ) (p : G.Place) → Inside G p → hopes_by G n m p ≡ hoped G m p
    hopes_hoped m p i =
        reached_ext L Phase.Pending (wins_by G n) (won G) won_all m p i ∙ ap (λ (f : G.Place → Bool). f p) (reached_hope G (won G) m)

    least_hoped : (k : ℕ) (p : G.Place) → Inside G p → Least (λ k. hopes_by G n k p ≡ true) k → Least (λ k. hoped G k p ≡ true) k
    least_hoped k p i = least_map (λ k. (λ e. sym (hopes_hoped k p i) ∙ e, λ e. hopes_hoped k p i ∙ e))

    -- every entry is right, once no round adds a pending place either
    pub all_right : (m : ℕ) → Last G (hopes_by G n) m → (p : G.Place) → Inside G p → Right G p (hopes_say G n m p)
    all_right m stop p i = go (wins_by G n p) refl (hopes_by G n m p) refl
      where
        pending : (k : ℕ) × (k ≤ m) × Least (λ k. hopes_by G n k p ≡ true) k → wins_by G n p ≡ false → Right G p (hopes_say G n m p)
        pending (zero, h, l) w = absurd (clash (reached_none Phase.Pending G (wins_by G n) p l.0) w)
        pending (suc k, h, l) w =
            rw (written_new Phase.Pending G (wins_by G n) (wins_says G n) p k m (not_yet (λ k. hopes_by G n k p) k l) l.0 h)
            (rw (lowest_ext (wanted Phase.Pending G (hopes_by G n k) p) (λ a. some (hoped G k) (G.leads p a)) G.actions
            (λ a b. wanted_ext L Phase.Pending (hopes_by G n k) (hoped G k) (hopes_hoped k) p i a))
            (right_hopes G L p i k (least_hoped (suc k) p i l)))

        never : hopes_by G n m p ≡ false → hoped G (size G) p ≡ false
        never z =
            if_not_true (hoped G (size G) p)
            (λ h. clash
            (hope_closed G (won G) L m (λ t j e. sym (hopes_hoped m t j) ∙ stop t j (hopes_hoped (suc m) t j ∙ e)) (size G) p i h)
            (sym (hopes_hoped m p i) ∙ z))

        go : (b : Bool) → wins_by G n p ≡ b → (c : Bool) → hopes_by G n m p ≡ c → Right G p (hopes_say G n m p)
        go true w c h = rw (written_old Phase.Pending G (wins_by G n) (wins_says G n) p m w) (won_right n p w)
        go false w true h = pending (has_lowest (λ k. hopes_by G n k p) m h) w
        go false w false h =
            rw (written_none Phase.Pending G (wins_by G n) (wins_says G n) p m h, not_won_says n p w) (right_loses G L p i (never h))

    -- a place that a round of hope adds has that round's number
    pub hope_number : (k : ℕ) (p : G.Place) → Inside G p → hopes_by G n k p ≡ false → hopes_by G n (suc k) p ≡ true
        → Pending G p × HopesIn G p (suc k)
    hope_number k p i z e =
        let l = least_hoped (suc k) p i (new (λ k. hopes_by G n k p) (λ k. reached_up Phase.Pending G (wins_by G n) k p) k z e) in
        (pending_at G L p i k l, (hopes_iff G L (suc k) p i).1 l)

  -- and so has one that a round of winning adds
  pub win_number : (k : ℕ) (p : G.Place) → wins_by G k p ≡ false → wins_by G (suc k) p ≡ true → WinsIn G p (suc k)
  win_number k p z e =
      (wins_iff G L (suc k) p).1
      (subst (λ (f : ℕ → G.Place → Bool). Least (λ k. f k p ≡ true) (suc k)) (fun_ext (reached_win G L))
      (new (λ k. wins_by G k p) (λ k. reached_up Phase.Winning G G.accepted k p) k z e))
