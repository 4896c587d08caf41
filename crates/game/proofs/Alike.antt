-- Two arenas that are played alike: each place of the one goes with a place of the other, and so do its outcomes, both ways. Then the values,
-- the numbers and what is right to say are the same. (More to see at a place changes nothing; nor do places that can not be come to.)
use Prim.Native.Nat.{ℕ, zero, suc}
use mathlib.Core.Bool.{true}
use mathlib.Core.Logic.Iff
use mathlib.Core.Logic.{◌⊎◌, inl, inr, ⊎_elim, ◌↔◌}
use mathlib.Core.Path.{◌≡◌, sym, ◌∙◌, subst}
use Rattle.game.specs.Game.{Arena, Inside, Listed, Lawful, Winning, Possible, Pending, Losing, WinsIn, HopesIn}
use Rattle.game.specs.Game.{Sure, Hopeful, Right, lost, met, wins, hopes, Least}
use Rattle.game.specs.declared.entry.Entry.{Entry}
use Rattle.game.proofs.Search.{least_map}
use Rattle.game.proofs.Rounds.{size, won, hoped, win, hope, win_accepted, win_step, into_win, win_settled, hope_up, hope_step}
use Rattle.game.proofs.Rounds.{into_hope, hope_settled}
use Rattle.game.proofs.Values.{wins_iff, winning_iff}
use Rattle.game.proofs.Hopes.{hopes_iff, possible_iff}

-- each place x inside H goes with the place f x of G
pub record Alike (H G : Arena) (f : H.Place → G.Place) : Type 0 where
  pub inside : (x : H.Place) → Inside H x → Inside G (f x)
  pub accepted : (x : H.Place) → Inside H x → H.accepted x ≡ G.accepted (f x)
  pub there : (x t : H.Place) (a : ℕ) → Inside H x → Listed H x a t → Listed G (f x) a (f t)
  pub back : (x : H.Place) (u : G.Place) (a : ℕ) → Inside H x → Listed G (f x) a u → (t : H.Place) × Listed H x a t × (f t ≡ u)

module _ (H G : Arena) (LH : Lawful H) (LG : Lawful G) (f : H.Place → G.Place) (s : Alike H G f) where
  -- ---- the rounds

  pub win_alike : (n : ℕ) (x : H.Place) → Inside H x → (win H n x ≡ true) ↔ (win G n (f x) ≡ true)
  unfolding win
  win_alike zero x i = (λ e. sym (s.accepted x i) ∙ e, λ e. s.accepted x i ∙ e)
  win_alike (suc n) x i = (
    λ e. ⊎_elim (λ y. win_accepted G (suc n) (f x) (sym (s.accepted x i) ∙ y)) (λ j.
        let o = j.1 in
        into_win G LG n (f x) (
          j.0,
          (f o.0, s.there x o.0 j.0 i o.1),
          λ u m.
              let t = s.back x u j.0 i m in
              rw (← t.2) ((win_alike n t.0 (LH.closed x t.0 j.0 i t.1)).0 (j.2 t.0 t.1)),
        ))
        (win_step H n x e),
    λ e. ⊎_elim (λ y. win_accepted H (suc n) x (s.accepted x i ∙ y)) (λ j.
        let o = j.1 in
        let t = s.back x o.0 j.0 i o.1 in
        into_win H LH n x (
          j.0,
          (t.0, t.1),
          λ t m.
              (win_alike n t (LH.closed x t j.0 i m)).1 (j.2 (f t) (s.there x t j.0 i m)),
        ))
        (win_step G n (f x) e),
  )

  pub won_alike : (x : H.Place) → Inside H x → (won H x ≡ true) ↔ (won G (f x) ≡ true)
  won_alike x i = (
    λ e. win_settled G LG (size H) (f x) (s.inside x i) ((win_alike (size H) x i).0 e),
    λ e. win_settled H LH (size G) x i ((win_alike (size G) x i).1 e),
  )

  pub hoped_alike : (n : ℕ) (x : H.Place) → Inside H x → (hoped H n x ≡ true) ↔ (hoped G n (f x) ≡ true)
  unfolding hope
  hoped_alike zero x i = won_alike x i
  hoped_alike (suc n) x i = (
    λ e. ⊎_elim (λ y. hope_up G (won G) n (f x) ((hoped_alike n x i).0 y)) (λ j.
        let k = LH.closed x j.1 j.0 i j.2 in
        into_hope G (won G) LG n (f x) (f j.1) j.0 (s.there x j.1 j.0 i j.2) ((hoped_alike n j.1 k).0 j.3))
        (hope_step H (won H) n x e),
    λ e. ⊎_elim (λ y. hope_up H (won H) n x ((hoped_alike n x i).1 y)) (λ j.
        let t = s.back x j.1 j.0 i j.2 in
        let k = LH.closed x t.0 j.0 i t.1 in
        into_hope H (won H) LH n x t.0 j.0 t.1 ((hoped_alike n t.0 k).1 (rw t.2 j.3)))
        (hope_step G (won G) n (f x) e),
  )

  -- ---- values and numbers

  least_iff : {P Q : ℕ → Type 0} {n : ℕ} → ((m : ℕ) → P m ↔ Q m) → Least P n ↔ Least Q n
  least_iff e = (least_map e, least_map (λ m. Iff.symm (e m)))

  pub winning_alike : (x : H.Place) → Inside H x → Winning H x ↔ Winning G (f x)
  winning_alike x i = Iff.trans (winning_iff H LH x i) (Iff.trans (won_alike x i) (Iff.symm (winning_iff G LG (f x) (s.inside x i))))

  pub wins_alike : (n : ℕ) (x : H.Place) → Inside H x → WinsIn H x n ↔ WinsIn G (f x) n
  wins_alike n x i = Iff.trans (wins_iff H LH n x) (Iff.trans (least_iff (λ k. win_alike k x i)) (Iff.symm (wins_iff G LG n (f x))))

  pub hopes_alike : (n : ℕ) (x : H.Place) → Inside H x → HopesIn H x n ↔ HopesIn G (f x) n
  hopes_alike n x i =
      Iff.trans (hopes_iff H LH n x i)
      (Iff.trans (least_iff (λ k. hoped_alike k x i)) (Iff.symm (hopes_iff G LG n (f x) (s.inside x i))))

  pub possible_alike : (x : H.Place) → Inside H x → Possible H x ↔ Possible G (f x)
  possible_alike x i = Iff.trans (possible_iff H LH x i) (Iff.trans (settle x i) (Iff.symm (possible_iff G LG (f x) (s.inside x i))))
    where
      settle : (x : H.Place) → Inside H x → (hoped H (size H) x ≡ true) ↔ (hoped G (size G) (f x) ≡ true)
      settle x i = (
        λ e. hope_settled G (won G) LG (size H) (f x) (s.inside x i) ((hoped_alike (size H) x i).0 e),
        λ e. hope_settled H (won H) LH (size G) x i ((hoped_alike (size G) x i).1 e),
      )

  pub pending_alike : (x : H.Place) → Inside H x → Pending H x ↔ Pending G (f x)
  pending_alike x i = (
    λ h. (λ w. h.0 ((winning_alike x i).1 w), (possible_alike x i).0 h.1),
    λ h. (λ w. h.0 ((winning_alike x i).0 w), (possible_alike x i).1 h.1),
  )

  pub losing_alike : (x : H.Place) → Inside H x → Losing H x ↔ Losing G (f x)
  losing_alike x i = (
    λ h. (λ w. h.0 ((winning_alike x i).1 w), λ q. h.1 ((possible_alike x i).1 q)),
    λ h. (λ w. h.0 ((winning_alike x i).0 w), λ q. h.1 ((possible_alike x i).0 q)),
  )

  -- ---- the actions to name, and what is right

  pub sure_alike : (x : H.Place) → Inside H x → (n a : ℕ) → Sure H x n a ↔ Sure G (f x) n a
  sure_alike x i n a = (
    λ h. let o = h.0 in (
      (f o.0, s.there x o.0 a i o.1),
      λ u m.
          let t = s.back x u a i m in
          let w = h.1 t.0 t.1 in
          (w.0, subst (λ v. WinsIn G v w.0) t.2 ((wins_alike w.0 t.0 (LH.closed x t.0 a i t.1)).0 w.1), w.2),
    ),
    λ h. let o = h.0 in
        let t = s.back x o.0 a i o.1 in (
          (t.0, t.1),
          λ t m.
              let w = h.1 (f t) (s.there x t a i m) in
              (w.0, (wins_alike w.0 t (LH.closed x t a i m)).1 w.1, w.2),
        ),
  )

  pub hopeful_alike : (x : H.Place) → Inside H x → (n a : ℕ) → Hopeful H x n a ↔ Hopeful G (f x) n a
  hopeful_alike x i n a = (
    λ h. (f h.0, s.there x h.0 a i h.1, to h.0 (LH.closed x h.0 a i h.1) h.2),
    λ h. let t = s.back x h.0 a i h.1 in
        (t.0, t.1, from t.0 (LH.closed x t.0 a i t.1) (rw t.2 h.2)),
  )
    where
      to : (t : H.Place) → Inside H t → ((n ≡ 1) × Winning H t) ⊎ ((m : ℕ) × (n ≡ suc m) × Pending H t × HopesIn H t m)
          → ((n ≡ 1) × Winning G (f t)) ⊎ ((m : ℕ) × (n ≡ suc m) × Pending G (f t) × HopesIn G (f t) m)
      to t k (inl w) = inl (w.0, (winning_alike t k).0 w.1)
      to t k (inr w) = inr (w.0, w.1, (pending_alike t k).0 w.2, (hopes_alike w.0 t k).0 w.3)

      from : (t : H.Place) → Inside H t → ((n ≡ 1) × Winning G (f t)) ⊎ ((m : ℕ) × (n ≡ suc m) × Pending G (f t) × HopesIn G (f t) m)
          → ((n ≡ 1) × Winning H t) ⊎ ((m : ℕ) × (n ≡ suc m) × Pending H t × HopesIn H t m)
      from t k (inl w) = inl (w.0, (winning_alike t k).1 w.1)
      from t k (inr w) = inr (w.0, w.1, (pending_alike t k).1 w.2, (hopes_alike w.0 t k).1 w.3)

  pub right_alike : (x : H.Place) → Inside H x → (e : Entry) → Right H x e ↔ Right G (f x) e
  right_alike x i e = (to, from)
    where
      to : {e : Entry} → Right H x e → Right G (f x) e
      to (lost l) = lost ((losing_alike x i).0 l)
      to (met y) = met (sym (s.accepted x i) ∙ y)
      to (wins {a} {n} u w l) = wins (sym (s.accepted x i) ∙ u) ((wins_alike n x i).0 w) (least_map (sure_alike x i n) l)
      to (hopes {a} {n} h k l) = hopes ((pending_alike x i).0 h) ((hopes_alike n x i).0 k) (least_map (hopeful_alike x i n) l)

      from : {e : Entry} → Right G (f x) e → Right H x e
      from (lost l) = lost ((losing_alike x i).1 l)
      from (met y) = met (s.accepted x i ∙ y)
      from (wins {a} {n} u w l) =
          wins (s.accepted x i ∙ u) ((wins_alike n x i).1 w) (least_map (λ b. Iff.symm (sure_alike x i n b)) l)
      from (hopes {a} {n} h k l) =
          hopes ((pending_alike x i).1 h) ((hopes_alike n x i).1 k) (least_map (λ b. Iff.symm (hopeful_alike x i n b)) l)
