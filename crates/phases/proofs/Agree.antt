-- Tests that agree on the places that can be met give the same rounds; and what rounds keep of the places reached and the entries written.
use Prim.Native.Nat.{ℕ, zero, suc, ◌≤◌, zero-le}
use mathlib.Core.Bool.{Bool, true, false, true≢false, ◌||◌}
use mathlib.Core.Path.{◌≡◌, refl, ap₂, ◌∙◌}
use native.Mathlib.Decide.{le_ind}
use Rattle.game.specs.Game.{Arena, Inside, Lawful, says}
use Rattle.game.specs.declared.entry.Entry.{Entry}
use Rattle.game.specs.Below.{some_below}
use Rattle.game.proofs.Lists.{some_ext, sure_ext}
use Rattle.game.proofs.Search.{lowest, lowest_ext, stays}
use Rattle.game.proofs.Tests.{some_below_ext}
use Rattle.phases.specs.declared.phase.Phase.{Phase}
use Rattle.phases.specs.Wanted.{wanted, phase_value}
use Rattle.phases.specs.Rounds.{reached, written}

-- ---- rounds from tests that agree inside

module _ {G : Arena} (L : Lawful G) where
  pub wanted_ext : (v : Phase) (f g : G.Place → Bool) → ((t : G.Place) → Inside G t → f t ≡ g t)
      → (p : G.Place) → Inside G p → (a : ℕ) → wanted v G f p a ≡ wanted v G g p a
  wanted_ext Phase.Winning f g h p m a = sure_ext f g (G.leads p a) (λ t l. h t (L.closed p t a m l))
  wanted_ext Phase.Pending f g h p m a = some_ext f g (G.leads p a) (λ t l. h t (L.closed p t a m l))

  module _ (v : Phase) (f g : G.Place → Bool) (h : (t : G.Place) → Inside G t → f t ≡ g t) where
    -- so a round finds the same: whether a place has such an action, and which is the lowest
    pub some_wanted_ext : (p : G.Place) → Inside G p → some_below G.actions (wanted v G f p) ≡ some_below G.actions (wanted v G g p)
    some_wanted_ext p m = some_below_ext (wanted v G f p) (wanted v G g p) G.actions (λ a l. wanted_ext v f g h p m a)

    pub lowest_wanted_ext : (p : G.Place) → Inside G p → lowest (wanted v G f p) G.actions ≡ lowest (wanted v G g p) G.actions
    lowest_wanted_ext p m = lowest_ext (wanted v G f p) (wanted v G g p) G.actions (λ a l. wanted_ext v f g h p m a)

  module _ (v : Phase) (f g : G.Place → Bool) (h : (t : G.Place) → Inside G t → f t ≡ g t) where
    pub reached_ext : (n : ℕ) (p : G.Place) → Inside G p → reached v G f n p ≡ reached v G g n p
    unfolding reached
    reached_ext zero p m = h p m
    reached_ext (suc n) p m =
        ap₂ (λ (b c : Bool). b || c) (reached_ext n p m) (some_wanted_ext v (reached v G f n) (reached v G g n) (reached_ext n) p m)

    pub written_ext : (e : G.Place → Entry) (n : ℕ) (p : G.Place) → Inside G p → written v G f e n p ≡ written v G g e n p
    unfolding written
    written_ext e zero p m = refl
    written_ext e (suc n) p m =
        let r = reached v G f n in
        let s = reached v G g n in
        let same = reached_ext n in
        rw (same p m, some_wanted_ext v r s same p m, lowest_wanted_ext v r s same p m, written_ext e n p m)

-- ---- what later rounds keep

neither : (b c : Bool) → (b || c) ≡ false → (b ≡ false) × (c ≡ false)
neither true c e = absurd (true≢false e)
neither false c e = (refl, e)

module _ (v : Phase) (G : Arena) (f : G.Place → Bool) where
  pub reached_up : (n : ℕ) (p : G.Place) → reached v G f n p ≡ true → reached v G f (suc n) p ≡ true
  unfolding reached
  reached_up n p e = rw e

  pub reached_mono : (m n : ℕ) (p : G.Place) → m ≤ n → reached v G f m p ≡ true → reached v G f n p ≡ true
  reached_mono m n p h e = stays (λ k. reached v G f k p) (λ k. reached_up k p) m n h e

  module _ (e : G.Place → Entry) (p : G.Place) where
    pub written_kept : (n m : ℕ) → reached v G f n p ≡ true → n ≤ m → written v G f e m p ≡ written v G f e n p
    unfolding written
    written_kept n m r h =
        le_ind (λ k. written v G f e k p ≡ written v G f e n p) refl (λ k l q. rw (reached_mono n k p l r) q) m h

    pub written_none : (n : ℕ) → reached v G f n p ≡ false → written v G f e n p ≡ e p
    unfolding written reached
    written_none zero r = refl
    written_none (suc n) r =
        let t = neither (reached v G f n p) (some_below G.actions (wanted v G (reached v G f n) p)) r in
        rw (t.0, t.1) (written_none n t.0)

    pub written_old : (n : ℕ) → f p ≡ true → written v G f e n p ≡ e p
    unfolding written reached
    written_old n r = written_kept zero n r zero-le

    pub written_new : (k n : ℕ) → reached v G f k p ≡ false → reached v G f (suc k) p ≡ true → suc k ≤ n
        → written v G f e n p ≡ says (phase_value v) (lowest (wanted v G (reached v G f k) p) G.actions) (suc k)
    unfolding written reached
    written_new k n z r h = written_kept (suc k) n r h ∙ rw (z, rw z at r)
