-- The words of the counters: word (s·Q + q)·A + a is of state s, goal state q and action a.
use Prim.Native.Nat.{ℕ, ◌+◌, ◌*◌, ◌/◌, ◌%◌, ◌≤◌, ◌<◌}
use mathlib.Core.Logic.{⊎_elim}
use mathlib.Core.Path.{◌≡◌, sym, ◌∙◌}
use native.Mathlib.Nat.{div-add-mod', mod-lt}
use native.Mathlib.Omega.{arith}
use borrow.Author.Tests.{lt-ltb, le-ltb}
use lib.Arith.{digits_lt, digits_div, digits_mod}
use lib.Dec.{ltb}
use Rattle.sets.proofs.Bits.{below_or}

module _ (goals actions : ℕ) where
  module _ (s : ℕ) {q a : ℕ} (h : q < goals) (g : a < actions) where
    pub spot_place : ((s * goals + q) * actions + a) / actions ≡ s * goals + q
    spot_place = digits_div (s * goals + q) g

    pub spot_action : ((s * goals + q) * actions + a) % actions ≡ a
    spot_action = digits_mod (s * goals + q) g

    pub spot_state : ((s * goals + q) * actions + a) / actions / goals ≡ s
    spot_state = rw spot_place (digits_div s h)

    pub spot_goal : ((s * goals + q) * actions + a) / actions % goals ≡ q
    spot_goal = rw spot_place (digits_mod s h)

  pub spot_back : (y s q a : ℕ) → y / actions / goals ≡ s → y / actions % goals ≡ q → y % actions ≡ a → y ≡ (s * goals + q) * actions + a
  spot_back y s q a e f g =
      let x : y / actions ≡ s * goals + q = sym (div-add-mod' (y / actions) goals) ∙ rw (e, f) in
      sym (div-add-mod' y actions) ∙ rw (x, g)

  pub spot_below : {states s q a : ℕ} → s < states → q < goals → a < actions → (s * goals + q) * actions + a < states * goals * actions
  spot_below h g k = digits_lt (digits_lt h g) k

-- a number that is not q is below q + 1 exactly when it is below q
pub below_next : (x q : ℕ) → (x ≡ q → ⊥) → ltb x (q + 1) ≡ ltb x q
below_next x q n =
    ⊎_elim
    (λ (l : x < q). lt-ltb x (q + 1) (omega arith) ∙ sym (lt-ltb x q l))
    (λ (l : q ≤ x). le-ltb x (q + 1) (omega arith) ∙ sym (le-ltb x q l))
    (below_or x q)

-- the state of a word beyond those of the places is no state
pub beyond_state : (states goals actions y : ℕ) → 0 < goals → 0 < actions → states * goals * actions ≤ y → states ≤ y / actions / goals
beyond_state states goals actions y g a h =
    ⊎_elim
    (λ (l : y / actions / goals < states).
    let p : y / actions < states * goals = rw (div-add-mod' (y / actions) goals) at (digits_lt l (mod-lt (y / actions) g)) in
    let z : y < states * goals * actions = rw (div-add-mod' y actions) at (digits_lt p (mod-lt y a)) in
    absurd (omega arith))
    (λ (l : states ≤ y / actions / goals). l)
    (below_or (y / actions / goals) states)
