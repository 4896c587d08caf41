-- What listed moves make, on any kind of place: where plays may go, whoever chooses.
use Prim.Native.Nat.{ℕ, zero, suc, ◌+◌, ◌≤◌}
use mathlib.Core.Bool.{Bool, true}
use mathlib.Core.List.{[], ◌∷◌}
use mathlib.Core.Path.{◌≡◌, refl, subst}
use native.Mathlib.Omega.{arith}
use lib.ListN.{length, length-append}
use Rattle.game.specs.Game.{Arena, Play, begin, then, last, made, Inside, Accepted, Lawful, Way, advance, run, Obeys}
use Rattle.game.specs.Game.{Winning, Possible, HopesIn}
use Rattle.game.specs.Visits.{Goes, so_far, further, trace}
use Rattle.game.proofs.Rounds.{won, hope, into_hope}
use Rattle.game.proofs.Plays.{Next, over, on, next}
use Rattle.game.proofs.Search.{has_lowest}
use Rattle.game.proofs.Values.{winning_iff}
use Rattle.game.proofs.Hopes.{hopes_iff, hope_reaches}

-- a trace has a letter for each place visited, the first one included, and so always at least one
pub trace_long : {P : Type 0} (label : P → ℕ) (h : Play P) → length (trace label h) ≡ suc (made h)
trace_long label (begin p) = refl
trace_long label (then h a p) = omega (arith, length-append (trace label h) (label p ∷ []), trace_long label h)

module _ (G : Arena) where
  -- what goes on from a play that goes on from h goes on from h
  pub goes_on : {h k l : Play G.Place} → Goes G h k → Goes G k l → Goes G h l
  goes_on x so_far = x
  goes_on x (further y m) = further (goes_on x y) m

  -- every play that comes about by a way of choosing, with listed outcomes, is one of them
  pub run_goes : (σ : Way G) (n : ℕ) (h : Play G.Place) (o : ℕ → G.Place) → Obeys G σ o h → Goes G h (run G σ o h n)
  run_goes σ zero h o b = so_far
  run_goes σ (suc n) h o b = goes_on (go (next G σ h)) (run_goes σ n (advance G σ h (o zero)) (λ i. o (suc i)) (λ i a. b (suc i) a))
    where
      go : Next G σ h → Goes G h (advance G σ h (o zero))
      go (over s c) = rw (s (o zero)) so_far
      go (on a u c s) = rw (s (o zero)) (further so_far (b zero a u c))

  -- how many moves lead from h to k
  steps : {h k : Play G.Place} → Goes G h k → ℕ
  steps so_far = 0
  steps (further g m) = suc (steps g)

  steps_made : {h k : Play G.Place} (g : Goes G h k) → made k ≡ made h + steps g
  unfolding steps
  steps_made so_far = omega arith
  steps_made (further g m) = omega (arith, steps_made g)

  module _ (L : Lawful G) where
    pub goes_inside : {h k : Play G.Place} → Inside G (last h) → Goes G h k → Inside G (last k)
    goes_inside i so_far = i
    goes_inside i (further {k} {a} {t} g m) = L.closed (last k) t a (goes_inside i g) m

    -- what a play comes to is in reach within the moves that it takes
    goes_hope : (S : G.Place → Bool) {h k : Play G.Place} (g : Goes G h k) (m : ℕ) → hope G S m (last k) ≡ true
        → hope G S (steps g + m) (last h) ≡ true
    unfolding steps
    goes_hope S {h} so_far m y = let z : 0 + m ≡ m = omega arith in rw z y
    goes_hope S {h} (further {k} {a} {t} g l) m y =
        let z : steps g + suc m ≡ suc (steps g) + m = omega arith in
        subst (λ (x : ℕ). hope G S x (last h) ≡ true) z (goes_hope S g (suc m) (into_hope G S L m (last k) t a l y))

    -- no play of fewer moves than the number of a pending place comes to a winning one,
    pub goes_hoped : {h k : Play G.Place} {n : ℕ} → Inside G (last h) → HopesIn G (last h) n → Goes G h k → Winning G (last k)
        → made h + n ≤ made k
    unfolding hope
    goes_hoped {h} {k} {n} i w g v =
        let e = steps_made g in
        let l : n ≤ steps g + 0 =
        ((hopes_iff G L n (last h) i).0 w).1 (steps g + 0) (goes_hope (won G) g 0 ((winning_iff G L (last k) (goes_inside i g)).0 v)) in
        omega arith

    -- and a play that comes to an accepted place shows that its first place is not losing.
    pub goes_possible : {h k : Play G.Place} → Goes G h k → Accepted G (last k) → Possible G (last h)
    unfolding hope
    goes_possible {h} g y =
        let (n, _, l) = has_lowest (λ n. hope G G.accepted n (last h)) (steps g + 0) (goes_hope G.accepted g 0 y) in
        (n, hope_reaches G L G.accepted (λ q z. z) n (last h) l)
