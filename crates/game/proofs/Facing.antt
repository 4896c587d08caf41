-- One move after another against a behaviour: it is a run with outcomes that are listed.
use Prim.Native.Nat.{ℕ, zero, suc}
use mathlib.Core.Bool.{Bool, true, false}
use mathlib.Core.Path.{◌≡◌, refl, sym, ap, ◌∙◌, subst}
use Rattle.game.specs.Game.{Arena, Play, then, last, act, Unmet, Way, advance, run, Obeys, Follows}
use Rattle.game.specs.Behaviour.{Behaviour, reply, against, Meets}
use Rattle.game.specs.declared.entry.Entry.{Entry}
use Rattle.game.proofs.Plays.{some_obeys, met_stays}
use Rattle.game.proofs.Following.{follows_on}

module _ (G : Arena) (σ : Way G) (b : Behaviour G) where
  -- the outcomes that b picks
  pub outcomes : Play G.Place → ℕ → G.Place
  outcomes h zero = reply G b (σ.choose h) h
  outcomes h (suc n) = outcomes (advance G σ h (reply G b (σ.choose h) h)) n

  pub outcomes_obey : (h : Play G.Place) → Obeys G σ (outcomes h) h
  unfolding outcomes
  outcomes_obey h zero a u c = rw c (b.listed h a (σ.legal h a c))
  outcomes_obey h (suc n) a u c = outcomes_obey (advance G σ h (reply G b (σ.choose h) h)) n a u c

  pub against_run : (h : Play G.Place) (n : ℕ) → against G σ b h n ≡ run G σ (outcomes h) h n
  unfolding outcomes
  against_run h zero = refl
  against_run h (suc n) = against_run (advance G σ h (reply G b (σ.choose h) h)) n

  -- who follows entries goes on to follow them
  pub against_follows : (e : G.Place → Entry) (h : Play G.Place) → Follows G e σ h → (n : ℕ) → Follows G e σ (against G σ b h n)
  against_follows e h f n = subst (Follows G e σ) (sym (against_run h n)) (follows_on G e σ n h (outcomes h) (outcomes_obey h) f)

  -- the move by the action a that is taken at h
  pub against_on : (h : Play G.Place) (a : ℕ) → Unmet G (last h) → σ.choose h ≡ act a
      → advance G σ h (reply G b (σ.choose h) h) ≡ then h a (b.picks h a)
  against_on h a u c = rw (u, c)

  pub meets_on : (h : Play G.Place) (a : ℕ) → Unmet G (last h) → σ.choose h ≡ act a → Meets G σ b (then h a (b.picks h a))
      → Meets G σ b h
  meets_on h a u c m = (suc m.0, rw (against_on h a u c) m.1)

  pub against_next : (h : Play G.Place) (n : ℕ)
      → against G σ b h (suc n) ≡ advance G σ (against G σ b h n) (reply G b (σ.choose (against G σ b h n)) (against G σ b h n))
  against_next h zero = refl
  against_next h (suc n) = against_next (advance G σ h (reply G b (σ.choose h) h)) n

  -- to meet the goal from a play come to is to meet it from the start, and the other way round
  pub meets_early : (h : Play G.Place) (j : ℕ) → Meets G σ b (against G σ b h j) → Meets G σ b h
  meets_early h zero m = m
  meets_early h (suc j) m = let k = meets_early (advance G σ h (reply G b (σ.choose h) h)) j m in (suc k.0, k.1)

  pub meets_late : (h : Play G.Place) (j : ℕ) → Meets G σ b h → Meets G σ b (against G σ b h j)
  meets_late h zero m = m
  meets_late h (suc j) (zero, e) =
      meets_late (advance G σ h (reply G b (σ.choose h) h)) j (zero, rw (met_stays G σ h e (reply G b (σ.choose h) h)) e)
  meets_late h (suc j) (suc n, e) = meets_late (advance G σ h (reply G b (σ.choose h) h)) j (n, e)

-- Two ways that follow the same entries make the same play against each behaviour, whatever they would do elsewhere.
pub follows_alike : (G : Arena) (e : G.Place → Entry) (σ ρ : Way G) (b : Behaviour G) (n : ℕ) (h : Play G.Place) → Follows G e σ h
    → Follows G e ρ h → against G σ b h n ≡ against G ρ b h n
follows_alike G e σ ρ b zero h f g = refl
follows_alike G e σ ρ b (suc n) h f g =
    let s : advance G σ h (reply G b (σ.choose h) h) ≡ advance G ρ h (reply G b (ρ.choose h) h) = go (G.accepted (last h)) refl in
    ap (λ (k : Play G.Place). against G σ b k n) s
    ∙ follows_alike G e σ ρ b n (advance G ρ h (reply G b (ρ.choose h) h))
    (subst (Follows G e σ) s (against_follows G σ b e h f 1)) (against_follows G ρ b e h g 1)
  where
    go : (x : Bool) → G.accepted (last h) ≡ x → advance G σ h (reply G b (σ.choose h) h) ≡ advance G ρ h (reply G b (ρ.choose h) h)
    go true y = rw y
    go false u =
        let (o, y) = some_obeys G σ h in
        let (o', y') = some_obeys G ρ h in
        let c : σ.choose h ≡ ρ.choose h = f o y 0 u ∙ sym (g o' y' 0 u) in
        rw c
