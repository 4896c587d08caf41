-- Ways of choosing against behaviours, and what it is for one way to do better than another: document 004's dominance and best effort, from
-- any play on and so from each place.
use Rattle.std.specs.Prelude.{ℕ, zero, suc, cond, eqb}
use Rattle.game.specs.Game.{Arena, Play, last, Choice, stop, act, says, Listed, Open, Accepted, Way, advance}
use Rattle.game.specs.declared.entry.Entry.{Entry}

module _ (G : Arena) where
  -- A behaviour picks a listed outcome from the whole play so far and the action taken. (An action that is not open has no listed outcome
  -- and is never taken: what is picked for it says nothing.)
  pub record Behaviour : Type 0 where
    pub picks : Play G.Place → ℕ → G.Place
    pub listed : (h : Play G.Place) (a : ℕ) → Open G (last h) a → Listed G (last h) a (picks h a)

  -- what comes of a choice at h
  abbrev pub reply : Behaviour → Choice → Play G.Place → G.Place
  reply b stop h = last h
  reply b (act a) h = b.picks h a

  -- the play after n moves from h, by σ against b
  abbrev pub against : Way G → Behaviour → Play G.Place → ℕ → Play G.Place
  against σ b h zero = h
  against σ b h (suc n) = against σ b (advance G σ h (reply b (σ.choose h) h)) n

  -- from h on, σ meets the goal against b: the play comes to an accepted place
  abbrev pub Meets : Way G → Behaviour → Play G.Place → Type 0
  Meets σ b h = (n : ℕ) × Accepted G (last (against σ b h n))

  -- from h on, τ does at least as well as σ against every behaviour
  abbrev pub Dominates : Way G → Way G → Play G.Place → Type 0
  Dominates τ σ h = (b : Behaviour) → Meets σ b h → Meets τ b h

  -- and σ does not do as well as τ
  abbrev pub StrictlyDominates : Way G → Way G → Play G.Place → Type 0
  StrictlyDominates τ σ h = Dominates τ σ h × (Dominates σ τ h → ⊥)

  -- from h on, σ makes the best effort: no way of choosing strictly dominates it
  abbrev pub BestEffort : Way G → Play G.Place → Type 0
  BestEffort σ h = (τ : Way G) → StrictlyDominates τ σ h → ⊥

  -- From h on, τ does at least as well as σ against every behaviour, and better against one.
  pub record Better (τ σ : Way G) (h : Play G.Place) : Type 0 where
    pub never_worse : Dominates τ σ h
    pub once : Behaviour
    pub met : Meets τ once h
    pub missed : Meets σ once h → ⊥

-- the entries e, with no action where e says pending: a plan that goes for nothing that it cannot force
abbrev pub lazy : {P : Type 0} → (P → Entry) → P → Entry
lazy e p = cond (eqb (e p).value 1) (says 1 255 (e p).number) (e p)
