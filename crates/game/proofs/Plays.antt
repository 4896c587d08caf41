-- One move after another: where a play goes, and sequences of outcomes with a wanted run.
use Prim.Native.Nat.{ℕ, zero, suc, ◌≤◌}
use mathlib.Core.Bool.{Bool, true, false}
use mathlib.Core.Path.{◌≡◌, refl}
use native.Mathlib.Omega.{arith}
use Rattle.game.proofs.Search.{clash}
use Rattle.game.specs.Game.{Arena, Play, then, last, Choice, stop, act, Listed, Accepted, Unmet, Way, advance, run, Obeys}

module _ (G : Arena) (σ : Way G) where
  -- at h the play is over, or goes on by a
  pub data Next (h : Play G.Place) : Type 0 where
    over : ((t : G.Place) → advance G σ h t ≡ h) → ((a : ℕ) → Unmet G (last h) → σ.choose h ≡ act a → ⊥) → Next h
    on : (a : ℕ) → Unmet G (last h) → σ.choose h ≡ act a → ((t : G.Place) → advance G σ h t ≡ then h a t) → Next h

  pub next : (h : Play G.Place) → Next h
  next h = go (G.accepted (last h)) refl (σ.choose h) refl
    where
      go : (b : Bool) → G.accepted (last h) ≡ b → (c : Choice) → σ.choose h ≡ c → Next h
      go true e c d = over (λ t. rw e) (λ a u q. clash e u)
      go false e stop d = over (λ t. rw (e, d)) (λ a u q. let z : ◌≡◌ {A = ℕ} 0 1 = cc in omega arith)
      go false e (act a) d = on a e d (λ t. rw (e, d))

  -- t is an outcome that may be met at h
  abbrev pub Fair : Play G.Place → G.Place → Type 0
  Fair h t = (a : ℕ) → Unmet G (last h) → σ.choose h ≡ act a → Listed G (last h) a t

  pub fair_on : {h : Play G.Place} {a : ℕ} {t : G.Place} → σ.choose h ≡ act a → Listed G (last h) a t → Fair h t
  fair_on {h} {a} {t} c m b u d = let e : a ≡ b = cc in rw e at m

  pub some_fair : (h : Play G.Place) → (t : G.Place) × Fair h t
  some_fair h = go (next h)
    where
      go : Next h → (t : G.Place) × Fair h t
      go (over s c) = (last h, λ a u q. absurd (c a u q))
      go (on a u c s) = let o = σ.legal h a c in (o.0, fair_on c o.1)

  abbrev pub first : G.Place → (ℕ → G.Place) → ℕ → G.Place
  first t o zero = t
  first t o (suc n) = o n

  pub obeys_first : (h : Play G.Place) (t : G.Place) (o : ℕ → G.Place) → Fair h t → Obeys G σ o (advance G σ h t)
      → Obeys G σ (first t o) h
  obeys_first h t o f b zero a = f a
  obeys_first h t o f b (suc n) a = b n a

  -- Where each play with I has an outcome that keeps I, some sequence of outcomes keeps it for ever.
  module _ (I : Play G.Place → Type 0) (keep : (h : Play G.Place) → I h → (t : G.Place) × Fair h t × I (advance G σ h t)) where
    pub kept : (h : Play G.Place) → I h → ℕ → G.Place
    kept h i zero = (keep h i).0
    kept h i (suc n) = kept (advance G σ h (keep h i).0) (keep h i).2 n

    pub kept_obeys : (h : Play G.Place) (i : I h) → Obeys G σ (kept h i) h
    unfolding kept
    kept_obeys h i zero a = (keep h i).1 a
    kept_obeys h i (suc n) a = kept_obeys (advance G σ h (keep h i).0) (keep h i).2 n a

    pub kept_keeps : (h : Play G.Place) (i : I h) (n : ℕ) → I (run G σ (kept h i) h n)
    unfolding kept
    kept_keeps h i zero = i
    kept_keeps h i (suc n) = kept_keeps (advance G σ h (keep h i).0) (keep h i).2 n

  pub some_obeys : (h : Play G.Place) → (o : ℕ → G.Place) × Obeys G σ o h
  some_obeys h = (kept (λ k. Unit {0}) go h tt, kept_obeys (λ k. Unit {0}) go h tt)
    where
      go : (k : Play G.Place) → Unit {0} → (t : G.Place) × Fair k t × Unit {0}
      go k u = let t = some_fair k in (t.0, t.1, tt)

  pub run_over : (o : ℕ → G.Place) (h : Play G.Place) (n : ℕ) → ((t : G.Place) → advance G σ h t ≡ h) → run G σ o h n ≡ h
  run_over o h zero s = refl
  run_over o h (suc n) s = rw (s (o zero)) (run_over (λ i. o (suc i)) h n s)

  pub met_stays : (h : Play G.Place) → Accepted G (last h) → (t : G.Place) → advance G σ h t ≡ h
  met_stays h e t = rw e

  -- the goal once met stays met
  pub met_later : (o : ℕ → G.Place) (h : Play G.Place) (m n : ℕ) → m ≤ n → Accepted G (last (run G σ o h m))
      → Accepted G (last (run G σ o h n))
  met_later o h zero n l e = rw (run_over o h n (met_stays h e)) e
  met_later o h (suc m) zero l e = absurd (omega arith)
  met_later o h (suc m) (suc n) l e = met_later (λ i. o (suc i)) (advance G σ h (o zero)) m n (omega arith) e
