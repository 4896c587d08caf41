-- The action that is chosen from a tally: it is the lowest that the phase looks for.
use Prim.Native.Nat.{ℕ, ◌<◌}
use mathlib.Core.Bool.{Bool, true, false}
use mathlib.Core.Path.{◌≡◌, sym, ◌∙◌}
use native.Mathlib.Omega.{arith}
use Rattle.sets.specs.Sets.{bit}
use Rattle.sets.specs.Lowest.{LowestOf}
use Rattle.game.specs.Game.{Arena, Lawful, Least}
use Rattle.game.specs.Below.{some_below}
use Rattle.rules.specs.Job.{Job, arena}
use Rattle.rules.specs.declared.place.Place.{Place}
use Rattle.std.specs.Prelude.{Option, Some, None}
use Rattle.game.proofs.Lists.{some_found, sure_at, sure_some}
use Rattle.game.proofs.Search.{lowest, clash, if_not_true, least_unique}
use Rattle.game.proofs.Tests.{some_stops, some_met, lowest_found}
use Rattle.phases.specs.declared.phase.Phase.{Phase}
use Rattle.phases.specs.Wanted.{wanted}
use Rattle.labelling.specs.declared.scan.Tally.{Tally}
use Rattle.labelling.specs.Scan.{Scanned, LowestPassing, tallied_for}

-- tests that say the same of each action have the same lowest one
pub lowest_same : {f g : ℕ → Bool} → ((a : ℕ) → f a ≡ g a) → (r : Option ℕ) → LowestPassing f r → LowestPassing g r
lowest_same e (Some a) h = (h.0, sym (e a) ∙ h.1, λ k l. sym (e k) ∙ h.2 k l)
lowest_same e None h = λ k. sym (e k) ∙ h k

-- the lowest action of a set passes a test that tells its members
pub lowest_of : (n : ℕ) {g : ℕ → Bool} → ((a : ℕ) → bit n a ≡ g a) → (r : Option ℕ) → LowestOf n r → LowestPassing g r
lowest_of n e (Some a) h = lowest_same e (Some a) (h.within, h.is_set, h.clear_below)
lowest_of n e None h = lowest_same e None h

module _ {j : Job} {f : Place → Bool} {p : Place} {x : Tally} (h : Scanned j f p x) where
  pub tallied_wanted : (v : Phase) (a : ℕ) → tallied_for v x a ≡ wanted v (arena j) f p a
  tallied_wanted Phase.Winning a = rw (h.opens a, h.spoilt a) (sym (sure_some f ((arena j).leads p a)))
  tallied_wanted Phase.Pending a = h.held a

  pub chosen : (v : Phase) (r : Option ℕ) → LowestPassing (tallied_for v x) r → LowestPassing (wanted v (arena j) f p) r
  chosen v = lowest_same (tallied_wanted v)

-- an answer names the lowest number below n that passes a test, or says that none below n passes
abbrev pub LowestCounted : (ℕ → Bool) → ℕ → Option ℕ → Type 0
LowestCounted f n (Some a) = (some_below n f ≡ true) × (lowest f n ≡ a)
LowestCounted f n None = some_below n f ≡ false

module _ {G : Arena} (L : Lawful G) (f : G.Place → Bool) (p : G.Place) where
  -- an action that a phase looks for is open, and so counted
  pub wanted_counted : (v : Phase) (a : ℕ) → wanted v G f p a ≡ true → a < G.actions
  wanted_counted Phase.Winning a e = let t = (sure_at f (G.leads p a) e).0 in L.counted p t.0 a t.1
  wanted_counted Phase.Pending a e = let t = some_found f (G.leads p a) e in L.counted p t.0 a t.1

  -- so the lowest action that passes is the lowest of those counted
  pub choice_counted : (v : Phase) (r : Option ℕ) → LowestPassing (wanted v G f p) r → LowestCounted (wanted v G f p) G.actions r
  choice_counted v (Some a) h =
      let w = wanted v G f p in
      let hit = some_stops w G.actions a (wanted_counted v a h.1) h.1 in
      let least : Least (λ i. w i ≡ true) a = (h.1, λ m e. let none : m < a → ⊥ = λ l. clash e (h.2 m l) in omega arith) in
      (hit, least_unique (lowest_found w G.actions hit).1 least)
  choice_counted v None h =
      let w = wanted v G f p in
      if_not_true (some_below G.actions w) (λ e. let t = some_met w G.actions e in clash t.2 (h t.0))
