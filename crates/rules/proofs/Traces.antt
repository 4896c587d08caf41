-- The goal is over the whole run: along every play from the starting place the goal state is the one that the automaton reaches by the
-- labels of the states visited, and the goal is met where it takes them and the state is not busy.
use Prim.Native.Nat.{ℕ}
use mathlib.Core.Bool.{not, ◌&&◌}
use mathlib.Core.List.{List, [], ◌∷◌, ◌++◌}
use mathlib.Core.Path.{◌≡◌, refl, sym, ap, ◌∙◌}
use Rattle.game.specs.Game.{Play, begin, last}
use Rattle.rules.specs.Job.{Job, start, arena}
use Rattle.game.specs.Visits.{Goes, so_far, further, trace}
use Rattle.rules.specs.Trace.{reads, label_of, meets}
use Rattle.rules.specs.declared.place.Place.{Place}
use Rattle.rules.proofs.Arenas.{leads_iff}

-- one label more
pub reads_more : (next : ℕ → ℕ → ℕ) (q l : ℕ) (ls : List ℕ) → reads next q (ls ++ (l ∷ [])) ≡ next (reads next q ls) l
reads_more next q l [] = refl
reads_more next q l (m ∷ ls) = reads_more next (next q m) l ls

module _ (j : Job) where
  -- a play whose goal state is what its trace makes of q goes on so
  pub reads_on : (q : ℕ) {h k : Play Place} → (last h).goal ≡ reads j.next q (trace (label_of j) h) → Goes (arena j) h k
      → (last k).goal ≡ reads j.next q (trace (label_of j) k)
  reads_on q e so_far = e
  reads_on q e (further {k} {a} {t} g m) =
      let (i, b, f, r) = (leads_iff j (last k) t a).0 m in
      let s : t.goal ≡ j.next (last k).goal (label_of j t) =
      ap (λ (x : Place). x.goal) r ∙ ap (λ (x : Place). j.next (last k).goal (label_of j x)) (sym r) in
      s ∙ ap (λ (x : ℕ). j.next x (label_of j t)) (reads_on q e g)
      ∙ sym (reads_more j.next q (label_of j t) (trace (label_of j) k))

  module _ {h : Play Place} (g : Goes (arena j) (begin (start j)) h) where
    pub traced : (last h).goal ≡ reads j.next j.first_goal (trace (label_of j) h)
    traced = reads_on j.first_goal refl g

    -- the place is accepted exactly when the automaton takes the trace and the state is not busy
    pub met_traced : (arena j).accepted (last h) ≡ meets j h
    met_traced = ap (λ (q : ℕ). j.final q && not (j.busy (last h).state)) traced
