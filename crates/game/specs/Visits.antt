-- The plays that listed moves make, whoever chooses, and what is read off the places that they visit.
use Rattle.std.specs.Prelude.{ℕ, List, [], ◌∷◌, ◌++◌}
use Rattle.game.specs.Game.{Arena, Play, begin, then, last, Listed}

-- the plays that go on from h by listed moves, also past a place where the goal is met
pub data Goes (G : Arena) (h : Play G.Place) : Play G.Place → Type 0 where
  so_far : Goes G h h
  further : {k : Play G.Place} {a : ℕ} {t : G.Place} → Goes G h k → Listed G (last k) a t → Goes G h (then k a t)

-- the labels of the places visited, the first one included, in their order
abbrev pub trace : {P : Type 0} → (P → ℕ) → Play P → List ℕ
trace label (begin p) = label p ∷ []
trace label (then h a p) = trace label h ++ (label p ∷ [])
