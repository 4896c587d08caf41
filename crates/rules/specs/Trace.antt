-- The goal's automaton over a whole trace: document 01, "Places, plays and values".
use Rattle.std.specs.Prelude.{ℕ, Bool, not, ◌&&◌, List, [], ◌∷◌}
use Rattle.game.specs.Game.{Play, last}
use Rattle.game.specs.Visits.{trace}
use Rattle.rules.specs.Job.{Job}
use Rattle.rules.specs.declared.place.Place.{Place}

-- the goal state that labels lead to from q, one after the other
abbrev pub reads : (ℕ → ℕ → ℕ) → ℕ → List ℕ → ℕ
reads next q [] = q
reads next q (l ∷ ls) = reads next (next q l) ls

module _ (j : Job) where
  -- the automaton takes a trace: from the first goal state its labels lead to a final one
  abbrev pub accepts : List ℕ → Bool
  accepts ls = j.final (reads j.next j.first_goal ls)

  abbrev pub label_of : Place → ℕ
  label_of p = j.label p.state

  -- a play meets the goal where it stands: the automaton takes its trace, and the state is not busy
  abbrev pub meets : Play Place → Bool
  meets h = accepts (trace label_of h) && not (j.busy (last h).state)
