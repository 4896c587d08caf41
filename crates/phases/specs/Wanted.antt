-- What a phase looks for at a place, with a set of places given.
use Rattle.std.specs.Prelude.{ℕ, Bool, List}
use Rattle.sets.specs.Sets.{member}
use Rattle.game.specs.Game.{Arena}
use Rattle.rules.specs.Job.{entry_number}
use Rattle.rules.specs.declared.place.Place.{Place}
use Rattle.game.proofs.Lists.{some, sure}
use Rattle.phases.specs.declared.phase.Phase.{Phase}

-- the places of a set, with so many goal states
abbrev pub in_set : ℕ → List ℕ → Place → Bool
in_set goals ws p = member ws (entry_number goals p)

-- the actions that a phase looks for at p, with the places of f reached: open with every outcome there, or with some outcome there
abbrev pub wanted : Phase → (G : Arena) → (G.Place → Bool) → G.Place → ℕ → Bool
wanted Phase.Winning G f p a = sure f (G.leads p a)
wanted Phase.Pending G f p a = some f (G.leads p a)

-- the value of a phase's places
abbrev pub phase_value : Phase → ℕ
phase_value Phase.Winning = 2
phase_value Phase.Pending = 1
