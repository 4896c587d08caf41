-- A caller who plays a job by the calls against a behaviour of the cabinet, and what it is for one caller to do better than another.
use Rattle.std.specs.Prelude.{ℕ, zero, suc, List}
use Rattle.game.specs.Game.{Play, begin, then, last, Choice, stop, act}
use Rattle.game.specs.Behaviour.{Behaviour}
use Rattle.rules.specs.Job.{place, arena}
use Rattle.rules.specs.Bytes.{said}
use Rattle.rules.specs.Answers.{MovedFigures}
use Rattle.rules.specs.declared.place.Place.{Place}
use Rattle.cabinet.specs.Playing.{Caller, turn, Met}

-- the play that a run of calls is: the places that the answers name, with the actions taken between them
abbrev pub played : Play MovedFigures → Play Place
played (begin f) = begin (place f.state f.goal)
played (then h a f) = then (played h) a (place f.state f.goal)

module _ (b : List ℕ) where
  -- the outcome that is observed after a choice at h: the state that the behaviour picks (none is, where the caller stops)
  abbrev pub observed : Behaviour (arena (said b)) → Choice → Play MovedFigures → ℕ
  observed v stop h = zero
  observed v (act a) h = (v.picks (played h) a).state

  -- n turns of c from h on, against the behaviour v
  abbrev pub turns_against : Caller → Behaviour (arena (said b)) → Play MovedFigures → ℕ → Play MovedFigures
  turns_against c v h zero = h
  turns_against c v h (suc n) = turns_against c v (turn b c h (observed v (c h) h)) n

  -- from h on, c meets the goal against v: some answer names a place where it is met
  abbrev pub MeetsBy : Caller → Behaviour (arena (said b)) → Play MovedFigures → Type 0
  MeetsBy c v h = (n : ℕ) × Met b (last (turns_against c v h n))

  -- from h on, c does at least as well as d against every behaviour
  abbrev pub DominatesBy : Caller → Caller → Play MovedFigures → Type 0
  DominatesBy c d h = (v : Behaviour (arena (said b))) → MeetsBy d v h → MeetsBy c v h

  -- From h on, c does at least as well as d against every behaviour, and better against one.
  pub record BetterBy (c d : Caller) (h : Play MovedFigures) : Type 0 where
    pub never_worse : DominatesBy c d h
    pub once : Behaviour (arena (said b))
    pub met : MeetsBy c once h
    pub missed : MeetsBy d once h → ⊥
