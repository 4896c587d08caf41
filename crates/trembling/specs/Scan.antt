-- What looking through the records of one state shows of a larger place, with a set of larger places given.
use Rattle.std.specs.Prelude.{ℕ, ◌+◌, Bool, not, ◌&&◌, ◌||◌, List, eqb, ltb}
use Rattle.sets.specs.Sets.{bit, member}
use Rattle.game.specs.Below.{some_below}
use Rattle.rules.specs.Job.{Job, entry_number}
use Rattle.rules.specs.declared.place.Place.{Place}
use Rattle.labelling.specs.Scan.{Scanned}
use Rattle.phases.specs.declared.phase.Phase.{Phase}
use Rattle.trembling.specs.declared.scan.Tallies.{Tallies}

-- the places of a set whose entries are counted from base on, with so many goal states
abbrev pub from_base : ℕ → List ℕ → ℕ → Place → Bool
from_base goals ws base p = member ws (base + entry_number goals p)

-- both tallies of p: by the places from one base on, and by those from another
pub record ScannedBoth (j : Job) (goals : ℕ) (ws : List ℕ) (own less : ℕ) (p : Place) (r : Tallies) : Type 0 where
  pub here : Scanned j (from_base goals ws own) p r.own
  pub below : Scanned j (from_base goals ws less) p r.less

-- a set of actions has another one than a, which is one of the 16
abbrev pub other : ℕ → ℕ → Bool
other n a = ltb a 16 && some_below 16 (λ d. not (eqb d a) && bit n d)

-- The actions that a phase looks for with slips left: open, not spoilt, and no other action spoilt with one slip fewer; or held, or open
-- with another action held with one slip fewer.
abbrev pub slipped_for : Phase → Tallies → ℕ → Bool
slipped_for Phase.Winning x a = (bit x.own.opens.bits a && not (bit x.own.spoilt.bits a)) && not (other x.less.spoilt.bits a)
slipped_for Phase.Pending x a = bit x.own.held.bits a || bit x.own.opens.bits a && other x.less.held.bits a
