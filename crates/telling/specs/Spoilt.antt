-- What spoils an action at a place: a listed outcome to which the plan gives a low value.
use Rattle.std.specs.Prelude.{ℕ, ◌<◌, Bool, true, false, cond, ◌&&◌, List, ◌≡◌, leb, Option, Some, None}
use Rattle.game.specs.Below.{some_below, last_below}
use Rattle.rules.specs.Job.{Job, entered, is_from}
use Rattle.rules.specs.Plan.{planned_entry}

-- the value that the plan p gives to the place that record k enters from goal state q
abbrev pub worth : Job → List ℕ → ℕ → ℕ → ℕ
worth j p q k = (planned_entry j p (entered j q (j.move k).outcome)).value

-- record k is an outcome of action a at state s, and from goal state q it enters a place to which the plan gives the value v at most
abbrev pub spoils : Job → List ℕ → ℕ → ℕ → ℕ → ℕ → ℕ → Bool
spoils j p s q a v k = is_from (j.move k) s a && leb (worth j p q k) v

-- some record spoils the action so, and the last that does
abbrev pub is_spoilt : Job → List ℕ → ℕ → ℕ → ℕ → ℕ → Bool
is_spoilt j p s q a v = some_below j.records (spoils j p s q a v)

abbrev pub last_spoiler : Job → List ℕ → ℕ → ℕ → ℕ → ℕ → ℕ
last_spoiler j p s q a v = last_below j.records (spoils j p s q a v)

-- An answer names the last record that spoils the action, or says that none does.
abbrev pub SpoiltBy : Job → List ℕ → ℕ → ℕ → ℕ → ℕ → Option ℕ → Type 0
SpoiltBy j p s q a v (Some k) =
    (k < j.records) × (spoils j p s q a v k ≡ true) × (k ≡ last_spoiler j p s q a v)
SpoiltBy j p s q a v None = is_spoilt j p s q a v ≡ false

-- The record that is told of an action: the last that spoils it by losing (0), or else the last that does by at most pending (1).
abbrev pub worst : Job → List ℕ → ℕ → ℕ → ℕ → Option ℕ
worst j p s q a =
    cond (is_spoilt j p s q a 0) (Some (last_spoiler j p s q a 0))
    (cond (is_spoilt j p s q a 1) (Some (last_spoiler j p s q a 1))
    None)
