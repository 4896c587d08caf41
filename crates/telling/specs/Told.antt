-- What is told of a place: the line of its entry, and why it is not winning. Names are given by number.
use Rattle.std.specs.Prelude.{ℕ, ◌/◌, ◌%◌, cond, List, [], ◌++◌, eqb, Option, Some, None}
use Rattle.game.specs.Below.{upto, each}
use Rattle.game.specs.declared.entry.Entry.{Entry}
use Rattle.rules.specs.Job.{Job, entered}
use Rattle.rules.specs.Plan.{entry}
use Rattle.telling.specs.Lines.{comma, place_text, head_line, spoiler_line, lost_line}
use Rattle.telling.specs.Spoilt.{worth, worst}

-- the line of the place of state s and goal state q, which has the entry e
abbrev pub told_entry : ℕ → ℕ → Entry → (ℕ → List ℕ) → (ℕ → List ℕ) → (ℕ → List ℕ) → List ℕ
told_entry s q e states actions goals = head_line (place_text (states s) comma (goals q)) (actions e.action) e

-- the line of record k, seen from goal state q: its action, the place that it enters, and what the plan p gives that place
abbrev pub told_spoiler : Job → List ℕ → ℕ → ℕ → (ℕ → List ℕ) → (ℕ → List ℕ) → (ℕ → List ℕ) → List ℕ
told_spoiler j p q k states actions goals =
    spoiler_line (actions (j.move k).action)
    (place_text (states (j.move k).outcome) comma (goals (entered j q (j.move k).outcome).goal))
    (worth j p q k)

-- the same of a record that was found
abbrev pub told_found : Job → List ℕ → ℕ → (ℕ → List ℕ) → (ℕ → List ℕ) → (ℕ → List ℕ) → Option ℕ → List ℕ
told_found j p q states actions goals (Some k) = told_spoiler j p q k states actions goals
told_found j p q states actions goals None = []

-- why action a is not sure at state s and goal state q, and nothing where no record spoils it; then that of the actions below n
abbrev pub told_action : Job → List ℕ → ℕ → ℕ → (ℕ → List ℕ) → (ℕ → List ℕ) → (ℕ → List ℕ) → ℕ → List ℕ
told_action j p s q states actions goals a = told_found j p q states actions goals (worst j p s q a)

abbrev pub told_actions : Job → List ℕ → ℕ → ℕ → (ℕ → List ℕ) → (ℕ → List ℕ) → (ℕ → List ℕ) → ℕ → List ℕ
told_actions j p s q states actions goals n = each (upto n) (told_action j p s q states actions goals)

-- why that place is not winning, where the plan p gives it the entry e: that all is lost, or what spoils each action
abbrev pub told_why : Job → List ℕ → ℕ → ℕ → Entry → (ℕ → List ℕ) → (ℕ → List ℕ) → (ℕ → List ℕ) → List ℕ
told_why j p s q e states actions goals =
    cond (eqb e.value 0) lost_line
    (cond (eqb e.value 1) (told_actions j p s q states actions goals j.actions)
    [])

-- All that is told of place i by the plan p: the line of its entry, and why it is not winning.
abbrev pub told_place : Job → List ℕ → ℕ → (ℕ → List ℕ) → (ℕ → List ℕ) → (ℕ → List ℕ) → List ℕ
told_place j p i states actions goals =
    told_entry (i / j.goals) (i % j.goals) (entry p i) states actions goals
    ++ told_why j p (i / j.goals) (i % j.goals) (entry p i) states actions goals
