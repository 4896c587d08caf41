-- The loop of calls with slips of the arm, as the README shows it, against a cabinet that does what is named or, with a slip left, another action.
use Rattle.std.specs.Prelude.{ℕ, zero, suc, ◌+◌, ◌-◌, ◌≤◌, ◌<◌, true, cond, List, ◌⊎◌, ◌≡◌, eqb}
use Rattle.game.specs.Game.{Play, begin, then, last, made, Choice, stop, act, says, Losing}
use Rattle.rules.specs.Job.{place, recorded, arena}
use Rattle.rules.specs.Bytes.{said}
use Rattle.rules.specs.Answers.{MovedFigures, AdvisedFigures}
use Rattle.rules.specs.Calls.{started, followed, advice_of}
use Rattle.rules.specs.declared.place.Place.{Place}
use Rattle.larger.specs.Larger.{Watched, watched, watching}
use Rattle.larger.specs.Calls.{advised_slips}
use Rattle.cabinet.specs.Playing.{Stands, Met}

-- what the cabinet does in a turn: an action, and the state that is then observed
pub record Deed : Type 0 where
  pub done : ℕ
  pub outcome : ℕ

-- what the caller knows: the last answer of starting or following, the slips that are left, and the action that was done last
abbrev pub Seen : Type 0
Seen = Watched MovedFigures

-- A behaviour of the cabinet: what it does, by all that has happened (the answers, the actions named and done, the slips left) and the action that is
-- named now. Any function is one; which keep the rules is said below.
abbrev pub Cabinet : Type 0
Cabinet = Play Seen → ℕ → Deed

-- the place that the caller knows of, and the play that a run of calls is: each action in it is the one that was named
abbrev pub spot : Seen → Watched Place
spot x = watched x.slips x.done (place x.at.state x.at.goal)

abbrev pub played_slips : Play Seen → Play (Watched Place)
played_slips (begin x) = begin (spot x)
played_slips (then h a x) = then (played_slips h) a (spot x)

-- the same run without the slips that were left and the actions that were done: the answers, and the actions named between them
abbrev pub plain : Play Seen → Play MovedFigures
plain (begin x) = begin x.at
plain (then h a x) = then (plain h) a x.at

-- of k slips left, those that are left when a was named and d was done
abbrev pub left_after : (k a d : ℕ) → ℕ
left_after k a d = cond (eqb d a) k (k - 1)

module _ (b : List ℕ) where
  -- The rules of a turn where a is named: the cabinet does a, or with a slip left any other action; and the outcome is one that the table lists for
  -- the action that is done, which is therefore open.
  pub record May (x : Seen) (a : ℕ) (d : Deed) : Type 0 where
    pub slip : (d.done ≡ a) ⊎ (0 < x.slips)
    pub listed : recorded (said b) x.at.state d.done d.outcome ≡ true

  -- what the caller knows after it: the move is followed by the action that was done
  abbrev pub after_deed : Seen → ℕ → Deed → Seen
  after_deed x a d =
      watched (left_after x.slips a d.done) d.done (followed b x.at.state x.at.goal d.done d.outcome)

  -- what a run of calls with up to K slips comes to where no call is refused: the answer names a place of the job, and no more than K slips are left
  -- (nothing done yet is the number of actions, which no action has)
  pub record StandsSlips (K : ℕ) (x : Seen) : Type 0 where
    pub stands : Stands b x.at
    pub left : x.slips ≤ K
    pub known : x.done ≤ (said b).actions

  -- the loop begins with K slips left
  abbrev pub begun : ℕ → Play Seen
  begun K = begin (watched K (said b).actions (started b))

  module _ (K : ℕ) (plan : List ℕ) where
    -- what advice answers where the caller stands
    abbrev pub told_slips : Play Seen → AdvisedFigures
    told_slips h = advised_slips b K plan (last h).at.state (last h).at.goal (last h).slips

    -- the loop names the action that advice names; it stops where advice names none (255), and where a call is refused
    abbrev pub names : Play Seen → Choice
    names h =
        cond (eqb (last h).at.refusal 0)
        (cond (eqb (told_slips h).refusal 0) (cond (eqb (told_slips h).action 255) stop (act (told_slips h).action)) stop) stop

    -- one turn against v (none where the loop stops), and n turns
    abbrev pub turn_by : Cabinet → Choice → Play Seen → Play Seen
    turn_by v stop h = h
    turn_by v (act a) h = then h a (after_deed (last h) a (v h a))

    abbrev pub turn_slips : Cabinet → Play Seen → Play Seen
    turn_slips v h = turn_by v (names h) h

    abbrev pub turns_slips : Cabinet → Play Seen → ℕ → Play Seen
    turns_slips v h zero = h
    turns_slips v h (suc n) = turn_slips v (turns_slips v h n)

    -- from h on, v keeps the rules in each turn that the loop makes against it
    abbrev pub InRules : Cabinet → Play Seen → Type 0
    InRules v h = (n a : ℕ) → names (turns_slips v h n) ≡ act a → May (last (turns_slips v h n)) a (v (turns_slips v h n) a)

    -- the place that turn i leads to, counted from 0
    abbrev pub led : Cabinet → Play Seen → ℕ → Watched Place
    led v h i = spot (last (turns_slips v h (suc i)))

    -- h is the run of calls so far: what is promised holds from its last answer on, whatever came before.
    module _ (h : Play Seen) where
      -- Whatever the cabinet does within the rules, after each number of turns no call is refused: neither the last move nor advice there.
      abbrev pub NoneRefused : Type 0
      NoneRefused =
          (v : Cabinet) → InRules v h → (n : ℕ) → StandsSlips K (last (turns_slips v h n)) × ((told_slips (turns_slips v h n)).refusal ≡ 0)

      -- Where advice says winning: whatever the cabinet does within the rules, the goal is met after the number of turns, and advice then says
      -- 2, 255, 0, where the loop ends; after each turn on the way advice says winning with a smaller number; and some cabinet within the rules needs
      -- all of the turns.
      pub record WinningSlips : Type 0 where
        pub met_within : (v : Cabinet) → InRules v h
            → Met b (last (turns_slips v h (told_slips h).number)).at
            × (told_slips (turns_slips v h (told_slips h).number) ≡ advice_of (says 2 255 0))
        pub nearer : (v : Cabinet) → InRules v h → (n a : ℕ) → names (turns_slips v h n) ≡ act a
            → ((told_slips (turns_slips v h (suc n))).value ≡ 2)
            × ((told_slips (turns_slips v h (suc n))).number < (told_slips (turns_slips v h n)).number)
        pub all_needed : (v : Cabinet) × InRules v h
            × ((m : ℕ) → m < (told_slips h).number → Met b (last (turns_slips v h m)).at → ⊥)

      -- Where it says pending: with some cabinet within the rules the loop stands, after exactly the number of turns, where advice says winning; and
      -- with none it stands there after fewer.
      pub record PendingSlips : Type 0 where
        pub reached_by : (v : Cabinet) × InRules v h × ((told_slips (turns_slips v h (told_slips h).number)).value ≡ 2)
            × (made (turns_slips v h (told_slips h).number) ≡ made h + (told_slips h).number)
        pub none_fewer : (v : Cabinet) → InRules v h → (n : ℕ) → (told_slips (turns_slips v h n)).value ≡ 2 → (told_slips h).number ≤ n

      -- Where the loop ends, which is where advice names no action, the goal is met, or no way of choosing can still meet it; the value tells which.
      abbrev pub EndSlips : Type 0
      EndSlips =
          (((told_slips h).value ≡ 2) × Met b (last h).at) ⊎ (((told_slips h).value ≡ 0) × Losing (watching (arena (said b)) K) (spot (last h)))

      -- all of it
      pub record LoopKept : Type 0 where
        pub none_refused : NoneRefused
        pub winning : (told_slips h).value ≡ 2 → WinningSlips
        pub pending : (told_slips h).value ≡ 1 → PendingSlips
        pub ended : (told_slips h).action ≡ 255 → EndSlips

    -- From the start, and then after each turn, whatever the cabinet does within the rules.
    pub record FromStart : Type 0 where
      pub at_once : LoopKept (begun K)
      pub later : (v : Cabinet) → InRules v (begun K) → (n : ℕ) → LoopKept (turns_slips v (begun K) n)
