-- A caller who plays a job by the calls, turn after turn: the loop that README and header show, and what is promised of it, said with what
-- the calls answer.
use Rattle.std.specs.Prelude.{ℕ, zero, suc, ◌+◌, ◌≤◌, ◌<◌, true, cond, ◌⊎◌, ◌≡◌, eqb, length}
use mathlib.Core.List.{List, Memᴰ}
use Rattle.game.specs.Game.{Play, then, last, made, Choice, stop, act, says, Accepted}
use Rattle.rules.specs.Job.{place, arena}
use Rattle.rules.specs.Bytes.{said}
use Rattle.rules.specs.Answers.{MovedFigures, AdvisedFigures}
use Rattle.rules.specs.Calls.{is_place, followed, advice_of, advised}
use Rattle.rules.specs.declared.place.Place.{Place}

-- A caller remembers every answer of starting and following with the actions taken between them, and names any action, or stops.
abbrev pub Caller : Type 0
Caller = Play MovedFigures → Choice

module _ (b : List ℕ) where
  -- One turn: none where the last move was refused or the caller stops; else the action is taken, t is observed, and the move is followed.
  abbrev pub taken : Choice → Play MovedFigures → ℕ → Play MovedFigures
  taken stop h t = h
  taken (act a) h t = then h a (followed b (last h).state (last h).goal a t)

  abbrev pub turn : Caller → Play MovedFigures → ℕ → Play MovedFigures
  turn c h t = cond (eqb (last h).refusal 0) (taken (c h) h t) h

  -- n turns from h on, in which the outcomes o are observed, whatever figures they are
  abbrev pub turns : Caller → (ℕ → ℕ) → Play MovedFigures → ℕ → Play MovedFigures
  turns c o h zero = h
  turns c o h (suc n) = turns c (λ i. o (suc i)) (turn c h (o zero)) n

  -- what advice answers where a caller stands
  abbrev pub told : List ℕ → Play MovedFigures → AdvisedFigures
  told plan h = advised b plan (last h).state (last h).goal

  -- the caller of the loop: takes the action that advice names, and stops where it names none (255)
  abbrev pub heeds : List ℕ → Caller
  heeds plan h = cond (eqb (told plan h).action 255) stop (act (told plan h).action)

  -- an answer that is no refusal and names a place of the job
  pub record Stands (f : MovedFigures) : Type 0 where
    pub answered : f.refusal ≡ 0
    pub on_place : is_place (said b) f.state f.goal ≡ true

  -- an answer that names a place where the goal is met
  abbrev pub Met : MovedFigures → Type 0
  Met f = (f.refusal ≡ 0) × Accepted (arena (said b)) (place f.state f.goal)

  -- each of the first n outcomes is one that the table lists: following takes it, if it takes any outcome of the action
  abbrev pub AsListed : Caller → (ℕ → ℕ) → Play MovedFigures → ℕ → Type 0
  AsListed c o h n =
      (k a t : ℕ) → k < n → (last (turns c o h k)).refusal ≡ 0 → c (turns c o h k) ≡ act a
      → (followed b (last (turns c o h k)).state (last (turns c o h k)).goal a t).refusal ≡ 0
      → (followed b (last (turns c o h k)).state (last (turns c o h k)).goal a (o k)).refusal ≡ 0

  -- By c the goal is met within n turns, whatever listed outcomes are observed. (Where c names an action that following takes with no
  -- outcome, the move is refused and the run ends: no goal is met that way.)
  abbrev pub Guarantees : Caller → Play MovedFigures → ℕ → Type 0
  Guarantees c h n = (o : ℕ → ℕ) → AsListed c o h n → (m : ℕ) × (m ≤ n) × Met (last (turns c o h m))

  -- The calls allow c from h on: as long as no move is refused, each action that it names is one that following takes with some outcome.
  abbrev pub Allows : Caller → Play MovedFigures → Type 0
  Allows c h =
      (o : ℕ → ℕ) (n a : ℕ) → (last (turns c o h n)).refusal ≡ 0 → c (turns c o h n) ≡ act a
      → (t : ℕ) × ((followed b (last (turns c o h n)).state (last (turns c o h n)).goal a t).refusal ≡ 0)

  -- h is the run of calls so far: what is promised holds from its last answer on, whatever came before.
  module _ (plan : List ℕ) (h : Play MovedFigures) where
    -- Where advice says winning: the loop meets the goal within the number of turns if no move is refused, and advice then says 2, 255, 0;
    -- whoever calls, some outcomes need all of the turns; the number is the least that any caller guarantees, and never more than the
    -- count of places of which advice says winning and names an action.
    pub record WinningPlayed : Type 0 where
      pub met_within : (o : ℕ → ℕ) → (last (turns (heeds plan) o h (told plan h).number)).refusal ≡ 0
          → Met (last (turns (heeds plan) o h (told plan h).number))
          × (told plan (turns (heeds plan) o h (told plan h).number) ≡ advice_of (says 2 255 0))
      pub all_needed : (c : Caller) → (o : ℕ → ℕ) × AsListed c o h (told plan h).number
          × ((m : ℕ) → m < (told plan h).number → Met (last (turns c o h m)) → ⊥)
      pub guaranteed : Guarantees (heeds plan) h (told plan h).number
      pub none_fewer : (c : Caller) (n : ℕ) → Guarantees c h n → (told plan h).number ≤ n
      pub at_most : (ts : List Place)
          → ((s q : ℕ) → (advised b plan s q).value ≡ 2 → ((advised b plan s q).action ≡ 255 → ⊥) → Memᴰ (place s q) ts)
          → (told plan h).number ≤ length ts

    -- Where it says pending: with some outcomes the loop stands, after exactly the number of turns, where advice says winning; and fewer
    -- turns bring no caller there, whatever the outcomes.
    pub record PendingPlayed : Type 0 where
      pub reached_by : (o : ℕ → ℕ) × ((last (turns (heeds plan) o h (told plan h).number)).refusal ≡ 0)
          × ((told plan (turns (heeds plan) o h (told plan h).number)).value ≡ 2)
          × (made (turns (heeds plan) o h (told plan h).number) ≡ made h + (told plan h).number)
      pub none_fewer : (c : Caller) (o : ℕ → ℕ) (n : ℕ) → (last (turns c o h n)).refusal ≡ 0 → (told plan (turns c o h n)).value ≡ 2
          → (told plan h).number ≤ n

    -- Where it names no action: the goal is met, or no caller with any outcomes can still meet it; the value tells which.
    pub record EndTold : Type 0 where
      pub either : ((told plan h).value ≡ 2) ⊎ ((told plan h).value ≡ 0)
      pub met : (told plan h).value ≡ 2 → Met (last h)
      pub lost : (told plan h).value ≡ 0 → (c : Caller) (o : ℕ → ℕ) (n : ℕ) → Met (last (turns c o h n)) → ⊥
