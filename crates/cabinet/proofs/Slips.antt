-- The call that writes a Goal body: what its promise says of a refusal, that it determines the figures and the whole buffer, which numbers
-- it gives, and what the body means in a job.
use Prim.Native.Nat.{ℕ, ◌≤◌}
use mathlib.Core.Bool.{true, false}
use mathlib.Core.List.{List}
use mathlib.Core.Logic.{◌⊎◌, ◌↔◌}
use mathlib.Core.Path.{◌≡◌, refl, sym, ap₂}
use lib.ListN.{length, take}
use Rattle.game.specs.Game.{Play, begin, last}
use Rattle.game.specs.Visits.{Goes, trace}
use Rattle.rules.specs.Bytes.{said}
use Rattle.rules.specs.Job.{start, arena}
use Rattle.rules.specs.Keeps.{Keeps}
use Rattle.rules.specs.Trace.{label_of}
use Rattle.rules.specs.declared.place.Place.{Place}
use Rattle.slips.specs.Clauses.{AllHold}
use Rattle.slips.specs.Playing.{goal_body}
use Rattle.slips.specs.Writing.{clauses, slips_refusal, Writing, refused, written}
use Rattle.slips.proofs.Bodies.{writing_few}
use Rattle.slips.proofs.Plays.{slips_final, slips_met}
use Rattle.slips.proofs.Unique.{writing_unique, writing_range}
use Rattle.slips.proofs.Written.{goal_from}
use Rattle.cabinet.specs.declared.goals.WrittenFigures.{WrittenFigures}

-- what the call answers and leaves
abbrev pub GoalCalled : (s : List ℕ) (p : ℕ) (before : List ℕ) → WrittenFigures → List ℕ → Type 0
GoalCalled s p before r after = Writing s p before r.refusal r.length after

figures : ℕ → ℕ → WrittenFigures
figures r n = record { refusal = r; length = n }

pub goal_unique : {s before after after' : List ℕ} {p : ℕ} (r r' : WrittenFigures) → GoalCalled s p before r after
    → GoalCalled s p before r' after' → (r ≡ r') × (after ≡ after')
unfolding figures
goal_unique r r' x y = let (e, n, a) = writing_unique x y in (ap₂ figures e n, a)

-- It answers the first number that applies, and where that is not 0, the length is 0 and the buffer stays as it was.
pub goal_refuses : {s before : List ℕ} {p : ℕ} {after : List ℕ} {r n : ℕ} → Writing s p before r n after
    → (r ≡ slips_refusal s p (length before)) × ((r ≡ 0 → ⊥) → (n ≡ 0) × (after ≡ before))
goal_refuses (refused h) = (refl, λ z. (refl, refl))
goal_refuses (written e x) = (sym e, λ z. absurd (z refl))

pub goal_range : {s before after : List ℕ} {p : ℕ} (r : WrittenFigures) → GoalCalled s p before r after
    → ((r.refusal ≡ 0) ⊎ ((r.refusal ≡ 14) ⊎ ((r.refusal ≡ 15) ⊎ (r.refusal ≡ 7)))) × (r.length ≤ 1755)
goal_range r w = (writing_range w, writing_few w)

-- A job that keeps the rules, whose Goal body is the one that the call wrote, with the same P and the first goal state 0: at each place of a
-- play from its starting place the goal state is final exactly when every clause holds on the labels of the states visited so far.
pub goal_played : {s before after b : List ℕ} {p : ℕ} (r : WrittenFigures) → GoalCalled s p before r after → r.refusal ≡ 0
    → Keeps b → (said b).propositions ≡ p → (said b).first_goal ≡ 0 → goal_body b ≡ take r.length after
    → {h : Play Place} → Goes (arena (said b)) (begin (start (said b))) h
    → ((said b).final (last h).goal ≡ true) ↔ AllHold (clauses s) (trace (label_of (said b)) h)
goal_played {b = b} r w z keeps same first body g = slips_final keeps (goal_from b w z same first body) g

-- The goal is met there exactly when they hold and the state is not busy.
pub goal_met : {s before after b : List ℕ} {p : ℕ} (r : WrittenFigures) → GoalCalled s p before r after → r.refusal ≡ 0
    → Keeps b → (said b).propositions ≡ p → (said b).first_goal ≡ 0 → goal_body b ≡ take r.length after
    → {h : Play Place} → Goes (arena (said b)) (begin (start (said b))) h
    → ((arena (said b)).accepted (last h) ≡ true)
    ↔ (AllHold (clauses s) (trace (label_of (said b)) h) × ((said b).busy (last h).state ≡ false))
goal_met {b = b} r w z keeps same first body g = slips_met keeps (goal_from b w z same first body) g
