-- The goal is over the whole run of calls: the goal state that a caller holds is what the automaton makes of the labels of the states that
-- the answers named, the starting one included.
use Prim.Native.Nat.{ℕ, zero, suc}
use mathlib.Core.Bool.{not, ◌&&◌}
use mathlib.Core.List.{List}
use mathlib.Core.Path.{◌≡◌, refl, sym, ap, ◌∙◌, subst}
use Rattle.game.specs.Game.{Play, begin, then, last}
use Rattle.rules.specs.Job.{start, arena}
use Rattle.rules.specs.Bytes.{said}
use Rattle.game.specs.Visits.{trace}
use Rattle.rules.specs.Trace.{reads, accepts}
use Rattle.rules.specs.Answers.{MovedFigures}
use Rattle.rules.specs.Calls.{moved_to, started, followed}
use Rattle.rules.proofs.Traces.{reads_more}
use Rattle.cabinet.specs.Playing.{Caller, turn, turns}
use Rattle.cabinet.proofs.Starting.{When, judged, followed_when}
use Rattle.cabinet.proofs.Turns.{at, Turned, stays, moves, turned, answered_before}

module _ (b : List ℕ) where
  abbrev label_at : MovedFigures → ℕ
  label_at f = (said b).label f.state

  -- the automaton reads the label of the state that is entered
  followed_reads : (s q a t : ℕ) → When (λ f. f.goal ≡ (said b).next q (label_at f)) (followed b s q a t)
  followed_reads s q a t = followed_when b s q a t (λ f. f.goal ≡ (said b).next q (label_at f)) (λ k p r. refl)

  started_reads : When (λ f. f.goal ≡ (said b).next (said b).first_goal (label_at f)) (started b)
  started_reads =
      judged (λ f. f.goal ≡ (said b).next (said b).first_goal (label_at f)) b (moved_to (start (said b))) (λ k e. refl)

  -- the goal state is what the labels lead to from the first one
  abbrev Read : Play MovedFigures → Type 0
  Read h = (last h).goal ≡ reads (said b).next (said b).first_goal (trace label_at h)

  module _ (c : Caller) where
    turns_read : (n : ℕ) (o : ℕ → ℕ) (h : Play MovedFigures) → Read h → (last (turns b c o h n)).refusal ≡ 0 → Read (turns b c o h n)
    turns_read zero o h r e = r
    turns_read (suc n) o h r e =
        go (turned b c h (o zero) (answered_before b c (suc n) o h e)) (λ h. turns_read n (λ i. o (suc i)) h)
      where
        After : Play MovedFigures → Play MovedFigures
        After h = turns b c (λ i. o (suc i)) h n

        go : Turned b c h (o zero) → ((h : Play MovedFigures) → Read h → (last (After h)).refusal ≡ 0 → Read (After h))
            → Read (After (turn b c h (o zero)))
        go (stays d x) rec =
            subst (λ (k : Play MovedFigures). Read (After k)) (sym x)
            (rec h r (subst (λ (k : Play MovedFigures). (last (After k)).refusal ≡ 0) x e))
        go (moves a d x) rec =
            let f = followed b (last h).state (last h).goal a (o zero) in
            let e' = subst (λ (k : Play MovedFigures). (last (After k)).refusal ≡ 0) x e in
            let y = answered_before b c n (λ i. o (suc i)) (then h a f) e' in
            let q = followed_reads (last h).state (last h).goal a (o zero) y in
            let z = reads_more (said b).next (said b).first_goal (label_at f) (trace label_at h) in
            subst (λ (k : Play MovedFigures). Read (After k)) (sym x)
            (rec (then h a f) (q ∙ ap (λ (g : ℕ). (said b).next g (label_at f)) r ∙ sym z) e')

    -- Whoever calls, from the start on, and whatever is observed.
    module _ (o : ℕ → ℕ) (n : ℕ) (e : (last (turns b c o (begin (started b)) n)).refusal ≡ 0) where
      pub calls_traced : (last (turns b c o (begin (started b)) n)).goal
          ≡ reads (said b).next (said b).first_goal (trace label_at (turns b c o (begin (started b)) n))
      calls_traced =
          turns_read n o (begin (started b)) (started_reads (answered_before b c n o (begin (started b)) e)) e

      -- the goal is met exactly when the automaton takes the trace and the state is not busy
      pub met_calls_traced : (arena (said b)).accepted (at (last (turns b c o (begin (started b)) n)))
          ≡ (accepts (said b) (trace label_at (turns b c o (begin (started b)) n))
          && not ((said b).busy (last (turns b c o (begin (started b)) n)).state))
      met_calls_traced =
          ap (λ (q : ℕ). (said b).final q && not ((said b).busy (last (turns b c o (begin (started b)) n)).state)) calls_traced
