-- With K = 0 the loop of calls with slips of the arm is today's loop, turn by turn.
use Prim.Native.Nat.{ℕ, zero, suc, ◌<◌}
use mathlib.Core.List.{List}
use mathlib.Core.Logic.{◌⊎◌, inl, inr}
use mathlib.Core.Path.{◌≡◌, refl, sym, ap, ◌∙◌, subst}
use native.Mathlib.Omega.{arith}
use borrow.Author.Tests.{eq-eqb}
use Rattle.game.specs.Game.{Play, begin, then, last, Choice, stop, act}
use Rattle.rules.specs.Fault.{only}
use Rattle.rules.specs.Answers.{MovedFigures}
use Rattle.rules.specs.Calls.{followed}
use Rattle.larger.specs.Plans.{Trembling}
use Rattle.cabinet.specs.Playing.{Caller, turn, turns, told, heeds}
use Rattle.cabinet.proofs.Starting.{recorded_followed}
use Rattle.cabinet.proofs.Turns.{Turned, stays, moves, turned}
use Rattle.cabinet.proofs.ArmSlips.{slips_advice_today}
use Rattle.arm_loop.specs.Loop.{Seen, Cabinet, plain, May, after_deed, StandsSlips, told_slips, names, turn_slips, turns_slips, InRules}
use Rattle.arm_loop.proofs.Turning.{keeps}
use Rattle.arm_loop.proofs.Looping.{loop_answered_slips}

plain_last : (h : Play Seen) → last (plain h) ≡ (last h).at
plain_last (begin x) = refl
plain_last (then h a x) = refl

-- the last of n + 1 turns
turns_next : (b : List ℕ) (c : Caller) (n : ℕ) (o : ℕ → ℕ) (h : Play MovedFigures) → turns b c o h (suc n) ≡ turn b c (turns b c o h n) (o n)
turns_next b c zero o h = refl
turns_next b c (suc n) o h = turns_next b c n (λ i. o (suc i)) (turn b c h (o zero))

module _ {b before after : List ℕ} (done : Trembling b 0 before (only 0) after) where
  -- what the loop is told is what today's loop is told
  told_today : (h : Play Seen) → StandsSlips b 0 (last h) → told_slips b 0 after h ≡ told b after (plain h)
  told_today h s =
      let l = s.left in
      let z : (last h).slips ≡ 0 = omega arith in
      rw (z, plain_last h) (slips_advice_today b after (last h).at.state (last h).at.goal)

  module _ (h : Play Seen) (s : StandsSlips b 0 (last h)) (answered : (told_slips b 0 after h).refusal ≡ 0) where
    names_today : names b 0 after h ≡ heeds b after (plain h)
    names_today = rw (eq-eqb (last h).at.refusal 0 s.stands.answered, eq-eqb (told_slips b 0 after h).refusal 0 answered, told_today h s)

    -- a turn within the rules does what is named, and observes the outcome
    turn_today : (v : Cabinet) → ((a : ℕ) → names b 0 after h ≡ act a → May b (last h) a (v h a))
        → plain (turn_slips b 0 after v h) ≡ turn b (heeds b after) (plain h) (last (turn_slips b 0 after v h)).at.state
    turn_today v r =
        go (names b 0 after h) refl
        (turned b (heeds b after) (plain h) t (subst (λ (f : MovedFigures). f.refusal ≡ 0) (sym (plain_last h)) s.stands.answered))
      where
        t : ℕ
        t = (last (turn_slips b 0 after v h)).at.state

        same : {a : ℕ} → ((v h a).done ≡ a) ⊎ (0 < (last h).slips) → (v h a).done ≡ a
        same (inl q) = q
        same (inr k) = let l = s.left in absurd (omega arith)

        go : (c : Choice) → names b 0 after h ≡ c → Turned b (heeds b after) (plain h) t
            → plain (turn_slips b 0 after v h) ≡ turn b (heeds b after) (plain h) t
        go stop e (stays d x) = let y : turn_slips b 0 after v h ≡ h = rw e in ap plain y ∙ sym x
        go stop e (moves a d x) =
            let e' = sym names_today ∙ e in
            let z : ◌≡◌ {A = ℕ} 0 1 = cc in absurd (omega arith)
        go (act a) e (stays d x) =
            let e' = sym names_today ∙ e in
            let z : ◌≡◌ {A = ℕ} 0 1 = cc in absurd (omega arith)
        go (act a) e (moves a' d x) =
            let e' = sym names_today ∙ e in
            let one : a ≡ a' = cc in
            let m = r a e in
            let k = v h a in
            let f = followed b (last h).at.state (last h).at.goal k.done k.outcome in
            let y : turn_slips b 0 after v h ≡ then h a (after_deed b (last h) a k) = rw e in
            let seen : t ≡ k.outcome =
            ap (λ (g : Play Seen). (last g).at.state) y
            ∙ ap (λ (g : MovedFigures). g.state)
            (recorded_followed b (last h).at.state (last h).at.goal k.done k.outcome (keeps done) s.stands.on_place m.listed) in
            let to : f ≡ followed b (last (plain h)).state (last (plain h)).goal a' t =
            λ i. followed b (sym (plain_last h) i).state (sym (plain_last h) i).goal ((same m.slip ∙ one) i) (sym seen i) in
            ap plain y ∙ ((λ i. then (plain h) (one i) (to i)) ∙ sym x)

  -- With no slips to be had, each turn of the loop is the turn of today's loop, in which the state that is entered is observed.
  pub loop_today : (v : Cabinet) (h : Play Seen) → StandsSlips b 0 (last h) → InRules b 0 after v h → (n : ℕ)
      → plain (turns_slips b 0 after v h n)
      ≡ turns b (heeds b after) (λ i. (last (turns_slips b 0 after v h (suc i))).at.state) (plain h) n
  loop_today v h s r zero = refl
  loop_today v h s r (suc n) =
      let o : ℕ → ℕ = λ i. (last (turns_slips b 0 after v h (suc i))).at.state in
      let (t, a) = loop_answered_slips done h s v r n in
      turn_today (turns_slips b 0 after v h n) t a v (r n)
      ∙ (ap (λ (k : Play MovedFigures). turn b (heeds b after) k (o n)) (loop_today v h s r n) ∙ sym (turns_next b (heeds b after) n o (plain h)))
