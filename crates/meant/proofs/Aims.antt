-- The laws of a job whose goal and start were meant: the Goal body is what stands from its offset on, and the layout has the first numbers.
use Prim.Native.Nat.{ℕ, ◌-◌, ◌≤◌}
use mathlib.Core.Bool.{Bool, true}
use mathlib.Core.List.{List}
use mathlib.Core.Logic.{◌↔◌}
use mathlib.Core.Path.{◌≡◌, sym, ap, ◌∙◌}
use native.Mathlib.Omega.{arith}
use borrow.Author.Tests.{eqb-true, eq-eqb}
use lib.Dec.{eqb}
use lib.ListN.{length, take, drop}
use Rattle.rules.specs.Bytes.{offset, size, said}
use Rattle.slips.specs.Playing.{goal_body}
use Rattle.job.specs.Layout.{Fit}
use Rattle.job.specs.declared.layout.Layout.{Layout}
use Rattle.job.proofs.Asking.{first_said, first_goal_said}
use Rattle.lines.specs.Words.{same_word}
use Rattle.lines.proofs.Wording.{same_word_true, same_word_eq}
use Rattle.meant.specs.Aimed.{Aimed}

module _ {b : List ℕ} {l : Layout} (f : Fit b l) where
  -- the Goal body ends where the job ends
  goal_whole : take (length b - l.goal_at) (drop l.goal_at b) ≡ goal_body b
  goal_whole = rw f.is_layout (ap (λ (k : ℕ). take k (drop (offset b 3) b)) left)
    where
      left : length b - offset b 3 ≡ size b 3
      left = omega (arith, f.keeps.ends)

  module _ {body : List ℕ} {n first : ℕ} where
    pub same_bytes : {r : Bool} → n ≤ length body → l.first_goal ≡ first
        → r ≡ same_word (take (length b - l.goal_at) (drop l.goal_at b)) (take n body) → (r ≡ true) ↔ Aimed b body n first
    same_bytes h q z = (
      λ e. record { room = h; same_body = sym goal_whole ∙ same_word_true _ _ (sym z ∙ e); same_first = sym (first_goal_said f) ∙ q },
      λ x. z ∙ same_word_eq _ _ (goal_whole ∙ x.same_body),
    )

  pub same_start : {start : ℕ} → (eqb l.first start ≡ true) ↔ ((said b).first ≡ start)
  same_start {start} = (λ e. sym (first_said f) ∙ eqb-true l.first start e, λ x. eq-eqb l.first start (first_said f ∙ x))
