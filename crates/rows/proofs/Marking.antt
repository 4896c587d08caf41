-- The laws of final goal states: the words of a line that name one.
use Rattle.std.proofs.Common.{ℕ, ◌+◌, ◌≤◌, ◌<◌, length, List, ◌∷◌, ◌≡◌, ◌∙◌, true}
use mathlib.Core.Logic.{⊎_elim}
use native.Mathlib.Omega.{arith}
use borrow.Author.Tests.{eq-eqb, ne_eqb}
use Rattle.sets.proofs.Bits.{below_or}
use Rattle.lines.specs.Names.{index_of}
use Rattle.lines.specs.Says.{names_some}
use Rattle.lines.proofs.Saying.{one_named, other_named}

module _ (goals : List (List ℕ)) {l ws : List (List ℕ)} {w : List ℕ} (n : l ≡ w ∷ ws) (x : ℕ) (z : x ≡ index_of goals w) (q : ℕ) where
  pub named_here : q < length goals → x ≡ q → names_some goals 0 q l ≡ true
  named_here h y = one_named n goals 0 x z (omega arith) q ∙ rw (eq-eqb q (0 + x) (omega arith))

  pub named_later : (x ≡ q → ⊥) → names_some goals 0 q l ≡ names_some goals 0 q ws
  named_later y =
      ⊎_elim
      (λ (h : x < length goals). one_named n goals 0 x z h q ∙ rw (ne_eqb q (0 + x) (λ r. y (omega arith))))
      (λ (h : length goals ≤ x). other_named n goals 0 x z h q) (below_or x (length goals))
