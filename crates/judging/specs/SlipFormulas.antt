-- The formula of slips: their clauses, joined by and.
use Rattle.std.specs.Prelude.{List, [], ◌∷◌}
use Rattle.rules.specs.Formula.{Formula}
use Rattle.slips.specs.Clauses.{Clause, formula}

unfoldable pub goal_of : List Clause → Formula
goal_of [] = Formula.not (Formula.and (Formula.atom 0) (Formula.not (Formula.atom 0)))
goal_of (c ∷ []) = formula c
goal_of (c ∷ d ∷ cs) = Formula.and (formula c) (goal_of (d ∷ cs))
