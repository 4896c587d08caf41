-- The test that decides whether a formula holds at the first moment of a trace; at a later one, of what is left of it.
-- `sat_iff` of proofs/Decided.antt shows that it decides `Holds`.
use Rattle.std.specs.Prelude.{ℕ, Bool, true, false, not, ◌&&◌, ◌||◌, List, [], ◌∷◌, ltb, length, get_or, drop}
use Rattle.sets.specs.Sets.{bit}
use Rattle.rules.specs.Formula.{Formula}

-- there is a next moment, and a passes from it on
abbrev pub after : (List ℕ → Bool) → List ℕ → Bool
after a t = ltb 1 (length t) && a (drop 1 t)

-- b passes at some moment, and a at all before it
unfoldable pub walk : (List ℕ → Bool) → (List ℕ → Bool) → List ℕ → Bool
walk a b [] = false
walk a b (l ∷ ls) = b (l ∷ ls) || (a (l ∷ ls) && walk a b ls)

unfoldable pub sat : Formula → List ℕ → Bool
sat (Formula.atom p) t = bit (get_or t 0 0) p
sat (Formula.not f) t = not (sat f t)
sat (Formula.and f g) t = sat f t && sat g t
sat (Formula.next f) t = after (sat f) t
sat (Formula.until f g) t = walk (sat f) (sat g) t
sat (Formula.weak_next f) t = not (after (λ s. not (sat f s)) t)
sat (Formula.eventually f) t = walk (λ s. true) (sat f) t
sat (Formula.always f) t = not (walk (λ s. true) (λ s. not (sat f s)) t)
