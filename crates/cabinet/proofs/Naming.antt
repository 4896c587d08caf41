-- Which record following names: where it succeeds, the one with the state, the action and the outcome; and 11 is given where there is none.
use Prim.Native.Nat.{ℕ}
use mathlib.Core.Bool.{Bool, true, false, cond, not}
use mathlib.Core.List.{List}
use mathlib.Core.Logic.{inl, inr, ◌↔◌, ◌≢◌}
use mathlib.Core.Path.{◌≡◌, refl, sym, ap, subst, ◌∙◌}
use native.Mathlib.Omega.{arith}
use borrow.Author.Tests.{eq-eqb, eqb-true, not-false, not-true}
use lib.Dec.{eqb}
use Rattle.rules.specs.Job.{entered, recorded, record_number}
use Rattle.rules.specs.Fault.{Fault, only}
use Rattle.rules.specs.Bytes.{fault, refusal, said}
use Rattle.rules.specs.Keeps.{Keeps}
use Rattle.rules.specs.Answers as answers
use Rattle.rules.specs.Calls.{refused_move, moved_by, is_place, followed}
use Rattle.game.proofs.Search.{clash, if_not_true}
use Rattle.rules.proofs.Numbers.{Among, told}
use Rattle.rules.proofs.Kept.{kept}
use Rattle.rules.proofs.Arenas.{recorded_iff}
use Rattle.rules.proofs.Recorded.{Matches, match_iff, number_matches, matches_alone}
use Rattle.cabinet.specs.Figures.{figures_moved}
use Rattle.cabinet.specs.declared.calls.MovedFigures.{MovedFigures}
use Rattle.cabinet.proofs.Starting.{When, followed_when}

-- three tests in a row gave 11, which the first one's fault is not: it was the last that refused
by_the_last : (x y z : Bool) (f : Fault) (to : answers.MovedFigures) → f.number ≢ 11 → to.refusal ≡ 0
    → (cond x (refused_move f) (cond y (refused_move (only 9)) (cond z (refused_move (only 11)) to))).refusal ≡ 11
    → (x ≡ false) × (y ≡ false) × (z ≡ true)
by_the_last true y z f to other done e = absurd (other e)
by_the_last false true z f to other done e = absurd (omega arith)
by_the_last false false true f to other done e = (refl, refl, refl)
by_the_last false false false f to other done e = absurd (omega arith)

module _ (b : List ℕ) (s q a t : ℕ) (r : MovedFigures) (e : figures_moved r ≡ followed b s q a t) where
  -- Where following succeeds, its record is one of the job's, and has this state, action and outcome; and no other has.
  pub follow_names : r.refusal ≡ 0 → (k : ℕ) → Matches (said b) s a t k ↔ (k ≡ r.«record»)
  follow_names = subst (When Names) (sym e) (followed_when b s q a t Names names)
    where
      Names : answers.MovedFigures → Type 0
      Names f = (k : ℕ) → Matches (said b) s a t k ↔ (k ≡ f.«record»)

      names : Keeps b → is_place (said b) s q ≡ true → recorded (said b) s a t ≡ true
          → Names (moved_by (record_number (said b) s a t) (entered (said b) q t))
      names keeps p y k =
          let m = number_matches (said b) s a t y in
          (λ n. matches_alone keeps n m, λ d. subst (Matches (said b) s a t) (sym d) m)

  -- It gives 11 exactly where the bytes keep the rules, state and goal state are a place, and no record has them.
  pub follow_unlisted : (r.refusal ≡ 11)
      ↔ (Keeps b × (is_place (said b) s q ≡ true) × ((k : ℕ) → Matches (said b) s a t k → ⊥))
  follow_unlisted = (into, back)
    where
      not_11 : Among (refusal b) → refusal b ≢ 11
      not_11 (inl h) d = omega arith
      not_11 (inr (inl h)) d = omega arith
      not_11 (inr (inr h)) d = omega arith

      into : r.refusal ≡ 11 → Keeps b × (is_place (said b) s q ≡ true) × ((k : ℕ) → Matches (said b) s a t k → ⊥)
      into d =
          let j = said b in
          let given = ap (λ (f : answers.MovedFigures). f.refusal) (sym e) ∙ d in
          let (x, y, z) = by_the_last (not (eqb (refusal b) 0)) (not (is_place j s q)) (not (recorded j s a t)) (fault b)
          (moved_by (record_number j s a t) (entered j q t)) (not_11 (told b).among) refl given in
          let none = not-true (recorded j s a t) z in (
            (kept b).0 (eqb-true (refusal b) 0 (not-false (eqb (refusal b) 0) x)),
            not-false (is_place j s q) y,
            λ k m. let (h, i) = (match_iff j s a t k).1 m in clash ((recorded_iff j s a t).1 (k, h, i)) none,
          )

      back : Keeps b × (is_place (said b) s q ≡ true) × ((k : ℕ) → Matches (said b) s a t k → ⊥) → r.refusal ≡ 11
      back (keeps, p, none) =
          let n = if_not_true (recorded (said b) s a t) (λ y. none (record_number (said b) s a t) (number_matches (said b) s a t y)) in
          let given : (followed b s q a t).refusal ≡ 11 = rw (eq-eqb (refusal b) 0 ((kept b).1 keeps), p, n) refl in
          ap (λ (f : answers.MovedFigures). f.refusal) e ∙ given
