-- Where a caller comes to stand: a start that is not refused is one of the job's places, and every move that is followed is one of the
-- game's.
use Prim.Native.Nat.{ℕ}
use mathlib.Core.Bool.{Bool, true, false, cond, not}
use mathlib.Core.List.{List}
use mathlib.Core.Logic.{◌≢◌}
use mathlib.Core.Path.{◌≡◌, refl, sym, ap}
use native.Mathlib.Omega.{arith}
use borrow.Author.Tests.{eq-eqb, eqb-true, eqb-false, not-false, not-true}
use lib.Dec.{eqb}
use Rattle.game.specs.Game.{Inside, Listed}
use Rattle.rules.specs.Job.{Job, place, entered, start, recorded, record_number, arena}
use Rattle.rules.specs.Fault.{Fault, only}
use Rattle.rules.specs.Bytes.{fault, refusal, said}
use Rattle.rules.specs.Keeps.{Keeps}
use Rattle.rules.specs.Answers.{MovedFigures}
use Rattle.rules.specs.declared.place.Place.{Place}
use Rattle.rules.specs.Calls.{refused_move, moved_by, moved_to, started, is_place, followed}
use Rattle.game.proofs.Tests.{and_iff, ltb_iff}
use Rattle.rules.proofs.Kept.{kept}
use Rattle.rules.proofs.Arenas.{inside_iff, is_record_iff, recorded_iff, leads_iff, entered_inside, start_inside}

-- P holds of an answer that is not refused
abbrev pub When : (MovedFigures → Type 0) → MovedFigures → Type 0
When P f = f.refusal ≡ 0 → P f

-- a test x that refuses by some number, and else an answer of which P holds
past : (P : MovedFigures → Type 0) (x : Bool) (f : Fault) (y : MovedFigures) → (x ≡ true → f.number ≢ 0) → (x ≡ false → When P y)
    → When P (cond x (refused_move f) y)
past P true f y some holds e = absurd (some refl e)
past P false f y some holds e = holds refl e

-- the bytes are judged first
pub judged : (P : MovedFigures → Type 0) (b : List ℕ) (y : MovedFigures) → (Keeps b → When P y)
    → When P (cond (not (eqb (refusal b) 0)) (refused_move (fault b)) y)
judged P b y holds =
    past P (not (eqb (refusal b) 0)) (fault b) y
    (λ e. eqb-false (refusal b) 0 (not-true (eqb (refusal b) 0) e))
    (λ e. holds ((kept b).0 (eqb-true (refusal b) 0 (not-false (eqb (refusal b) 0) e))))

-- the place that an answer names is one of j's
abbrev pub Lands : Job → MovedFigures → Type 0
Lands j f = Inside (arena j) (place f.state f.goal)

pub started_inside : (b : List ℕ) → When (Lands (said b)) (started b)
started_inside b = judged (Lands (said b)) b (moved_to (start (said b))) (λ k e. start_inside b k)

module _ (b : List ℕ) (s q a t : ℕ) where
  -- what holds of the place entered by a record that is there holds of every move that is followed
  pub followed_when : (P : MovedFigures → Type 0)
      → (Keeps b → is_place (said b) s q ≡ true → recorded (said b) s a t ≡ true
      → P (moved_by (record_number (said b) s a t) (entered (said b) q t)))
      → When P (followed b s q a t)
  followed_when P holds =
      let j = said b in
      let to = moved_by (record_number j s a t) (entered j q t) in
      let known = cond (not (recorded j s a t)) (refused_move (only 11)) to in
      judged P b (cond (not (is_place j s q)) (refused_move (only 9)) known)
      (λ k. past P (not (is_place j s q)) (only 9) known (λ _. omega arith)
      (λ p. past P (not (recorded j s a t)) (only 11) to (λ _. omega arith)
      (λ r e. holds k (not-false (is_place j s q) p) (not-false (recorded j s a t) r))))

  pub followed_inside : When (Lands (said b)) (followed b s q a t)
  followed_inside =
      followed_when (Lands (said b))
      (λ k p r.
      let (h, g) = (and_iff (ltb_iff s (said b).states) (ltb_iff q (said b).goals)).0 p in
      let (i, l, m) = (recorded_iff (said b) s a t).0 r in
      entered_inside k g (rw ((is_record_iff ((said b).move i) s a t).0 m).1 at (k.outcome_below i l)))

  -- a move that is followed is a move of the game
  pub followed_listed : When (λ f. Listed (arena (said b)) (place s q) a (place f.state f.goal)) (followed b s q a t)
  followed_listed =
      followed_when (λ f. Listed (arena (said b)) (place s q) a (place f.state f.goal))
      (λ k p r.
      let (i, l, m) = (recorded_iff (said b) s a t).0 r in
      let (from, to) = (is_record_iff ((said b).move i) s a t).0 m in
      (leads_iff (said b) (place s q) (entered (said b) q t) a).1 (i, l, from, ap (entered (said b) q) (sym to)))

  -- a record that is there can be followed
  pub recorded_followed : Keeps b → is_place (said b) s q ≡ true → recorded (said b) s a t ≡ true
      → followed b s q a t ≡ moved_by (record_number (said b) s a t) (entered (said b) q t)
  recorded_followed k p r = rw (eq-eqb (refusal b) 0 ((kept b).1 k), p, r)

-- and every move of the game from a place is one that can be followed
pub listed_followed : (b : List ℕ) (s q a : ℕ) (p : Place) → Keeps b → Inside (arena (said b)) (place s q)
    → Listed (arena (said b)) (place s q) a p → followed b s q a p.state ≡ moved_by (record_number (said b) s a p.state) p
listed_followed b s q a p k i m =
    let j = said b in
    let (n, l, from, to) = (leads_iff j (place s q) p a).0 m in
    let o = (j.move n).outcome in
    let known : recorded j s a o ≡ true = (recorded_iff j s a o).1 (n, l, (is_record_iff (j.move n) s a o).1 (from, refl)) in
    let at : is_place j s q ≡ true = (and_iff (ltb_iff s j.states) (ltb_iff q j.goals)).1 ((inside_iff j (place s q)).0 i) in
    rw to (recorded_followed b s q a o k at known)
