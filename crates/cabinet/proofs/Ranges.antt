-- What each of the calls for C gives: 0 where it succeeds, the numbers that documents 01 and 02 name for it, and no other; 12 and 13 alone
-- name a record, save that following names one where it succeeds.
use Prim.Native.Nat.{ℕ}
use mathlib.Core.Bool.{Bool, true, false, cond, not}
use mathlib.Core.List.{List, [], ◌∷◌, map}
use mathlib.Core.Logic.{◌⊎◌, inl, inr}
use mathlib.Core.Path.{◌≡◌, refl, sym, subst}
use native.Mathlib.Omega.{arith}
use lib.Dec.{ltb, eqb}
use lib.ListN.{length, set, replicate}
use Rattle.rules.specs.Job.{place, places, entry_number, entered, start, recorded, record_number}
use Rattle.rules.specs.Fault.{Fault, only, with_record}
use Rattle.rules.specs.Bytes.{fault, refusal, said}
use Rattle.rules.specs.Plan.{entry, room, shaped}
use Rattle.rules.specs.Calls.{Planning, refused, no_room, planned, refused_move, moved_by, moved_to, started, is_place, followed}
use Rattle.rules.specs.Calls.{refused_advice, advice_of, advised}
use Rattle.rules.specs.Answers as answers
use Rattle.rules.specs.Answers.{moved_fault, advised_fault}
use Rattle.rules.specs.Examples.{plate}
use Rattle.rules.proofs.Numbers.{Among, Told, told}
use Rattle.cabinet.specs.Figures.{figures_planned, figures_moved, figures_advised}
use Rattle.cabinet.specs.declared.calls.PlannedFigures.{PlannedFigures}
use Rattle.cabinet.specs.declared.calls.MovedFigures.{MovedFigures}
use Rattle.cabinet.specs.declared.calls.AdvisedFigures.{AdvisedFigures}

-- 0, or what refuses a job's bytes: 1 to 6, 12 and 13
abbrev pub OfJob : ℕ → Type 0
OfJob = Among

-- planning: also 7; following: also 9 and 11; advice: also 7, 9 and 10
abbrev pub OfPlanning : ℕ → Type 0
OfPlanning n = OfJob n ⊎ (n ≡ 7)

abbrev pub OfFollowing : ℕ → Type 0
OfFollowing n = OfJob n ⊎ ((n ≡ 9) ⊎ (n ≡ 11))

abbrev pub OfAdvice : ℕ → Type 0
OfAdvice n = OfJob n ⊎ ((n ≡ 7) ⊎ ((n ≡ 9) ⊎ (n ≡ 10)))

-- a number alone that is allowed; what refuses the bytes, where more than that is allowed
pub alone : {P : ℕ → Type 0} (n : ℕ) → P n → Told P (only n)
alone n h = record { among = h; no_record = λ d e. refl }

pub of_bytes : (b : List ℕ) {P : ℕ → Type 0} → ((n : ℕ) → OfJob n → P n) → Told P (fault b)
of_bytes b wider = record { among = wider _ (told b).among; no_record = (told b).no_record }

pub of_success : OfJob 0
of_success = inl (omega arith)

pub plan_range : {b before after : List ℕ} (r : PlannedFigures) → Planning b before (figures_planned r) after
    → Told OfPlanning (figures_planned r)
plan_range r p = go p
  where
    go : {b before after : List ℕ} {f : Fault} → Planning b before f after → Told OfPlanning f
    go {b} (refused n) = of_bytes b (λ n h. inl h)
    go (no_room e l) = alone 7 (inr refl)
    go (planned e l p) = alone 0 (inl of_success)

-- a test that refuses by f, and else the answer y
past_move : (P : answers.MovedFigures → Type 0) (x : Bool) (f : Fault) (y : answers.MovedFigures) → P (refused_move f) → P y
    → P (cond x (refused_move f) y)
past_move P true f y h k = h
past_move P false f y h k = k

pub past_advice : (P : ℕ → Type 0) (x : Bool) (f : Fault) (y : answers.AdvisedFigures) → Told P f → Told P (advised_fault y)
    → Told P (advised_fault (cond x (refused_advice f) y))
past_advice P true f y h k = h
past_advice P false f y h k = k

pub start_range : (b : List ℕ) (r : MovedFigures) → figures_moved r ≡ started b → Told OfJob (moved_fault (figures_moved r))
start_range b r e =
    let Gives : answers.MovedFigures → Type 0 = λ f. Told OfJob (moved_fault f) in
    subst Gives (sym e) (past_move Gives (not (eqb (refusal b) 0)) (fault b) (moved_to (start (said b))) (told b) (alone 0 of_success))

-- following succeeds, with the record that `follow_names` says, or is refused
pub follow_range : (b : List ℕ) (s q a t : ℕ) (r : MovedFigures) → figures_moved r ≡ followed b s q a t
    → (r.refusal ≡ 0) ⊎ Told OfFollowing (moved_fault (figures_moved r))
follow_range b s q a t r e =
    let j = said b in
    let to = moved_by (record_number j s a t) (entered j q t) in
    let known = cond (not (recorded j s a t)) (refused_move (only 11)) to in
    subst Gives (sym e)
    (past_move Gives (not (eqb (refusal b) 0)) (fault b) (cond (not (is_place j s q)) (refused_move (only 9)) known)
    (inr (of_bytes b (λ n h. inl h)))
    (past_move Gives (not (is_place j s q)) (only 9) known (inr (alone 9 (inr (inl refl))))
    (past_move Gives (not (recorded j s a t)) (only 11) to (inr (alone 11 (inr (inr refl)))) (inl refl))))
  where
    Gives : answers.MovedFigures → Type 0
    Gives f = (f.refusal ≡ 0) ⊎ Told OfFollowing (moved_fault f)

pub advice_range : (b p : List ℕ) (s q : ℕ) (r : AdvisedFigures) → figures_advised r ≡ advised b p s q
    → Told OfAdvice (advised_fault (figures_advised r))
advice_range b p s q r e =
    let j = said b in
    let x = entry p (entry_number j.goals (place s q)) in
    let shape = shaped j.actions (places j) x in
    let known = cond (not shape) (refused_advice (only 10)) (advice_of x) in
    let at = cond (not (is_place j s q)) (refused_advice (only 9)) known in
    subst (λ (f : answers.AdvisedFigures). Told OfAdvice (advised_fault f)) (sym e)
    (past_advice OfAdvice (not (eqb (refusal b) 0)) (fault b) (cond (ltb (length p) (room j)) (refused_advice (only 7)) at)
    (of_bytes b (λ n h. inl h))
    (past_advice OfAdvice (ltb (length p) (room j)) (only 7) at (alone 7 (inr (inl refl)))
    (past_advice OfAdvice (not (is_place j s q)) (only 9) known (alone 9 (inr (inr (inl refl))))
    (past_advice OfAdvice (not shape) (only 10) (advice_of x) (alone 10 (inr (inr (inr refl)))) (alone 0 (inl of_success))))))

-- ---- and each of them is given: of One plate, and of One plate with one byte changed or none left, or with Moves a byte shorter and Goal
-- a byte longer

-- record 3 with a field out of range, and record 5 not after record 4
abbrev pub field_out : List ℕ
field_out = set plate 37 4

abbrev pub order_out : List ℕ
order_out = set plate 41 1

abbrev not_whole : List ℕ
not_whole = set (set (set plate 10 17) 12 43) 14 16

abbrev jobs : List (List ℕ)
jobs =
    plate ∷ [] ∷ set plate 0 17 ∷ set plate 16 0 ∷ set plate 22 4 ∷ not_whole ∷ set plate 44 3 ∷ field_out ∷ order_out ∷ []

abbrev of_job : List Fault
of_job =
    only 0 ∷ only 1 ∷ only 2 ∷ only 3 ∷ only 4 ∷ only 5 ∷ only 6 ∷ with_record 12 3 ∷ with_record 13 5 ∷ []

pub start_given : map (λ (b : List ℕ). moved_fault (started b)) jobs ≡ of_job
start_given = refl

pub follow_given : (map (λ (b : List ℕ). moved_fault (followed b 0 0 0 1)) jobs ≡ of_job)
    × (moved_fault (followed plate 1 0 1 2) ≡ with_record 0 3)
    × (moved_fault (followed plate 4 0 0 1) ≡ only 9)
    × (moved_fault (followed plate 0 0 0 2) ≡ only 11)
follow_given = (refl, refl, refl, refl)

-- a plan whose first entry is the one of a losing place, and every other byte 0
abbrev scribbled : List ℕ
scribbled = set (replicate 48 0) 1 255

pub advice_given : (map (λ (b : List ℕ). advised_fault (advised b scribbled 0 0)) jobs ≡ of_job)
    × (advised_fault (advised plate [] 0 0) ≡ only 7)
    × (advised_fault (advised plate scribbled 4 0) ≡ only 9)
    × (advised_fault (advised plate scribbled 0 1) ≡ only 10)
advice_given = (refl, refl, refl, refl)

-- planning refuses the same jobs in the same way (`refused`), 12 and 13 among them, and gives 7 too
pub plan_given : Planning plate [] (only 7) [] × Planning field_out [] (with_record 12 3) [] × Planning order_out [] (with_record 13 5) []
plan_given = (no_room refl (omega arith), refused (λ e. omega arith), refused (λ e. omega arith))
