-- An answer is known by its figures: no two answers have the same, and an entry has one shape.
use Prim.Native.Nat.{ℕ, zero, suc}
use mathlib.Core.Bool.{true≢false}
use mathlib.Core.Logic.{◌≢◌}
use mathlib.Core.Path.{◌≡◌, refl, sym, ap, ◌∙◌}
use Rattle.std.specs.Prelude.{Option, Some, None, Result, Ok, Err}
use Rattle.rules.specs.Fault.{Fault}
use Rattle.rules.specs.Answers.{refusal_fault, value_number, AdvisedFigures, planned_fault, advised_figures, ShapeOf}
use Rattle.game.specs.declared.entry.Entry.{Entry}
use Rattle.rules.specs.declared.answer.Refusal.{Refusal}
use Rattle.rules.specs.declared.answer.Value.{Value}
use Rattle.rules.specs.declared.answer.Advice.{Advice}

-- what can be read back from an image is known by it
pub known_by : {A B : Type 0} (f : A → B) (g : B → A) → ((x : A) → g (f x) ≡ x) → (x y : A) → f x ≡ f y → x ≡ y
known_by f g back x y e = sym (back x) ∙ ap g e ∙ back y

-- the refusal of a number with record k; a number that no refusal has is given any
abbrev pub refusal_of : ℕ → ℕ → Refusal
refusal_of zero k = Refusal.Short
refusal_of (suc zero) k = Refusal.Short
refusal_of (suc (suc zero)) k = Refusal.Contents
refusal_of (suc (suc (suc zero))) k = Refusal.Counts
refusal_of (suc (suc (suc (suc zero)))) k = Refusal.Labels
refusal_of (suc (suc (suc (suc (suc zero))))) k = Refusal.Moves
refusal_of (suc (suc (suc (suc (suc (suc zero)))))) k = Refusal.Goal
refusal_of (suc (suc (suc (suc (suc (suc (suc zero))))))) k = Refusal.Room
refusal_of (suc (suc (suc (suc (suc (suc (suc (suc zero)))))))) k = Refusal.Room
refusal_of (suc (suc (suc (suc (suc (suc (suc (suc (suc zero))))))))) k = Refusal.Place
refusal_of (suc (suc (suc (suc (suc (suc (suc (suc (suc (suc zero)))))))))) k = Refusal.Entry
refusal_of (suc (suc (suc (suc (suc (suc (suc (suc (suc (suc (suc zero))))))))))) k = Refusal.Outcome
refusal_of (suc (suc (suc (suc (suc (suc (suc (suc (suc (suc (suc (suc zero)))))))))))) k = Refusal.Field k
refusal_of (suc (suc (suc (suc (suc (suc (suc (suc (suc (suc (suc (suc (suc zero))))))))))))) k = Refusal.Order k
refusal_of (suc (suc (suc (suc (suc (suc (suc (suc (suc (suc (suc (suc (suc (suc zero)))))))))))))) k = Refusal.NoClauses
refusal_of (suc (suc (suc (suc (suc (suc (suc (suc (suc (suc (suc (suc (suc (suc (suc zero))))))))))))))) k = Refusal.Clause
refusal_of (suc (suc (suc (suc (suc (suc (suc (suc (suc (suc (suc (suc (suc (suc (suc (suc zero)))))))))))))))) k = Refusal.Memory
refusal_of (suc (suc (suc (suc (suc (suc (suc (suc (suc (suc (suc (suc (suc (suc (suc (suc (suc zero))))))))))))))))) k = Refusal.Memory
refusal_of (suc (suc (suc (suc (suc (suc (suc (suc (suc (suc (suc (suc (suc (suc (suc (suc (suc (suc n)))))))))))))))))) k = Refusal.Slips

abbrev value_of : ℕ → Value
value_of zero = Value.Losing
value_of (suc zero) = Value.Pending
value_of (suc (suc n)) = Value.Winning

-- a refusal's number is never 0, and no two refusals share one with the same record
pub refusal_back : (r : Refusal) → refusal_of (refusal_fault r).number (refusal_fault r).«record» ≡ r
refusal_back Refusal.Short = refl
refusal_back Refusal.Contents = refl
refusal_back Refusal.Counts = refl
refusal_back Refusal.Labels = refl
refusal_back Refusal.Moves = refl
refusal_back Refusal.Goal = refl
refusal_back Refusal.Room = refl
refusal_back Refusal.Place = refl
refusal_back Refusal.Entry = refl
refusal_back Refusal.Outcome = refl
refusal_back (Refusal.Field k) = refl
refusal_back (Refusal.Order k) = refl
refusal_back Refusal.NoClauses = refl
refusal_back Refusal.Clause = refl
refusal_back Refusal.Memory = refl
refusal_back Refusal.Slips = refl

pub refusal_some : (r : Refusal) → (n : ℕ) × ((refusal_fault r).number ≡ suc n)
refusal_some Refusal.Short = (0, refl)
refusal_some Refusal.Contents = (1, refl)
refusal_some Refusal.Counts = (2, refl)
refusal_some Refusal.Labels = (3, refl)
refusal_some Refusal.Moves = (4, refl)
refusal_some Refusal.Goal = (5, refl)
refusal_some Refusal.Room = (6, refl)
refusal_some Refusal.Place = (8, refl)
refusal_some Refusal.Entry = (9, refl)
refusal_some Refusal.Outcome = (10, refl)
refusal_some (Refusal.Field k) = (11, refl)
refusal_some (Refusal.Order k) = (12, refl)
refusal_some Refusal.NoClauses = (13, refl)
refusal_some Refusal.Clause = (14, refl)
refusal_some Refusal.Memory = (16, refl)
refusal_some Refusal.Slips = (17, refl)

pub value_back : (v : Value) → value_of (value_number v) ≡ v
value_back Value.Losing = refl
value_back Value.Pending = refl
value_back Value.Winning = refl

pub value_known : (v w : Value) → value_number v ≡ value_number w → v ≡ w
value_known = known_by value_number value_of value_back

-- what is answered by a number, 0 or not, with record k
abbrev pub by_refusal : {A : Type 0} → ℕ → ℕ → A → (Refusal → A) → A
by_refusal zero k done refused = done
by_refusal (suc n) k done refused = refused (refusal_of (suc n) k)

pub by_refusal_back : {A : Type 0} (r : Refusal) (done : A) (refused : Refusal → A)
    → by_refusal (refusal_fault r).number (refusal_fault r).«record» done refused ≡ refused r
by_refusal_back r done refused =
    let n = refusal_some r in
    rw n.1 (ap refused (ap (λ (m : ℕ). refusal_of m (refusal_fault r).«record») (sym n.1) ∙ refusal_back r))

abbrev planned_of : Fault → Result (Unit {0}) Refusal
planned_of f = by_refusal f.number f.«record» (Ok tt) Err

planned_back : (r : Result (Unit {0}) Refusal) → planned_of (planned_fault r) ≡ r
planned_back (Ok x) = refl
planned_back (Err r) = by_refusal_back r (Ok tt) Err

abbrev advised_of : AdvisedFigures → Result Advice Refusal
advised_of f =
    by_refusal f.refusal f.«record» (Ok (record { value = value_of f.value; action = f.action; number = f.number })) Err

advised_back : (r : Result Advice Refusal) → advised_of (advised_figures r) ≡ r
advised_back (Ok x) = ap (λ (w : Value). Ok (record x { value = w })) (value_back x.value)
advised_back (Err r) = by_refusal_back r _ Err

-- a refusal by another number than 12 and 13 names no record
pub record_none : (r : Refusal) → (refusal_fault r).number ≢ 12 → (refusal_fault r).number ≢ 13 → (refusal_fault r).«record» ≡ 0
record_none (Refusal.Field k) f o = absurd (f refl)
record_none (Refusal.Order k) f o = absurd (o refl)
record_none Refusal.Short f o = refl
record_none Refusal.Contents f o = refl
record_none Refusal.Counts f o = refl
record_none Refusal.Labels f o = refl
record_none Refusal.Moves f o = refl
record_none Refusal.Goal f o = refl
record_none Refusal.Room f o = refl
record_none Refusal.Place f o = refl
record_none Refusal.Entry f o = refl
record_none Refusal.Outcome f o = refl
record_none Refusal.NoClauses f o = refl
record_none Refusal.Clause f o = refl
record_none Refusal.Memory f o = refl
record_none Refusal.Slips f o = refl

pub planned_known : (r s : Result (Unit {0}) Refusal) → planned_fault r ≡ planned_fault s → r ≡ s
planned_known = known_by planned_fault planned_of planned_back

pub advised_known : (r s : Result Advice Refusal) → advised_figures r ≡ advised_figures s → r ≡ s
advised_known = known_by advised_figures advised_of advised_back

-- of an entry's shape one thing only can be said
pub shape_unique : (actions n : ℕ) (e : Entry) (x y : Option Value) → ShapeOf actions n e x → ShapeOf actions n e y → x ≡ y
shape_unique actions n e (Some v) (Some w) (s, p) (t, q) = ap Some (value_known v w (sym p ∙ q))
shape_unique actions n e (Some v) None (s, p) t = absurd (true≢false (sym s ∙ t))
shape_unique actions n e None (Some w) s (t, q) = absurd (true≢false (sym t ∙ s))
shape_unique actions n e None None s t = refl
