-- The check's answer is known by its figures: two answers that one promise allows are the same.
use Prim.Native.Nat.{ℕ}
use mathlib.Core.Bool.{cond}
use mathlib.Core.List.{List}
use mathlib.Core.Path.{◌≡◌, refl}
use lib.Dec.{eqb}
use Rattle.std.specs.Prelude.{Result, Ok, Err}
use Rattle.rules.specs.declared.answer.Refusal.{Refusal}
use Rattle.rules.proofs.Figures.{known_by, by_refusal}
use Rattle.checking.specs.Checking.{CheckedFigures, checked_figures, Checks}
use Rattle.checking.specs.declared.check.CheckError.{CheckError}
use Rattle.checking.proofs.Checked.{checking_unique}

abbrev checked_of : CheckedFigures → Result (Unit {0}) CheckError
checked_of f =
    cond (eqb f.fault.number 16) (Err (CheckError.Wrong f.state f.goal))
    (by_refusal f.fault.number f.fault.«record» (Ok tt) (λ r. Err (CheckError.Refused r)))

checked_back : (r : Result (Unit {0}) CheckError) → checked_of (checked_figures r) ≡ r
checked_back (Ok x) = refl
checked_back (Err (CheckError.Wrong s q)) = refl
checked_back (Err (CheckError.Refused Refusal.Short)) = refl
checked_back (Err (CheckError.Refused Refusal.Contents)) = refl
checked_back (Err (CheckError.Refused Refusal.Counts)) = refl
checked_back (Err (CheckError.Refused Refusal.Labels)) = refl
checked_back (Err (CheckError.Refused Refusal.Moves)) = refl
checked_back (Err (CheckError.Refused (Refusal.Field k))) = refl
checked_back (Err (CheckError.Refused (Refusal.Order k))) = refl
checked_back (Err (CheckError.Refused Refusal.Goal)) = refl
checked_back (Err (CheckError.Refused Refusal.Room)) = refl
checked_back (Err (CheckError.Refused Refusal.Place)) = refl
checked_back (Err (CheckError.Refused Refusal.Entry)) = refl
checked_back (Err (CheckError.Refused Refusal.Outcome)) = refl
checked_back (Err (CheckError.Refused Refusal.NoClauses)) = refl
checked_back (Err (CheckError.Refused Refusal.Clause)) = refl
checked_back (Err (CheckError.Refused Refusal.Memory)) = refl
checked_back (Err (CheckError.Refused Refusal.Slips)) = refl

pub checked_known : (r s : Result (Unit {0}) CheckError) → checked_figures r ≡ checked_figures s → r ≡ s
checked_known = known_by checked_figures checked_of checked_back

pub checked_unique : {b p : List ℕ} (r s : Result (Unit {0}) CheckError) → Checks b p (checked_figures r) → Checks b p (checked_figures s) → r ≡ s
checked_unique r s c d =
    let (f, t, q) = checking_unique c d in checked_known r s (λ i. record { fault = f i; state = t i; goal = q i })
