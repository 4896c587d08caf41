-- What is printed is fixed by the job: the refusal's line alone, or the listing of the plan; of One plate it is document 01's text.
use Prim.Native.Nat.{ℕ, ◌≤◌}
use mathlib.Core.List.{List, ◌++◌}
use mathlib.Core.Path.{◌≡◌, refl, sym, ap, subst}
use native.Mathlib.Omega.{arith}
use lib.ListN.{length}
use Rattle.rules.specs.Fault.{Fault, only}
use Rattle.rules.specs.Bytes.{fault, refusal, said}
use Rattle.rules.specs.Keeps.{Keeps}
use Rattle.rules.specs.Job.{place, entry_number}
use Rattle.rules.specs.Plan.{entry, room}
use Rattle.rules.specs.Retold.{retold}
use Rattle.rules.specs.Calls.{Planning, refused, no_room, planned}
use Rattle.rules.proofs.Kept.{kept, places_few}
use Rattle.rules.proofs.Unique.{planning_unique}
use Rattle.rules.proofs.Retelling.{retold_same, retold_keeps}
use Rattle.rules.proofs.Same.{same_start, same_planning}
use Rattle.text.specs.Lines.{entry_line, start_line, refusal_line}
use Rattle.listing.specs.Listing.{lines, listing, Prints, refuses, lists}
use Rattle.listing.proofs.Listings.{keeps}

-- Two texts that may be printed of one job are the same.
pub prints_unique : {b before t u : List ℕ} → Prints b before t → Prints b before u → t ≡ u
prints_unique (refuses p z) (refuses p' z') = ap refusal_line (planning_unique p p').0
prints_unique (refuses p z) (lists d) = absurd (z (ap (λ (f : Fault). f.number) (planning_unique p d).0))
prints_unique (lists d) (refuses p z) = absurd (z (ap (λ (f : Fault). f.number) (planning_unique p d).0))
prints_unique {b} (lists d) (lists d') = ap (listing (said b)) (planning_unique d d').1

-- A job that keeps the rules always has room in a plan of 65,536 bytes.
has_room : {b : List ℕ} → Keeps b → room (said b) ≤ 65536
has_room k = omega (arith, places_few k)

-- With such a buffer, which the program has: a job that keeps the rules is listed by its plan,
pub prints_plan : {b before text : List ℕ} → Keeps b → 65536 ≤ length before → Prints b before text
    → (after : List ℕ) × Planning b before (only 0) after × (text ≡ listing (said b) after)
prints_plan {b} k h (refuses (refused n) z) = absurd (n ((kept b).1 k))
prints_plan k h (refuses (no_room e l) z) = absurd (omega (arith, has_room k))
prints_plan k h (refuses (planned e l p) z) = absurd (z refl)
prints_plan k h (lists {after} d) = (after, d, refl)

-- and of any other the line of the first number that applies, with its record, is printed alone.
pub prints_refusal : {b before text : List ℕ} → (refusal b ≡ 0 → ⊥) → Prints b before text → text ≡ refusal_line (fault b)
prints_refusal n (refuses (refused m) z) = refl
prints_refusal n (refuses (no_room e l) z) = absurd (n e)
prints_refusal n (refuses (planned e l p) z) = absurd (n e)
prints_refusal {b} n (lists d) = absurd (n ((kept b).1 (keeps d)))

-- ---- Of a job rewritten in the tall form the same text is printed.

module _ {b : List ℕ} (k : Keeps b) where
  listing_retold : (p : List ℕ) → listing (said b) p ≡ listing (said (retold b)) p
  listing_retold p =
      let s = retold_same k in
      let x = same_start k (retold_keeps k) s in
      λ i. start_line (x i).state (x i).goal (entry p (entry_number (s.goals i) (x i))).value
      ++ lines (λ t q. let e = entry p (entry_number (s.goals i) (place t q)) in entry_line t q e.value e.action e.number)
      (s.states i) (s.goals i)

  pub prints_retold : {before text : List ℕ} → Prints b before text → Prints (retold b) before text
  prints_retold (refuses p z) = refuses (same_planning k (retold_keeps k) (retold_same k) p) z
  prints_retold {before} (lists {after} d) =
      subst (Prints (retold b) before) (sym (listing_retold after)) (lists (same_planning k (retold_keeps k) (retold_same k) d))
