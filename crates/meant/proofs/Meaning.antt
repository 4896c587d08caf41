-- The laws of a job that was meant: its records are the numbers of a set, seen from both sides.
use Prim.Native.Nat.{ℕ, ◌/◌, ◌%◌, ◌<◌}
use mathlib.Core.Bool.{true}
use mathlib.Core.List.{List}
use mathlib.Core.Path.{◌≡◌, sym}
use native.Mathlib.Omega.{arith}
use lib.ListN.{get_or}
use Rattle.std.specs.Prelude.{Option, Some, None, is_some}
use Rattle.game.proofs.Tests.{same_test, some_met, and_iff, eqb_iff}
use Rattle.rules.specs.Job.{Job, is_record, recorded}
use Rattle.rules.specs.Bytes.{byte, said}
use Rattle.rules.proofs.Arenas.{is_record_iff}
use Rattle.job.specs.Layout.{Fit}
use Rattle.job.specs.Found.{FoundOf}
use Rattle.job.specs.declared.layout.Layout.{Layout}
use Rattle.job.proofs.Asking.{records_said, states_said}
use Rattle.lines.specs.Numbers.{has}
use Rattle.lines.specs.Says.{number}
use Rattle.meant.specs.Meant.{move_number, Meant}

-- a record is there where looking for it finds it
pub found_recorded : (j : Job) (s a t : ℕ) (o : Option ℕ) → FoundOf j s a t o → is_some o ≡ recorded j s a t
found_recorded j s a t None f = sym f
found_recorded j s a t (Some k) f = sym f.0

module _ {b : List ℕ} {l : Layout} (f : Fit b l) (moves : List ℕ)
    (into : (k : ℕ) → k < l.records → has moves (move_number ((said b).move k)) ≡ true)
    (onto : (i : ℕ) → i < 4194304 → has moves i ≡ true → recorded (said b) (i / 8192) (i / 512 % 16) (i % 512) ≡ true) where
  both : (s a u : ℕ) → s < 512 → a < 16 → u < 512 → recorded (said b) s a u ≡ has moves (number s a u)
  both s a u hs ha hu = same_test there back
    where
      there : recorded (said b) s a u ≡ true → has moves (number s a u) ≡ true
      there e =
          let m = some_met (λ k. is_record ((said b).move k) s a u) (said b).records e in
          let k = m.0 in
          let q = (is_record_iff ((said b).move k) s a u).0 m.2 in
          let p = (and_iff (eqb_iff ((said b).move k).state s) (eqb_iff ((said b).move k).action a)).0 q.0 in
          let i = into k (rw (records_said f) m.1) in
          rw (p.0, p.1, q.1) at i

      back : has moves (number s a u) ≡ true → recorded (said b) s a u ≡ true
      back e =
          let es : number s a u / 8192 ≡ s = omega arith in
          let ea : number s a u / 512 % 16 ≡ a = omega arith in
          let eu : number s a u % 512 ≡ u = omega arith in
          let o = onto (number s a u) (omega arith) e in
          rw (es, ea, eu) at o

  pub meant : (labels : List ℕ) → ((s : ℕ) → s < l.states → byte b 1 s ≡ get_or labels s 0) → Meant b labels moves
  meant labels g = record { keeps = f.keeps; recorded_said = both; labels_made = λ s h. g s (rw (states_said f) h) }
