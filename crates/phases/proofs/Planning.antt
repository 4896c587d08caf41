-- What planning leaves, from what labelling leaves.
use Prim.Native.Nat.{ℕ, ◌+◌, ◌*◌, ◌≤◌, ◌<◌}
use mathlib.Core.List.{List, ◌++◌}
use mathlib.Core.Path.{◌≡◌, sym, ap, ◌∙◌, subst}
use native.Mathlib.Omega.{arith}
use lib.Arith.{digits_lt}
use lib.ListN.{length, get_or, take, drop, length-drop, take-append-drop}
use lib.Seq.{ext_get_or, get_or-take, get_or-drop, length-take-le}
use Rattle.rules.specs.Job.{places}
use Rattle.rules.specs.Fault.{only}
use Rattle.rules.specs.Bytes.{said}
use Rattle.rules.specs.Keeps.{Keeps}
use Rattle.rules.specs.Plan.{entry, room, Plan}
use Rattle.rules.specs.Calls.{Planning, planned}
use Rattle.rules.proofs.Kept.{kept}
use Rattle.phases.specs.Rounds.{Labelled}

module _ {b before plan : List ℕ} (k : Keeps b) (fits : room (said b) ≤ length before)
    (l : Labelled (said b) before plan) where
  -- beyond the plan the buffer is as before
  same_rest : drop (room (said b)) plan ≡ drop (room (said b)) before
  same_rest =
      let n = l.as_long in
      ext_get_or 0 (drop (room (said b)) plan) (drop (room (said b)) before)
      (simp length-drop (omega arith))
      (λ i h. rw (get_or-drop (room (said b)) plan i, get_or-drop (room (said b)) before i) (l.rest (room (said b) + i) (omega arith)))

  -- the plan is the bytes before those
  abbrev part : List ℕ
  part = take (room (said b)) plan

  same_byte : (y : ℕ) → y < room (said b) → get_or part y 0 ≡ get_or plan y 0
  same_byte y h = rw get_or-take

  same_entry : (i : ℕ) → i < places (said b) → entry part i ≡ entry plan i
  same_entry i h =
      let e = same_byte (4 * i) (omega arith) in
      let f = same_byte (4 * i + 1) (omega arith) in
      let g = same_byte (4 * i + 2) (omega arith) in
      let n = same_byte (4 * i + 2 + 1) (omega arith) in
      λ j. record { value = e j; action = f j; number = g j + 256 * n j }

  is_plan : ((y : ℕ) → get_or plan y 0 < 256) → Plan (said b) part
  is_plan small =
      let n = l.as_long in
      let long : length part ≡ room (said b) = length-take-le (room (said b)) plan (omega arith) in
      record {
        long = long;
        bytes = λ y h. rw (same_byte y (omega arith)) (small y);
        right = λ s q hs hq. rw (same_entry (s * (said b).goals + q) (digits_lt hs hq)) (l.right s q hs hq);
      }

  pub planned_done : ((y : ℕ) → get_or plan y 0 < 256) → Planning b before (only 0) plan
  planned_done small =
      subst (Planning b before (only 0)) (ap (λ (r : List ℕ). part ++ r) (sym same_rest) ∙ take-append-drop (room (said b)) plan)
      (planned ((kept b).1 k) fits (is_plan small))
