-- What planning with slips of the arm leaves, from what labelling leaves.
use Prim.Native.Nat.{ℕ, ◌+◌, ◌*◌, ◌≤◌, ◌<◌}
use mathlib.Core.List.{List, ◌++◌}
use mathlib.Core.Path.{◌≡◌, sym, ap, ◌∙◌, subst}
use native.Mathlib.Numerals.{add-one}
use native.Mathlib.Omega.{arith}
use lib.ListN.{length, get_or, take, drop, length-drop, take-append-drop}
use lib.Seq.{ext_get_or, get_or-take, get_or-drop, length-take-le}
use Rattle.rules.specs.Job.{place, places, arena}
use Rattle.rules.specs.Fault.{only}
use Rattle.rules.specs.Bytes.{said}
use Rattle.rules.specs.Keeps.{Keeps}
use Rattle.rules.specs.Plan.{entry}
use Rattle.rules.proofs.Kept.{kept}
use Rattle.rules.proofs.Arenas.{inside_iff, arena_lawful}
use Rattle.job.specs.Layout.{Fit}
use Rattle.job.specs.declared.layout.Layout.{Layout}
use Rattle.job.proofs.Asking.{places_said}
use Rattle.larger.specs.Larger.{larger}
use Rattle.larger.specs.Plans.{larger_number, larger_places, larger_room, LargerPlan, Trembling, planned}
use Rattle.trembling.specs.Held.{Labelled}
use Rattle.larger.proofs.Slipping.{inside_slipping}
use Rattle.larger.proofs.Layers.{number_below}

-- the room in the layout's figures
pub room_said : {b : List ℕ} {l : Layout} → Fit b l → (K : ℕ) → 4 * ((K + 1) * (l.states * l.goals)) ≡ larger_room (said b) K
room_said {b} f K = rw (places_said f) (ap (λ (n : ℕ). 4 * (n * places (said b))) (add-one K))

module _ {b before plan : List ℕ} (k : Keeps b) (K : ℕ) (few : K ≤ 3) (fits : larger_room (said b) K ≤ length before)
    (l : Labelled (said b) K before plan) where
  -- beyond the plans the buffer is as before
  same_rest : drop (larger_room (said b) K) plan ≡ drop (larger_room (said b) K) before
  same_rest =
      let n = l.as_long in
      ext_get_or 0 (drop (larger_room (said b) K) plan) (drop (larger_room (said b) K) before)
      (simp length-drop (omega arith))
      (λ i h. rw (get_or-drop (larger_room (said b) K) plan i, get_or-drop (larger_room (said b) K) before i)
      (l.rest (larger_room (said b) K + i) (omega arith)))

  -- the plans are the bytes before those
  abbrev part : List ℕ
  part = take (larger_room (said b) K) plan

  same_byte : (y : ℕ) → y < larger_room (said b) K → get_or part y 0 ≡ get_or plan y 0
  same_byte y h = rw get_or-take

  same_entry : (i : ℕ) → i < larger_places (said b) K → entry part i ≡ entry plan i
  same_entry i h =
      let e = same_byte (4 * i) (omega arith) in
      let f = same_byte (4 * i + 1) (omega arith) in
      let g = same_byte (4 * i + 2) (omega arith) in
      let n = same_byte (4 * i + 2 + 1) (omega arith) in
      λ j. record { value = e j; action = f j; number = g j + 256 * n j }

  is_plan : ((y : ℕ) → get_or plan y 0 < 256) → LargerPlan (said b) K part
  is_plan small =
      let n = l.as_long in
      let long : length part ≡ larger_room (said b) K = length-take-le (larger_room (said b) K) plan (omega arith) in
      record {
        long = long;
        bytes = λ y h. rw (same_byte y (omega arith)) (small y);
        right =
            λ m s q hm hs hq.
            rw (same_entry (larger_number (said b) (larger m (place s q)))
            (number_below (said b) (arena_lawful b k) K (larger m (place s q))
            ((inside_slipping (arena (said b)) K (larger m (place s q))).1 ((inside_iff (said b) (place s q)).1 (hs, hq), hm))))
            (l.right m s q hm hs hq);
      }

  pub trembling_done : ((y : ℕ) → get_or plan y 0 < 256) → Trembling b K before (only 0) plan
  trembling_done small =
      subst (Trembling b K before (only 0)) (ap (λ (r : List ℕ). part ++ r) (sym same_rest) ∙ take-append-drop (larger_room (said b) K) plan)
      (planned ((kept b).1 k) few fits (is_plan small))
