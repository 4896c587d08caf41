-- No text that is to be printed is longer than 393,237 bytes: the first line has at most 21, each of 16,384 others at most 24.
use Prim.Native.Nat.{ℕ, ◌*◌, ◌≤◌, ◌<◌}
use mathlib.Core.Bool.{true}
use mathlib.Core.List.{List}
use mathlib.Core.Logic.{◌↔◌, ⊎_elim}
use mathlib.Core.Path.{◌≡◌, refl, subst⁻¹}
use native.Mathlib.Nat.{mul-le-mul, le_refl, le_trans}
use native.Mathlib.Omega.{arith}
use borrow.Author.Tests.{ne_eqb}
use lib.ListN.{length, take, length-append}
use Rattle.io.specs.Counts.{IsPrefixLen}
use Rattle.game.specs.Game.{Inside}
use Rattle.game.specs.Below.{upto, each}
use Rattle.rules.specs.Job.{place, places, start, arena}
use Rattle.rules.specs.Fault.{Fault, only}
use Rattle.rules.specs.Bytes.{said}
use Rattle.rules.specs.Plan.{blank, due, shaped, planned_entry}
use Rattle.rules.specs.Calls.{Planning, refused, no_room, planned}
use Rattle.game.specs.declared.entry.Entry.{Entry}
use Rattle.rules.specs.declared.place.Place.{Place}
use Rattle.game.proofs.Tests.{and_iff, or_iff, ltb_iff, leb_iff, eqb_iff}
use Rattle.sets.specs.Sets.{set_room}
use Rattle.rules.proofs.Kept.{states_few, places_few}
use Rattle.rules.proofs.Numbers.{told}
use Rattle.rules.proofs.Arenas.{inside_iff, start_inside}
use Rattle.rules.proofs.Planned.{planned_right}
use Rattle.cabinet.proofs.Advising.{allowed_shaped}
use Rattle.game.proofs.Following.{right_allowed}
use Rattle.text.specs.declared.Line.{Line}
use Rattle.text.specs.PutText.{PutText}
use Rattle.text.specs.Lines.{decimal, action_word, entry_line, start_line}
use Rattle.text.proofs.Digits.{decimal_length}
use Rattle.text.proofs.Repeating.{short_each}
use Rattle.text.proofs.Lengths.{short_value, short_refusal, fault_few, put_front}
use Rattle.listing.specs.Listing.{first_line, place_line, lines, Prints, refuses, lists}
use Rattle.listing.specs.Told.{Printed}
use Rattle.listing.proofs.Listings.{keeps}

-- ---- an entry's words

-- at most two bytes for the action, at most five for the number
pub record Few (e : Entry) : Type 0 where
  pub action : length (action_word e.action) ≤ 2
  pub number : length (decimal e.number) ≤ 5

few_blank : (e : Entry) → (e.action ≡ 255) × (e.number ≡ 0) → Few e
few_blank e h = record {
  action = rw h.0 (omega arith);
  number = decimal_length e.number 4 (omega arith);
}

few_due : (A n : ℕ) (e : Entry) → A ≤ 16 → n ≤ set_room → (e.action < A) × ((1 ≤ e.number) × (e.number < n)) → Few e
few_due A n e a m h = record {
  action = rw (ne_eqb e.action 255 (λ z. omega arith)) (decimal_length e.action 1 (omega arith));
  number = decimal_length e.number 4 (omega arith);
}

module _ (A n : ℕ) (e : Entry) (a : A ≤ 16) (m : n ≤ set_room) where
  blank_iff : (blank e ≡ true) ↔ ((e.action ≡ 255) × (e.number ≡ 0))
  blank_iff = and_iff (eqb_iff e.action 255) (eqb_iff e.number 0)

  due_iff : (due A n e ≡ true) ↔ ((e.action < A) × ((1 ≤ e.number) × (e.number < n)))
  due_iff = and_iff (ltb_iff e.action A) (and_iff (leb_iff 1 e.number) (ltb_iff e.number n))

  shaped_few : shaped A n e ≡ true → Few e
  shaped_few h =
      ⊎_elim (λ x. few_blank e x.1)
      (⊎_elim (λ x. few_blank e x.1) (⊎_elim (λ x. few_due A n e a m x.1) (λ x. few_due A n e a m x.1)))
      ((or_iff (and_iff (eqb_iff e.value 0) blank_iff)
      (or_iff (and_iff (eqb_iff e.value 2) blank_iff)
      (or_iff (and_iff (eqb_iff e.value 2) due_iff) (and_iff (eqb_iff e.value 1) due_iff)))).0 h)

-- ---- the lines

short_entry : (s q : ℕ) (e : Entry) → s < 512 → q < 32 → Few e → length (entry_line s q e.value e.action e.number) ≤ 24
short_entry s q e hs hq f =
    simp length-append
    (omega (arith, decimal_length s 2 (omega arith), decimal_length q 1 (omega arith), short_value e.value, f.action, f.number))

short_start : (s q v : ℕ) → s < 512 → q < 32 → length (start_line s q v) ≤ 21
short_start s q v hs hq =
    simp length-append (omega (arith, decimal_length s 2 (omega arith), decimal_length q 1 (omega arith), short_value v))

module _ {b before after : List ℕ} (done : Planning b before (only 0) after) where
  entry_few : (x : Place) → Inside (arena (said b)) x → Few (planned_entry (said b) after x)
  entry_few x i =
      let k = keeps done in
      shaped_few (said b).actions (places (said b)) (planned_entry (said b) after x) k.few_actions
      (places_few k)
      (allowed_shaped k x i (right_allowed (arena (said b)) (planned_right done refl x i)))

  short_lines : length (lines (place_line (said b) after) (said b).states (said b).goals) ≤ 393216
  short_lines =
      let k = keeps done in
      let S = (said b).states in
      let Q = (said b).goals in
      let line : (s q : ℕ) → s < S → q < Q → length (place_line (said b) after s q) ≤ 24 =
      λ s q hs hq.
      short_entry s q (planned_entry (said b) after (place s q)) (omega (arith, states_few k)) (omega (arith, k.few_goals))
      (entry_few (place s q) ((inside_iff (said b) (place s q)).1 (hs, hq))) in
      le_trans
      (short_each (λ s. each (upto Q) (place_line (said b) after s)) (Q * 24) S
      (λ s hs. short_each (place_line (said b) after s) 24 Q (λ q hq. line s q hs hq)))
      (mul-le-mul (states_few k) (mul-le-mul k.few_goals (le_refl 24)))

  short_first : length (first_line (said b) after) ≤ 21
  short_first =
      let k = keeps done in
      let x = start (said b) in
      let (hs, hq) = (inside_iff (said b) x).0 (start_inside b k) in
      short_start x.state x.goal (planned_entry (said b) after x).value (omega (arith, states_few k)) (omega (arith, k.few_goals))

refusal_few : {b before after : List ℕ} {f : Fault} → Planning b before f after → (f.number < 100) × (f.«record» < 10000)
refusal_few {b} (refused n) = fault_few b (told b).among
refusal_few (no_room e l) = (omega arith, omega arith)
refusal_few (planned e l p) = (omega arith, omega arith)

pub prints_short : {b before text : List ℕ} → Prints b before text → length text ≤ 393237
prints_short (refuses {f} p z) = let (n, k) = refusal_few p in omega (arith, short_refusal f n k)
prints_short {b} (lists {after} done) =
    rw (length-append (first_line (said b) after) (lines (place_line (said b) after) (said b).states (said b).goals))
    (omega (arith, short_first done, short_lines done))

-- So in a buffer of that length the first n bytes are the text.
pub printed_whole : {b before out left : List ℕ} {line after : Line} {n : ℕ} (p : Printed b before line after) → PutText out 0 p.text left n
    → 393237 ≤ length out → IsPrefixLen n left × Prints b before (take n left)
printed_whole {b} {before} p put room =
    let (count, text) = put_front put (omega (arith, prints_short p.right)) in
    (count, subst⁻¹ (Prints b before) text p.right)
