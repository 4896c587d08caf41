-- What is printed of One plate is document 01's text, line for line; and what is printed of it where a record is bad.
use Prim.Native.Nat.{ℕ, ◌≤◌, ◌<◌}
use mathlib.Core.List.{List, ◌++◌}
use mathlib.Core.Path.{◌≡◌, refl, ap, ◌∙◌}
use native.Mathlib.Omega.{arith}
use lib.ListN.{length, set}
use Rattle.game.specs.Game.{Inside}
use Rattle.rules.specs.Plan.{planned_entry}
use Rattle.rules.specs.Job.{place, start, arena}
use Rattle.rules.specs.Fault.{only}
use Rattle.rules.specs.Bytes.{said}
use Rattle.rules.specs.Keeps.{Keeps}
use Rattle.rules.specs.Calls.{Planning}
use Rattle.rules.specs.Examples.{plate}
use Rattle.game.specs.declared.entry.Entry.{Entry}
use Rattle.rules.specs.declared.place.Place.{Place}
use Rattle.game.proofs.Lists.{every, some, sure}
use Rattle.game.proofs.Search.{lowest}
use Rattle.game.proofs.Rounds.{win, hope}
use Rattle.game.proofs.Right.{by_rounds, right_iff}
use Rattle.rules.proofs.Kept.{kept}
use Rattle.rules.proofs.Arenas.{inside_iff, start_inside, arena_lawful}
use Rattle.rules.proofs.Planned.{planned_exactly, planned_right}
use Rattle.text.specs.Lines.{decimal_in, decimal, bytes, entry_line, start_line}
use Rattle.listing.specs.Listing.{place_line, lines, listing, Prints, refuses, lists}
use Rattle.listing.proofs.Telling.{lines_same}
use Rattle.listing.proofs.Listings.{keeps}
use Rattle.listing.proofs.Printing.{prints_refusal}

-- the same text, by the entries that the rounds give
entry_text : ℕ → ℕ → Entry → List ℕ
entry_text s q e = entry_line s q e.value e.action e.number

rounds_line : List ℕ → ℕ → ℕ → List ℕ
rounds_line b s q = entry_text s q (by_rounds (arena (said b)) (place s q))

rounds_listing : List ℕ → List ℕ
rounds_listing b =
    start_line (start (said b)).state (start (said b)).goal (by_rounds (arena (said b)) (start (said b))).value
    ++ lines (rounds_line b) (said b).states (said b).goals

module _ {b before after : List ℕ} (done : Planning b before (only 0) after) where
  entry_by_rounds : (x : Place) → Inside (arena (said b)) x → planned_entry (said b) after x ≡ by_rounds (arena (said b)) x
  entry_by_rounds x i =
      (right_iff (arena (said b)) (arena_lawful b (keeps done)) x i (planned_entry (said b) after x)).0 (planned_right done refl x i)

  line_by_rounds : (s q : ℕ) → s < (said b).states → q < (said b).goals → place_line (said b) after s q ≡ rounds_line b s q
  unfolding entry_text rounds_line
  line_by_rounds s q hs hq = ap (entry_text s q) (entry_by_rounds (place s q) ((inside_iff (said b) (place s q)).1 (hs, hq)))

  listing_by_rounds : listing (said b) after ≡ rounds_listing b
  unfolding rounds_listing
  listing_by_rounds =
      let x = start (said b) in
      let first = ap (λ (e : Entry). start_line x.state x.goal e.value) (entry_by_rounds x (start_inside b (keeps done))) in
      let rest = lines_same (place_line (said b) after) (rounds_line b) (said b).states (said b).goals line_by_rounds in
      λ i. first i ++ rest i

abbrev pub plate_text : List ℕ
plate_text =
    bytes "start 0 0 pending\n" ++
    (bytes "0 0 pending 0 2\n" ++
    (bytes "0 1 pending 0 1\n" ++
    (bytes "0 2 winning - 0\n" ++
    (bytes "1 0 pending 1 1\n" ++
    (bytes "1 1 winning 2 1\n" ++
    (bytes "1 2 winning - 0\n" ++
    (bytes "2 0 pending 2 3\n" ++
    (bytes "2 1 winning 2 1\n" ++
    (bytes "2 2 winning - 0\n" ++
    (bytes "3 0 losing - 0\n" ++
    (bytes "3 1 losing - 0\n" ++
    bytes "3 2 winning - 0\n")))))))))))

plate_computed : rounds_listing plate ≡ plate_text
unfolding rounds_listing rounds_line entry_text by_rounds win hope lowest every some sure decimal_in decimal
plate_computed = refl

plate_keeps : Keeps plate
plate_keeps = (kept plate).0 refl

pub plate_prints : {before text : List ℕ} → 48 ≤ length before → Prints plate before text → text ≡ plate_text
plate_prints room (refuses p z) = absurd (z ((planned_exactly p).1 (plate_keeps, room)))
plate_prints room (lists d) = listing_by_rounds d ∙ plate_computed

-- An outcome of record 3 out of range, and record 5 the same as record 4.
pub field_prints : {before text : List ℕ} → Prints (set plate 37 4) before text → text ≡ bytes "refused 12 3\n"
unfolding decimal_in decimal
field_prints p = prints_refusal (λ e. omega arith) p

pub order_prints : {before text : List ℕ} → Prints (set plate 41 1) before text → text ≡ bytes "refused 13 5\n"
unfolding decimal_in decimal
order_prints p = prints_refusal (λ e. omega arith) p
