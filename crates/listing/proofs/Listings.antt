-- What is put together from the calls' answers about a plan just made is the listing of that plan.
use Prim.Native.Nat.{ℕ, ◌<◌}
use mathlib.Core.Bool.{true}
use mathlib.Core.List.{List, ◌++◌}
use mathlib.Core.Path.{◌≡◌, refl, sym, ap, ◌∙◌}
use native.Mathlib.Omega.{arith}
use borrow.Author.Tests.{eq-eqb, lt-ltb}
use Rattle.rules.specs.Job.{start}
use Rattle.rules.specs.Fault.{only}
use Rattle.rules.specs.Bytes.{refusal, said}
use Rattle.rules.specs.Keeps.{Keeps}
use Rattle.rules.specs.Answers.{refusal_fault, planned_fault}
use Rattle.rules.specs.Calls.{Planning, moved_to, started, is_place}
use Rattle.std.specs.Prelude.{Result, Ok, Err}
use Rattle.rules.specs.declared.answer.Refusal.{Refusal}
use Rattle.rules.proofs.Figures.{refusal_some}
use Rattle.rules.proofs.Kept.{kept}
use Rattle.rules.proofs.Arenas.{inside_iff, start_inside}
use Rattle.job.specs.Reading.{reading, reading_figures}
use Rattle.job.specs.declared.layout.Layout.{Layout}
use Rattle.job.proofs.Asking.{states_said, goals_said}
use Rattle.job.proofs.Readings.{read_refused_some}
use Rattle.rules.proofs.Planned.{planned_exactly}
use Rattle.cabinet.proofs.Advising.{advice_planned}
use Rattle.cabinet.proofs.Answering.{was_read}
use Rattle.text.specs.declared.Line.{Line}
use Rattle.text.specs.Puts.{Puts}
use Rattle.text.specs.Lines.{refusal_line}
use Rattle.listing.specs.Listing.{first_line, place_line, lines, listing, refuses, lists}
use Rattle.listing.specs.Told.{advice_line, value_line, moved_line, advised_line, started_line, Printed}
use Rattle.listing.proofs.Telling.{lines_same}

module _ {b before after : List ℕ} (done : Planning b before (only 0) after) where
  pub keeps : Keeps b
  keeps = ((planned_exactly done).0 refl).0

  place_is : (s q : ℕ) → s < (said b).states → q < (said b).goals → is_place (said b) s q ≡ true
  place_is s q hs hq = rw (lt-ltb s (said b).states hs, lt-ltb q (said b).goals hq)

  line_told : (s q : ℕ) → s < (said b).states → q < (said b).goals → advised_line b after s q ≡ place_line (said b) after s q
  unfolding advice_line
  line_told s q hs hq = ap (advice_line s q) (advice_planned done s q (place_is s q hs hq))

  first_told : started_line b after ≡ first_line (said b) after
  unfolding moved_line value_line
  first_told =
      let x = start (said b) in
      let (hs, hq) = (inside_iff (said b) x).0 (start_inside b keeps) in
      let begins : started b ≡ moved_to x = rw (eq-eqb (refusal b) 0 ((kept b).1 keeps)) in
      ap (moved_line b after) begins
      ∙ ap (value_line x.state x.goal) (advice_planned done x.state x.goal (place_is x.state x.goal hs hq))

  pub listing_told :
      started_line b after ++ lines (advised_line b after) (said b).states (said b).goals ≡ listing (said b) after
  listing_told =
      let rest = lines_same (advised_line b after) (place_line (said b) after) (said b).states (said b).goals line_told in
      λ i. first_told i ++ rest i

-- ---- what is left of the line, by what planning answered, x, and what reading answered, y

module _ {b before after : List ℕ} {line line' : Line} {x : Result (Unit {0}) Refusal} (plans : Planning b before (planned_fault x) after) where
  pub printed_refusal : {why : Refusal} → x ≡ Err why → Puts line (refusal_line (refusal_fault why)) line' → Printed b before line line'
  printed_refusal {why} e put =
      let p : Planning b before (refusal_fault why) after = rw e at plans in
      record {
        text = refusal_line (refusal_fault why);
        right = refuses p (λ z. omega (arith, (refusal_some why).1));
        put = put;
      }

  -- a job that was planned is not refused when it is read
  pub read_planned : x ≡ Ok tt → {y : Result Layout Refusal} {why : Refusal} → y ≡ Err why → reading_figures y ≡ reading b
      → Printed b before line line'
  read_planned e {why = why} i r =
      let done : Planning b before (only 0) after = rw e at plans in
      absurd (read_refused_some b why (ap reading_figures (sym i) ∙ r) ((kept b).1 (keeps done)))

  pub printed_listing : x ≡ Ok tt → {y : Result Layout Refusal} {l : Layout} → y ≡ Ok l → reading_figures y ≡ reading b
      → Puts line (started_line b after ++ lines (advised_line b after) l.states l.goals) line' → Printed b before line line'
  printed_listing e {l = l} i r put =
      let done : Planning b before (only 0) after = rw e at plans in
      let f = was_read b i r in
      record {
        text = listing (said b) after;
        right = lists done;
        put = rw (states_said f, goals_said f, listing_told done) at put;
      }
