-- What a laid_out job says of its bodies: where each lies in the bytes, how long it is, and what its bytes and records are.
use Prim.Native.Nat.{ℕ, zero, suc, ◌+◌, ◌-◌, ◌*◌, ◌/◌, ◌^◌, ◌≤◌, ◌<◌}
use mathlib.Core.Bool.{Bool, true, false}
use mathlib.Core.List.{List}
use mathlib.Core.Logic.{◌↔◌}
use mathlib.Core.Path.{◌≡◌, refl, ap, ◌∙◌}
use native.Mathlib.Nat.{add_assoc, mul-le-mul}
use native.Mathlib.Numerals.{add-one}
use native.Mathlib.Omega.{arith}
use borrow.Author.Tests.{lt-ltb}
use lib.Dec.{leb, ltb, leb-suc-suc}
use lib.ListN.{length, get_or}
use lib.Pow.{pow_mono}
use Rattle.game.specs.Below.{every_below}
use Rattle.rules.specs.Form as rules
use Rattle.rules.specs.Form.{form_of}
use Rattle.rules.specs.Bytes.{offset, size, is_tall, form, rows, mark, said, contents, in_range, counts, record_fault}
use Rattle.rules.specs.declared.place.Counts.{Counts}
use Rattle.rules.specs.declared.place.Move.{Move}
use Rattle.game.proofs.Tests.{every_below_ext}
use Rattle.rules.proofs.Forms.{counts_sized}
use Rattle.rules.proofs.Judged.{InRange, contents_iff, range_iff}
use Rattle.job.specs.Joined.{joined}
use Rattle.job.specs.Forms.{in_rules, named_form}
use Rattle.job.specs.declared.form.Form.{Form}
use Rattle.job.proofs.Named.{named_back}
use Rattle.job.specs.Layout.{layout, Laid, in_ranges, fault_after}
use Rattle.job.specs.declared.layout.Layout.{Layout}
use Rattle.job.proofs.Joining.{Typed, joined_before}

-- byte k from a place on lies below the limit
abbrev pub below : List ℕ → ℕ → ℕ → ℕ → Bool
below b at limit k = ltb (get_or b (at + k) 0) limit

-- ---- contents in order

-- the bytes of Counts lie in the job
pub counts_inside : (b : List ℕ) → contents b ≡ true → 16 + (form_of (is_tall b)).counts_size ≤ length b
counts_inside b e =
    let h = (contents_iff b).0 e in
    omega (arith, counts_sized (size b 0) h.1.1.1.1.1)

-- the layout, where Counts says c and Moves has n bytes
abbrev pub laid_out : List ℕ → Counts → ℕ → Layout
laid_out b c n =
    record {
      states = c.states;
      actions = c.actions;
      propositions = c.propositions;
      goals = c.goals;
      first = c.first;
      first_goal = c.first_goal;
      records = n / (form b).record_size;
      labels_at = offset b 1;
      moves_at = offset b 2;
      goal_at = offset b 3;
      form = named_form (is_tall b);
    }

-- Counts begins at 16, and Moves ends where Goal begins
pub layout_is : (b : List ℕ) → contents b ≡ true → layout b ≡ laid_out b ((form b).counts_at b 16) (offset b 3 - offset b 2)
layout_is b e =
    let h = (contents_iff b).0 e in
    let moves_long : size b 2 ≡ offset b 3 - offset b 2 = omega arith in
    λ i. laid_out b ((form b).counts_at b (h.0 i)) (moves_long i)

-- each body after Counts begins where the one before it ends, and Goal ends with the job
pub record Bodies (b : List ℕ) (l : Layout) : Type 0 where
  pub labels_long : l.moves_at ≡ l.labels_at + size b 1
  pub moves_long : l.goal_at ≡ l.moves_at + size b 2
  pub goal_long : length b ≡ l.goal_at + size b 3
  pub states_are : l.states ≡ (said b).states
  pub goals_are : l.goals ≡ (said b).goals
  pub records_are : l.records ≡ (said b).records
  pub form_is : l.form ≡ named_form (is_tall b)
  pub records_inside : l.moves_at + (in_rules l.form).record_size * l.records ≤ length b
  pub rows_are : l.goals * 2 ^ l.propositions ≡ rows b

-- whole records take no more bytes than there are
records_bytes : (t : Bool) (n : ℕ) → (form_of t).record_size * (n / (form_of t).record_size) ≤ n
records_bytes true n = omega arith
records_bytes false n = omega arith

pub bodies : (b : List ℕ) (l : Layout) → Laid b l → Bodies b l
bodies b l h =
    let t = (contents_iff b).0 h.in_order in
    rw h.is_layout (record {
      labels_long = omega arith;
      moves_long = omega arith;
      goal_long = omega arith;
      states_are = refl;
      goals_are = refl;
      records_are = refl;
      form_is = refl;
      records_inside = rw (named_back (is_tall b)) (omega (arith, records_bytes (is_tall b) (size b 2)));
      rows_are = refl;
    })

-- ---- counts

pub ranges_iff : (l : Layout) → (in_ranges l ≡ true)
    ↔ InRange (in_rules l.form).most_states l.states l.actions l.propositions l.goals l.first l.first_goal
ranges_iff l = range_iff (in_rules l.form).most_states l.states l.actions l.propositions l.goals l.first l.first_goal

-- the layout's ranges are those of the bytes
pub counts_said : (b : List ℕ) → in_ranges (layout b) ≡ counts b
counts_said b =
    let j = said b in
    ap (λ (f : rules.Form). in_range f.most_states j.states j.actions j.propositions j.goals j.first j.first_goal) (named_back (is_tall b))

-- in their ranges, there are few rows
pub rows_few : (l : Layout) → in_ranges l ≡ true → l.goals * 2 ^ l.propositions ≤ 2048
rows_few l e =
    let h = (ranges_iff l).0 e in
    let few_goals : l.goals ≤ 32 = omega arith in
    let few_propositions : l.propositions ≤ 6 = omega arith in
    mul-le-mul few_goals (pow_mono few_propositions)

-- ---- records

-- the record before record k, joined, or 0 where there is none
abbrev pub previous : (ℕ → Move) → ℕ → ℕ
previous f zero = 0
previous f (suc k) = joined (f k)

-- record k of n lies inside the bytes that all of them take
pub record_inside : (t : Form) (at : ℕ) {k n m : ℕ} → k < n → at + (in_rules t).record_size * n ≤ m
    → at + (in_rules t).record_size * k + (in_rules t).record_size ≤ m
record_inside Form.Tall at h l = omega arith
record_inside Form.Old at h l = omega arith

-- a record of bytes is as wide as its type
typed : (b : List ℕ) → ((i : ℕ) → get_or b i 0 < 256) → (t : Bool) (i : ℕ) → Typed ((form_of t).record_at b i)
typed b h true i =
    record {
      state_fits = omega (arith, h i, h (i + 1));
      action_fits = h (i + 2);
      outcome_fits = omega (arith, h (i + 3), h (i + 3 + 1));
    }
typed b h false i =
    record { state_fits = omega (arith, h i); action_fits = h (i + 1); outcome_fits = omega (arith, h (i + 2)) }

-- record k of a layout
abbrev pub record_of : List ℕ → Layout → ℕ → Move
record_of b l k = (in_rules l.form).record_at b (l.moves_at + (in_rules l.form).record_size * k)

-- what the layout's form reads as record k is what the job says
record_said : (b : List ℕ) (k : ℕ) → record_of b (layout b) k ≡ (said b).move k
record_said b k = ap (λ (f : rules.Form). f.record_at b (offset b 2 + f.record_size * k)) (named_back (is_tall b))

-- what is wrong with record k after the one before it, joined, is what is wrong with it among all records
pub fault_is : (forgive : Bool) (b : List ℕ) (l : Layout) → ((i : ℕ) → get_or b i 0 < 256) → l ≡ layout b → (k : ℕ)
    → fault_after forgive l k (previous (said b).move k) (record_of b l k) ≡ record_fault forgive (said b) k
fault_is forgive b l h e zero = rw (e, record_said b 0, lt-ltb 0 (joined ((said b).move 0)) (omega arith))
fault_is forgive b l h e (suc k) =
    let t = is_tall b in
    let at : ℕ → ℕ = λ i. offset b 2 + (form_of t).record_size * i in
    rw (e, record_said b (suc k), joined_before ((said b).move k) ((said b).move (suc k)) (typed b h t (at k)) (typed b h t (at (suc k))))

-- record k, joined, is what stands before the next
pub previous_is : (b : List ℕ) (l : Layout) → l ≡ layout b → (k : ℕ)
    → joined (record_of b l k) ≡ previous (said b).move (k + 1)
previous_is b l e k = rw (add-one k, e, record_said b k)

-- ---- marks

-- the marks after the rows are 0 or 1
pub marks_are : (b : List ℕ) (l : Layout) → l ≡ layout b
    → every_below l.goals (below b (l.goal_at + l.goals * 2 ^ l.propositions) 2)
    ≡ every_below (said b).goals (λ q. leb (mark b q) 1)
marks_are b l e = rw e (every_below_ext (below b (offset b 3 + rows b) 2) (λ q. leb (mark b q) 1) same (said b).goals)
  where
    same : (q : ℕ) → below b (offset b 3 + rows b) 2 q ≡ leb (mark b q) 1
    same q = leb-suc-suc (get_or b (offset b 3 + rows b + q) 0) 1 ∙ ap (λ (i : ℕ). leb (get_or b i 0) 1) (add_assoc (offset b 3) (rows b) q)
