-- The bytes of the salvaged job: where its bodies are and what they hold. Each law holds in both forms.
use Prim.Native.Nat.{ℕ, ◌+◌, ◌*◌, ◌/◌, ◌-◌, ◌^◌, ◌≤◌, ◌<◌}
use mathlib.Core.Bool.{Bool, true, false}
use mathlib.Core.List.{List}
use mathlib.Core.Path.{◌≡◌, refl, sym, ◌∙◌, ap, ap₂, subst, subst₂}
use native.Mathlib.Nat.{mul-le-mul, le_refl}
use native.Mathlib.Omega.{arith}
use lib.Arith.{digits_lt}
use lib.Dec.{eqb}
use lib.ListN.{length, get_or, drop, length-drop}
use lib.Seq.{get_or-take, get_or-drop, length-take-le}
use Rattle.sets.specs.Sets.{count}
use Rattle.sets.proofs.Sizes.{count_le}
use Rattle.rules.specs.Form.{word, form_of}
use Rattle.rules.specs.Bytes.{offset, size, byte, is_tall, form, counted, width, rows, mark, said}
use Rattle.rules.specs.Keeps.{KeepsBut}
use Rattle.rules.specs.Retold.{body, SameJob}
use Rattle.rules.specs.declared.place.Counts.{Counts}
use Rattle.rules.proofs.Forms.{counts_sized}
use Rattle.rules.proofs.Kept.{labels_end, moves_end, goal_end}
use Rattle.rules.proofs.Retelling.{job_long, offset_1, offset_2, offset_3, size_0, size_1, size_2, size_3}
use Rattle.rules.proofs.Retelling.{counts_byte, labels_byte, moves_byte, goal_byte, body_long, body_at}
use Rattle.salvage.specs.Mended.{stays, mended, kept_number}
use Rattle.salvage.specs.Salvage.{record_bytes, moves_kept, salvaged}
use Rattle.salvage.proofs.Keeping.{count_passing, nth_passing, more, before_next, gathered_length, gathered_at}
use Rattle.salvage.proofs.Mending.{kept_is}

-- ---- Counts and records are read from their bytes alone

module _ (c b : List ℕ) (p q n : ℕ) (same : (d : ℕ) → d < n → get_or c (p + d) 0 ≡ get_or b (q + d) 0) where
  shift : (d x y : ℕ) → d < n → x ≡ p + d → y ≡ q + d → get_or c x 0 ≡ get_or b y 0
  shift d x y h e g = subst₂ (λ (u v : ℕ). get_or c u 0 ≡ get_or b v 0) (sym e) (sym g) (same d h)

  shift_word : (d x y : ℕ) → d + 1 < n → x ≡ p + d → y ≡ q + d → word c x ≡ word b y
  shift_word d x y h e g =
      ap₂ (λ (u v : ℕ). u + 256 * v) (shift d x y (omega arith) e g) (shift (d + 1) (x + 1) (y + 1) h (omega arith) (omega arith))

counts_alike : (t : Bool) (c b : List ℕ) (p q : ℕ) → ((d : ℕ) → d < (form_of t).counts_size → get_or c (p + d) 0 ≡ get_or b (q + d) 0)
    → (form_of t).counts_at c p ≡ (form_of t).counts_at b q
counts_alike true c b p q s =
    let s0 = shift_word c b p q 8 s 0 p q (omega arith) (omega arith) (omega arith) in
    let s2 = shift c b p q 8 s 2 (p + 2) (q + 2) (omega arith) refl refl in
    let s3 = shift c b p q 8 s 3 (p + 3) (q + 3) (omega arith) refl refl in
    let s4 = shift c b p q 8 s 4 (p + 4) (q + 4) (omega arith) refl refl in
    let s5 = shift_word c b p q 8 s 5 (p + 5) (q + 5) (omega arith) refl refl in
    let s7 = shift c b p q 8 s 7 (p + 7) (q + 7) (omega arith) refl refl in
    λ i. record { states = s0 i; actions = s2 i; propositions = s3 i; goals = s4 i; first = s5 i; first_goal = s7 i }
counts_alike false c b p q s =
    let s0 = shift c b p q 6 s 0 p q (omega arith) (omega arith) (omega arith) in
    let s1 = shift c b p q 6 s 1 (p + 1) (q + 1) (omega arith) refl refl in
    let s2 = shift c b p q 6 s 2 (p + 2) (q + 2) (omega arith) refl refl in
    let s3 = shift c b p q 6 s 3 (p + 3) (q + 3) (omega arith) refl refl in
    let s4 = shift c b p q 6 s 4 (p + 4) (q + 4) (omega arith) refl refl in
    let s5 = shift c b p q 6 s 5 (p + 5) (q + 5) (omega arith) refl refl in
    λ i. record { states = s0 i; actions = s1 i; propositions = s2 i; goals = s3 i; first = s4 i; first_goal = s5 i }

record_alike : (t : Bool) (c b : List ℕ) (p q : ℕ) → ((d : ℕ) → d < (form_of t).record_size → get_or c (p + d) 0 ≡ get_or b (q + d) 0)
    → (form_of t).record_at c p ≡ (form_of t).record_at b q
record_alike true c b p q s =
    let s0 = shift_word c b p q 5 s 0 p q (omega arith) (omega arith) (omega arith) in
    let s2 = shift c b p q 5 s 2 (p + 2) (q + 2) (omega arith) refl refl in
    let s3 = shift_word c b p q 5 s 3 (p + 3) (q + 3) (omega arith) refl refl in
    λ i. record { state = s0 i; action = s2 i; outcome = s3 i }
record_alike false c b p q s =
    let s0 = shift c b p q 3 s 0 p q (omega arith) (omega arith) (omega arith) in
    let s1 = shift c b p q 3 s 1 (p + 1) (q + 1) (omega arith) refl refl in
    let s2 = shift c b p q 3 s 2 (p + 2) (q + 2) (omega arith) refl refl in
    λ i. record { state = s0 i; action = s1 i; outcome = s2 i }

-- so many records take so many bytes
many_records : (t : Bool) (n : ℕ) → (form_of t).record_size * n / (form_of t).record_size ≡ n
many_records true n = omega arith
many_records false n = omega arith

module _ {b : List ℕ} (k : KeepsBut true b) where
  -- how many records stay
  abbrev pub many : ℕ
  many = count (stays (said b)) (said b).records

  abbrev pub wide : ℕ
  wide = (form b).record_size

  pub many_few : many ≤ (said b).records
  many_few = count_le (stays (said b)) (said b).records

  pub many_bytes : wide * many ≤ size b 2
  many_bytes = omega (arith, mul-le-mul (le_refl wide) many_few, k.moves_long)

  -- ---- the bytes of the records that stay

  pub record_length : (i : ℕ) → i < (said b).records → length (record_bytes b i) ≡ wide
  record_length i h =
      let at = offset b 2 + wide * i in
      let up = mul-le-mul (le_refl wide) (let q : i + 1 ≤ (said b).records = omega arith in q) in
      let long : length (drop at b) ≡ length b - at = length-drop at b in
      length-take-le wide (drop at b) (omega (arith, up, more wide i, moves_end k, long))

  -- the bodies that are copied are as long as they were
  pub counts_long : length (body b 0) ≡ size b 0
  counts_long = body_long b 0 (omega (arith, labels_end k, k.labels_at))

  pub labels_long : length (body b 1) ≡ size b 1
  labels_long = body_long b 1 (omega (arith, labels_end k, k.labels_long))

  pub goal_long : length (body b 3) ≡ size b 3
  goal_long = body_long b 3 (omega (arith, goal_end k, k.goal_long))

  pub kept_length : length (moves_kept b) ≡ wide * many
  kept_length = gathered_length (stays (said b)) (record_bytes b) wide (said b).records record_length (said b).records (omega arith)

  -- record i, if it stays, is where as many stay before it
  pub kept_at : (i d : ℕ) → i < (said b).records → stays (said b) i ≡ true → d < wide
      → get_or (moves_kept b) (wide * count (stays (said b)) i + d) 0 ≡ get_or b (offset b 2 + wide * i + d) 0
  kept_at i d h s l =
      let at = offset b 2 + wide * i in
      gathered_at (stays (said b)) (record_bytes b) wide (said b).records record_length (said b).records i d (omega arith) h s l
      ∙ get_or-take wide (drop at b) d 0 l
      ∙ get_or-drop at b d 0

  -- ---- where the bodies of the salvaged job are

  abbrev c : List ℕ
  c = salvaged b

  abbrev c0 : List ℕ
  c0 = body b 0

  abbrev c1 : List ℕ
  c1 = body b 1

  abbrev c2 : List ℕ
  c2 = moves_kept b

  abbrev c3 : List ℕ
  c3 = body b 3

  pub labels_at : offset (salvaged b) 1 ≡ offset b 1
  labels_at = offset_1 c0 c1 c2 c3 ∙ omega (arith, counts_long, k.labels_at, k.counts_at)

  pub moves_at : offset (salvaged b) 2 ≡ offset b 2
  moves_at = offset_2 c0 c1 c2 c3 ∙ omega (arith, counts_long, labels_long, k.labels_at, k.counts_at, k.moves_at)

  pub goal_at : offset (salvaged b) 3 ≡ offset b 2 + wide * many
  goal_at =
      offset_3 c0 c1 c2 c3 ∙ omega (arith, counts_long, labels_long, kept_length, k.labels_at, k.counts_at, k.moves_at)

  pub salvaged_length : length (salvaged b) ≡ offset b 2 + wide * many + size b 3
  salvaged_length =
      job_long c0 c1 c2 c3 ∙ omega (arith, counts_long, labels_long, kept_length, goal_long, k.labels_at, k.counts_at, k.moves_at)

  pub counts_size : size (salvaged b) 0 ≡ size b 0
  counts_size = size_0 c0 c1 c2 c3 ∙ counts_long

  pub labels_size : size (salvaged b) 1 ≡ size b 1
  labels_size = size_1 c0 c1 c2 c3 ∙ labels_long

  pub moves_size : size (salvaged b) 2 ≡ wide * many
  moves_size = size_2 c0 c1 c2 c3 ∙ kept_length

  pub goal_size : size (salvaged b) 3 ≡ size b 3
  goal_size = size_3 c0 c1 c2 c3 ∙ goal_long

  -- ---- what they hold

  pub same_form : is_tall (salvaged b) ≡ is_tall b
  same_form = ap (λ (n : ℕ). eqb n 8) counts_size

  counts_same : counted (salvaged b) ≡ counted b
  counts_same =
      ap (λ (t : Bool). (form_of t).counts_at (salvaged b) 16) same_form
      ∙ counts_alike (is_tall b) (salvaged b) b 16 (offset b 0) (λ d h.
      let l : d < size b 0 = omega (arith, counts_sized (size b 0) k.counts_long) in
      counts_byte c0 c1 c2 c3 d (omega (arith, counts_long)) ∙ body_at b 0 d l)

  label_same : (s : ℕ) → s < (said b).states → byte (salvaged b) 1 s ≡ byte b 1 s
  label_same s h =
      labels_byte c0 c1 c2 c3 (offset (salvaged b) 1 + s) s (omega (arith, labels_long, k.labels_long)) refl
      ∙ body_at b 1 s (omega (arith, k.labels_long))

  goal_same : (y : ℕ) → y < size b 3 → byte (salvaged b) 3 y ≡ byte b 3 y
  goal_same y h = goal_byte c0 c1 c2 c3 (offset (salvaged b) 3 + y) y refl ∙ body_at b 3 y h

  pub width_same : width (salvaged b) ≡ width b
  width_same = ap (λ (x : Counts). 2 ^ x.propositions) counts_same

  next_same : (q l : ℕ) → q < (said b).goals → l < width b → (said (salvaged b)).next q l ≡ (said b).next q l
  next_same q l h g =
      ap (λ (w : ℕ). byte (salvaged b) 3 (q * w + l)) width_same ∙ goal_same (q * width b + l) (omega (arith, digits_lt h g, k.goal_long))

  pub mark_same : (q : ℕ) → q < (said b).goals → mark (salvaged b) q ≡ mark b q
  mark_same q h =
      ap₂ (λ (g w : ℕ). byte (salvaged b) 3 (g * w + q)) (ap (λ (x : Counts). x.goals) counts_same) width_same
      ∙ goal_same (rows b + q) (omega (arith, k.goal_long))

  pub records_many : (said (salvaged b)).records ≡ many
  records_many =
      ap₂ (λ (n : ℕ) (t : Bool). n / (form_of t).record_size) moves_size same_form ∙ many_records (is_tall b) many

  -- record i, if it stays, is there
  pub record_kept : (i : ℕ) → i < (said b).records → stays (said b) i ≡ true
      → (said (salvaged b)).move (count (stays (said b)) i) ≡ (said b).move i
  record_kept i h s =
      let x = count (stays (said b)) i in
      ap (λ (t : Bool). (form_of t).record_at (salvaged b) (offset (salvaged b) 2 + (form_of t).record_size * x)) same_form
      ∙ record_alike (is_tall b) (salvaged b) b (offset (salvaged b) 2 + wide * x) (offset b 2 + wide * i) (λ d l.
      moves_byte c0 c1 c2 c3 (offset (salvaged b) 2 + wide * x + d) (wide * x + d)
      (omega (arith, before_next wide x many d (count_passing (stays (said b)) i (said b).records h s) l, kept_length)) (omega arith)
      ∙ kept_at i d h s l)

  -- and each record that is there is one that stays
  pub record_of : (x : ℕ) → x < (said (salvaged b)).records
      → (i : ℕ) × (i < (said b).records) × (stays (said b) i ≡ true) × (count (stays (said b)) i ≡ x) × ((said (salvaged b)).move x ≡ (said b).move i)
  record_of x h =
      let (i, l, s, e) = nth_passing (stays (said b)) (said b).records x (omega (arith, records_many)) in
      (i, l, s, e, ap (said (salvaged b)).move (sym e) ∙ record_kept i l s)

  -- The salvaged bytes say the job that is left.
  pub salvaged_says : SameJob (said (salvaged b)) (mended (said b))
  salvaged_says =
      record {
        states = ap (λ (x : Counts). x.states) counts_same;
        actions = ap (λ (x : Counts). x.actions) counts_same;
        propositions = ap (λ (x : Counts). x.propositions) counts_same;
        goals = ap (λ (x : Counts). x.goals) counts_same;
        first = ap (λ (x : Counts). x.first) counts_same;
        first_goal = ap (λ (x : Counts). x.first_goal) counts_same;
        records = records_many;
        label = λ s h. rw (label_same s (omega (arith, ap (λ (x : Counts). x.states) counts_same)));
        busy = λ s h. rw (label_same s (omega (arith, ap (λ (x : Counts). x.states) counts_same)));
        move = λ x h.
            let (i, l, s, e, m) = record_of x h in
            m ∙ ap (said b).move (sym (ap (kept_number (said b)) (sym e) ∙ kept_is (said b) i l s));
        next = λ q l h g.
            next_same q l (omega (arith, ap (λ (x : Counts). x.goals) counts_same)) (subst (λ (w : ℕ). l < w) width_same g);
        final = λ q h. ap (λ (m : ℕ). eqb m 1) (mark_same q (omega (arith, ap (λ (x : Counts). x.goals) counts_same)));
      }
