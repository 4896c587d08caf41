-- A job rewritten in the tall form keeps the rules, has the tall form, and says the same job.
use Prim.Native.Nat.{ℕ, zero, suc, ◌+◌, ◌*◌, ◌/◌, ◌%◌, ◌≤◌, ◌<◌}
use mathlib.Core.Bool.{true}
use mathlib.Core.List.{List, [], ◌∷◌, ◌++◌}
use mathlib.Core.Logic.{inr, ⊎_elim}
use mathlib.Core.Path.{◌≡◌, refl, sym, ap, ◌∙◌, subst}
use native.Mathlib.Nat.{mul-le-mul}
use native.Mathlib.Omega.{arith}
use lib.Arith.{digits_lt}
use lib.Dec.{eqb}
use lib.ListN.{length, get_or, take, drop, length-append, length-drop, get_or-append}
use lib.Seq.{length-take-le, get_or-append-add, get_or-take, get_or-drop}
use Rattle.sets.specs.Sets.{bit}
use Rattle.rules.specs.Bytes.{offset, size, byte, is_tall, counted, width, rows, mark, said}
use Rattle.rules.specs.Keeps.{Keeps, Before}
use Rattle.rules.specs.Retold.{two, job_of, tall_counts, tall_record, tall_moves, body, retold, SameJob}
use Rattle.rules.specs.declared.place.Move.{Move}
use Rattle.game.proofs.Tests.{last_or_below}
use Rattle.rules.proofs.Kept.{states_few, records_few, labels_end, goal_end, width_few}

-- a number is what its two bytes say
two_is : (n : ℕ) → n % 256 + 256 * (n / 256) ≡ n
two_is n = omega arith

-- ---- four bodies with their contents

module _ (c l m g : List ℕ) where
  abbrev whole : List ℕ
  whole = job_of c l m g

  -- the contents alone
  abbrev front : List ℕ
  front =
      two 16 (two (length c)
      (two (16 + length c) (two (length l)
      (two (16 + length c + length l) (two (length m)
      (two (16 + length c + length l + length m) (two (length g) [])))))))

  pub job_long : length whole ≡ 16 + length c + length l + length m + length g
  job_long =
      omega (arith, length-append front (c ++ (l ++ (m ++ g))), length-append c (l ++ (m ++ g)), length-append l (m ++ g), length-append m g)

  pub offset_1 : offset whole 1 ≡ 16 + length c
  offset_1 = two_is (16 + length c)

  pub offset_2 : offset whole 2 ≡ 16 + length c + length l
  offset_2 = two_is (16 + length c + length l)

  pub offset_3 : offset whole 3 ≡ 16 + length c + length l + length m
  offset_3 = two_is (16 + length c + length l + length m)

  pub size_0 : size whole 0 ≡ length c
  size_0 = two_is (length c)

  pub size_1 : size whole 1 ≡ length l
  size_1 = two_is (length l)

  pub size_2 : size whole 2 ≡ length m
  size_2 = two_is (length m)

  pub size_3 : size whole 3 ≡ length g
  size_3 = two_is (length g)

  -- byte y after the contents
  after : (y : ℕ) → get_or whole (16 + y) 0 ≡ get_or (c ++ (l ++ (m ++ g))) y 0
  after y = get_or-append-add front (c ++ (l ++ (m ++ g))) y 0

  past_counts : (y : ℕ) → get_or whole (16 + (length c + y)) 0 ≡ get_or (l ++ (m ++ g)) y 0
  past_counts y = after (length c + y) ∙ get_or-append-add c (l ++ (m ++ g)) y 0

  past_labels : (y : ℕ) → get_or whole (16 + (length c + (length l + y))) 0 ≡ get_or (m ++ g) y 0
  past_labels y = past_counts (length l + y) ∙ get_or-append-add l (m ++ g) y 0

  -- the bytes of the bodies
  pub counts_byte : (y : ℕ) → y < length c → get_or whole (16 + y) 0 ≡ get_or c y 0
  counts_byte y h = after y ∙ get_or-append c (l ++ (m ++ g)) 0 y h

  pub labels_byte : (x y : ℕ) → y < length l → x ≡ offset whole 1 + y → get_or whole x 0 ≡ get_or l y 0
  labels_byte x y h e =
      let z : x ≡ 16 + (length c + y) = omega (arith, offset_1) in
      ap (λ (i : ℕ). get_or whole i 0) z ∙ past_counts y ∙ get_or-append l (m ++ g) 0 y h

  pub moves_byte : (x y : ℕ) → y < length m → x ≡ offset whole 2 + y → get_or whole x 0 ≡ get_or m y 0
  moves_byte x y h e =
      let z : x ≡ 16 + (length c + (length l + y)) = omega (arith, offset_2) in
      ap (λ (i : ℕ). get_or whole i 0) z ∙ past_labels y ∙ get_or-append m g 0 y h

  pub goal_byte : (x y : ℕ) → x ≡ offset whole 3 + y → get_or whole x 0 ≡ get_or g y 0
  goal_byte x y e =
      let z : x ≡ 16 + (length c + (length l + (length m + y))) = omega (arith, offset_3) in
      ap (λ (i : ℕ). get_or whole i 0) z ∙ past_labels (length m + y) ∙ get_or-append-add m g y 0

-- ---- records in the tall form

module _ (f : ℕ → Move) where
  moves_long : (n : ℕ) → length (tall_moves f n) ≡ 5 * n
  moves_long zero = refl
  moves_long (suc n) = omega (arith, length-append (tall_moves f n) (tall_record (f n)), moves_long n)

  -- byte d of record k
  moves_at : (n k d : ℕ) → k < n → d < 5 → get_or (tall_moves f n) (5 * k + d) 0 ≡ get_or (tall_record (f k)) d 0
  moves_at zero k d h l = absurd (omega arith)
  moves_at (suc n) k d h l = ⊎_elim here (λ (g : k < n). there g (moves_at n k d g l)) (last_or_below h)
    where
      here : k ≡ n → get_or (tall_moves f n ++ tall_record (f n)) (5 * k + d) 0 ≡ get_or (tall_record (f k)) d 0
      here e =
          let z : 5 * k + d ≡ length (tall_moves f n) + d = omega (arith, moves_long n) in
          ap (λ (i : ℕ). get_or (tall_moves f n ++ tall_record (f n)) i 0) z
          ∙ get_or-append-add (tall_moves f n) (tall_record (f n)) d 0
          ∙ ap (λ (i : ℕ). get_or (tall_record (f i)) d 0) (sym e)

      there : k < n → get_or (tall_moves f n) (5 * k + d) 0 ≡ get_or (tall_record (f k)) d 0
          → get_or (tall_moves f n ++ tall_record (f n)) (5 * k + d) 0 ≡ get_or (tall_record (f k)) d 0
      there g rec = get_or-append (tall_moves f n) (tall_record (f n)) 0 (5 * k + d) (omega (arith, moves_long n)) ∙ rec

-- ---- a body as it stands

pub body_long : (b : List ℕ) (i : ℕ) → offset b i + size b i ≤ length b → length (body b i) ≡ size b i
body_long b i h = length-take-le (size b i) (drop (offset b i) b) (omega (arith, length-drop (offset b i) b))

pub body_at : (b : List ℕ) (i y : ℕ) → y < size b i → get_or (body b i) y 0 ≡ byte b i y
body_at b i y h = get_or-take (size b i) (drop (offset b i) b) y 0 h ∙ get_or-drop (offset b i) b y 0

-- ---- a job that keeps the rules, rewritten

module _ {b : List ℕ} (k : Keeps b) where
  abbrev r : List ℕ
  r = retold b

  abbrev c : List ℕ
  c = tall_counts (counted b)

  abbrev l : List ℕ
  l = body b 1

  abbrev m : List ℕ
  m = tall_moves (said b).move (said b).records

  abbrev g : List ℕ
  g = body b 3

  l_long : length l ≡ (said b).states
  l_long = body_long b 1 (omega (arith, labels_end k, k.labels_long)) ∙ k.labels_long

  m_long : length m ≡ 5 * (said b).records
  m_long = moves_long (said b).move (said b).records

  g_long : length g ≡ size b 3
  g_long = body_long b 3 (omega (arith, goal_end k, k.goal_long))

  pub retold_tall : is_tall (retold b) ≡ true
  retold_tall = refl

  -- ---- what it says

  states_same : (said b).states ≡ (said r).states
  states_same = sym (two_is (said b).states)

  first_same : (said b).first ≡ (said r).first
  first_same = sym (two_is (said b).first)

  size_2_is : size r 2 ≡ 5 * (said b).records
  size_2_is = size_2 c l m g ∙ m_long

  records_same : (said b).records ≡ (said r).records
  records_same = omega (arith, size_2_is)

  label_byte : (s : ℕ) → s < (said b).states → byte b 1 s ≡ byte r 1 s
  label_byte s h =
      sym (labels_byte c l m g (offset r 1 + s) s (omega (arith, l_long)) refl ∙ body_at b 1 s (omega (arith, k.labels_long)))

  goal_same : (y : ℕ) → y < size b 3 → byte b 3 y ≡ byte r 3 y
  goal_same y h = sym (goal_byte c l m g (offset r 3 + y) y refl ∙ body_at b 3 y h)

  -- byte d of record i
  record_byte : (i d x : ℕ) → i < (said b).records → d < 5 → x ≡ offset r 2 + 5 * i + d
      → get_or r x 0 ≡ get_or (tall_record ((said b).move i)) d 0
  record_byte i d x h p e =
      moves_byte c l m g x (5 * i + d) (omega (arith, m_long)) (omega arith) ∙ moves_at (said b).move (said b).records i d h p

  move_same : (i : ℕ) → i < (said b).records → (said b).move i ≡ (said r).move i
  move_same i h =
      let at = offset r 2 + 5 * i in
      let x = (said b).move i in
      let s0 = record_byte i 0 at h (omega arith) (omega arith) in
      let s1 = record_byte i 1 (at + 1) h (omega arith) (omega arith) in
      let a = record_byte i 2 (at + 2) h (omega arith) (omega arith) in
      let t0 = record_byte i 3 (at + 3) h (omega arith) (omega arith) in
      let t1 = record_byte i 4 (at + 3 + 1) h (omega arith) (omega arith) in
      let state : x.state ≡ ((said r).move i).state = omega (arith, s0, s1, two_is x.state) in
      let outcome : x.outcome ≡ ((said r).move i).outcome = omega (arith, t0, t1, two_is x.outcome) in
      λ j. record { state = state j; action = sym a j; outcome = outcome j }

  next_same : (q p : ℕ) → q < (said b).goals → p < width b → (said b).next q p ≡ (said r).next q p
  next_same q p h i = goal_same (q * width b + p) (omega (arith, k.goal_long, digits_lt h i))

  mark_same : (q : ℕ) → q < (said b).goals → mark b q ≡ mark r q
  mark_same q h = goal_same (rows b + q) (omega (arith, k.goal_long))

  pub retold_same : SameJob (said b) (said (retold b))
  retold_same =
      record {
        states = states_same;
        actions = refl;
        propositions = refl;
        goals = refl;
        first = first_same;
        first_goal = refl;
        records = records_same;
        label = λ s h. ap (λ (x : ℕ). x % 128) (label_byte s h);
        busy = λ s h. ap (λ (x : ℕ). bit x 7) (label_byte s h);
        move = move_same;
        next = next_same;
        final = λ q h. ap (λ (x : ℕ). eqb x 1) (mark_same q h);
      }

  -- ---- it keeps the rules

  -- what holds of each record holds of each record that is rewritten
  moved : (P : Move → Type 0) → ((i : ℕ) → i < (said b).records → P ((said b).move i)) → (i : ℕ) → i < (said r).records → P ((said r).move i)
  moved P t i h = let o : i < (said b).records = omega (arith, records_same) in subst P (move_same i o) (t i o)

  pub retold_keeps : Keeps (retold b)
  retold_keeps =
      record {
        contents_long = omega (arith, job_long c l m g);
        counts_at = refl;
        labels_at = refl;
        moves_at = omega (arith, offset_2 c l m g, size_1 c l m g);
        goal_at = omega (arith, offset_2 c l m g, offset_3 c l m g, size_2 c l m g);
        ends = omega (arith, job_long c l m g, offset_3 c l m g, size_3 c l m g);
        counts_long = inr refl;
        some_states = omega (arith, states_same, k.some_states);
        few_states = omega (arith, states_same, states_few k);
        some_actions = k.some_actions;
        few_actions = k.few_actions;
        few_propositions = k.few_propositions;
        some_goals = k.some_goals;
        few_goals = k.few_goals;
        first_state = omega (arith, states_same, first_same, k.first_state);
        first_goal_state = k.first_goal_state;
        labels_long = size_1 c l m g ∙ l_long ∙ states_same;
        label_below = λ s h.
            let i : s < (said b).states = omega (arith, states_same) in
            subst (λ (x : ℕ). x % 128 < width b) (label_byte s i) (k.label_below s i);
        moves_long = omega (arith, size_2_is, records_same);
        few_records = omega (arith, records_same, records_few k);
        state_below = moved (λ x. x.state < (said r).states) (λ i h. omega (arith, states_same, k.state_below i h));
        action_below = moved (λ x. x.action < (said r).actions) k.action_below;
        outcome_below = moved (λ x. x.outcome < (said r).states) (λ i h. omega (arith, states_same, k.outcome_below i h));
        ascending = λ i n h p.
            let q : n < (said b).records = omega (arith, records_same) in
            let o : i < (said b).records = omega arith in
            subst (λ (x : Move). Before x ((said r).move n)) (move_same i o)
            (subst (λ (x : Move). Before ((said b).move i) x) (move_same n q) (k.ascending i n h q));
        goal_long = size_3 c l m g ∙ g_long ∙ k.goal_long;
        next_below = λ q p h i. subst (λ (x : ℕ). x < (said b).goals) (next_same q p h i) (k.next_below q p h i);
        mark_range = λ q h. subst (λ (x : ℕ). x ≤ 1) (mark_same q h) (k.mark_range q h);
      }

-- ---- it is bytes, where the job is

pub record Bytes (xs : List ℕ) : Type 0 where
  pub at : (y : ℕ) → get_or xs y 0 < 256

pub none_bytes : Bytes []
none_bytes = record { at = λ y. omega arith }

pub cons_bytes : {x : ℕ} {xs : List ℕ} → x < 256 → Bytes xs → Bytes (x ∷ xs)
cons_bytes {x} {xs} h t = record { at = go }
  where
    go : (y : ℕ) → get_or (x ∷ xs) y 0 < 256
    go zero = h
    go (suc y) = t.at y

rest_bytes : {x : ℕ} {xs : List ℕ} → Bytes (x ∷ xs) → Bytes xs
rest_bytes s = record { at = λ y. s.at (suc y) }

pub two_bytes : (n : ℕ) {xs : List ℕ} → n < 65536 → Bytes xs → Bytes (two n xs)
two_bytes n h t = cons_bytes (omega arith) (cons_bytes (omega arith) t)

pub append_bytes : {xs ys : List ℕ} → Bytes xs → Bytes ys → Bytes (xs ++ ys)
append_bytes {xs = []} s t = t
append_bytes {xs = x ∷ xs} s t = cons_bytes (s.at 0) (append_bytes (rest_bytes s) t)

pub take_bytes : (n : ℕ) {xs : List ℕ} → Bytes xs → Bytes (take n xs)
take_bytes zero s = none_bytes
take_bytes (suc n) {xs = []} s = none_bytes
take_bytes (suc n) {xs = x ∷ xs} s = cons_bytes (s.at 0) (take_bytes n (rest_bytes s))

pub body_bytes : (b : List ℕ) (i : ℕ) → Bytes b → Bytes (body b i)
body_bytes b i h = take_bytes (size b i) (record { at = λ y. rw (get_or-drop (offset b i) b y 0) (h.at (offset b i + y)) })

moves_bytes : (f : ℕ → Move) (n : ℕ) → ((i : ℕ) → i < n → Bytes (tall_record (f i))) → Bytes (tall_moves f n)
moves_bytes f zero h = none_bytes
moves_bytes f (suc n) h =
    append_bytes (moves_bytes f n (λ i l. h i (omega arith))) (h n (omega arith))

module _ {b : List ℕ} (k : Keeps b) where
  record_bytes : (i : ℕ) → i < (said b).records → Bytes (tall_record ((said b).move i))
  record_bytes i h =
      let m = (said b).move i in
      two_bytes m.state (omega (arith, k.state_below i h, states_few k))
      (cons_bytes (omega (arith, k.action_below i h, k.few_actions))
      (two_bytes m.outcome (omega (arith, k.outcome_below i h, states_few k)) none_bytes))

  counts_bytes : Bytes (tall_counts (counted b))
  counts_bytes =
      two_bytes (said b).states (omega (arith, states_few k))
      (cons_bytes (omega (arith, k.few_actions))
      (cons_bytes (omega (arith, k.few_propositions))
      (cons_bytes (omega (arith, k.few_goals))
      (two_bytes (said b).first (omega (arith, k.first_state, states_few k))
      (cons_bytes (omega (arith, k.first_goal_state, k.few_goals)) none_bytes)))))

  pub retold_bytes : ((y : ℕ) → get_or b y 0 < 256) → (y : ℕ) → get_or (retold b) y 0 < 256
  retold_bytes h = whole.at
    where
      S : ℕ
      S = length (body b 1)

      M : ℕ
      M = length (tall_moves (said b).move (said b).records)

      G : ℕ
      G = length (body b 3)

      few : S + M + G < 65000
      few =
          omega (
            arith,
            l_long k,
            states_few k,
            m_long k,
            records_few k,
            g_long k,
            k.goal_long,
            k.few_goals,
            mul-le-mul k.few_goals (width_few k),
          )

      as_bytes : Bytes b
      as_bytes = record { at = h }

      bodies : Bytes (tall_counts (counted b) ++ (body b 1 ++ (tall_moves (said b).move (said b).records ++ body b 3)))
      bodies =
          append_bytes counts_bytes
          (append_bytes (body_bytes b 1 as_bytes)
          (append_bytes (moves_bytes (said b).move (said b).records record_bytes) (body_bytes b 3 as_bytes)))

      whole : Bytes (retold b)
      whole =
          two_bytes 16 (omega arith) (two_bytes 8 (omega arith)
          (two_bytes 24 (omega arith) (two_bytes S (omega (arith, few))
          (two_bytes (24 + S) (omega (arith, few)) (two_bytes M (omega (arith, few))
          (two_bytes (24 + S + M) (omega (arith, few)) (two_bytes G (omega (arith, few)) bodies)))))))
