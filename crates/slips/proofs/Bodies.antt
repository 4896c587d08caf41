-- The bytes of a body that is written: which state and label each belongs to, that the numbers stay small, and that they are the body.
use Prim.Native.Nat.{ℕ, ◌+◌, ◌-◌, ◌*◌, ◌/◌, ◌%◌, ◌^◌, ◌≤◌, ◌<◌}
use mathlib.Core.Bool.{Bool, true, false, cond, not}
use mathlib.Core.List.{List, ◌++◌}
use mathlib.Core.Logic.Iff
use mathlib.Core.Logic.{⊎_elim}
use mathlib.Core.Path.{◌≡◌, refl, sym, ◌∙◌, ap}
use native.Mathlib.Nat.{mod-lt, div-lt_iff_lt-mul, mul-le-mul}
use native.Mathlib.Omega.{arith}
use borrow.Author.Tests.{lt-ltb, le-ltb, lt-leb, le-leb, leb-true}
use lib.Dec.{leb, ltb, eqb}
use lib.ListN.{length, get_or, take, drop, set, length-set, take-append-drop}
use lib.Pow.{pow_pos, pow_mono}
use lib.Seq.{get_or-set_same, get_or-set_other}
use Rattle.sets.specs.Sets.{one}
use Rattle.game.specs.Below.{every_below}
use Rattle.sets.proofs.Bits.{below_or}
use Rattle.game.proofs.Tests.{and_iff}
use Rattle.slips.specs.Clauses.{Clause, states, steps, finals}
use Rattle.slips.specs.Writing.{clauses_from, clauses, body_size, slips_refusal, counted, in_kind_at, sound}
use Rattle.slips.specs.Writing.{Body, Writing, refused, written}
use Rattle.slips.specs.Filling.{StateLeft, ByteLeft, BodyLeft, body_byte, Filled}
use Rattle.slips.proofs.Accept.{steps_below}
use Rattle.slips.proofs.Stepping.{states_from, power_few}
use Rattle.slips.proofs.Tables.{rest_kept, filled_long, row_filled, mark_filled}

-- ---- one byte

-- y is a byte of the body of n clauses, and v and u are the labels and goal states that the code counts
pub record ByteSized (s : List ℕ) (n p y v u : ℕ) : Type 0 where
  pub left : ByteLeft s n p y
  pub labels : v ≡ 2 ^ p
  pub goal_states : u ≡ 3 ^ n

module _ {s : List ℕ} {n p y v u : ℕ} (x : ByteSized s n p y v u) where
  pub some_labels : 0 < v
  some_labels = omega (arith, x.labels, pow_pos p)

  few_labels : v ≤ 64
  few_labels = let m : 2 ^ p ≤ 2 ^ 6 = pow_mono x.left.few_propositions in omega (arith, x.labels, x.goal_states)

  few_states : u ≤ 27
  few_states = let m : 3 ^ n ≤ 3 ^ 3 = power_few n 3 x.left.few in omega (arith, x.labels, x.goal_states)

  pub rows_few : u * v ≤ 1728
  rows_few = mul-le-mul {n₂ = 27} {m₂ = 64} few_states few_labels

  pub label_few : y % v < 64
  label_few = omega (arith, mod-lt y some_labels, few_labels)

  pub row_left : y < u * v → StateLeft s 0 n (y / v)
  row_left h =
      record {
        within = omega (arith, x.left.within);
        few = x.left.few;
        state = rw (← x.goal_states) ((div-lt_iff_lt-mul some_labels).1 h);
      }

  pub mark_left : u * v ≤ y → StateLeft s 0 n (y - u * v)
  mark_left h =
      let i : y < u * v + u = rw (x.goal_states, x.labels) x.left.inside in
      record { within = omega (arith, x.left.within); few = x.left.few; state = omega (arith, i, x.goal_states) }

  pub row_few : y < u * v → steps (clauses_from s 0 n) (y / v) (y % v) < 256
  row_few h =
      let m : y / v < states (clauses_from s 0 n) = rw (states_from s n 0) (row_left h).state in
      omega (arith, steps_below (clauses_from s 0 n) (y / v) (y % v) m, states_from s n 0, power_few n 3 x.left.few)

  rows_are : u * v ≡ states (clauses_from s 0 n) * 2 ^ p
  rows_are = rw (states_from s n 0, x.goal_states, x.labels)

  pub byte_row : (r : ℕ) → y < u * v → r ≡ steps (clauses_from s 0 n) (y / v) (y % v) → r ≡ body_byte (clauses_from s 0 n) p y
  byte_row r h e =
      let l : y < states (clauses_from s 0 n) * 2 ^ p = rw rows_are at h in
      rw (lt-ltb y (states (clauses_from s 0 n) * 2 ^ p) l, ← x.labels) e

  pub byte_mark : (z : Bool) → u * v ≤ y → finals (clauses_from s 0 n) (y - u * v) ≡ z → one z ≡ body_byte (clauses_from s 0 n) p y
  byte_mark z h e =
      let l : states (clauses_from s 0 n) * 2 ^ p ≤ y = rw rows_are at h in
      rw (le-ltb y (states (clauses_from s 0 n) * 2 ^ p) l, ← rows_are, e)

-- ---- one more byte

pub filled_none : (f : ℕ → ℕ) (d : List ℕ) → Filled 0 f d d
filled_none f d = record { as_long = refl; bytes = λ y. rw (le-ltb y 0 (omega arith)) }

module _ (n : ℕ) (f : ℕ → ℕ) (before after : List ℕ) where
  pub filled_more : n < length before → Filled n f before after → Filled (n + 1) f before (set after n (f n))
  filled_more h x = record { as_long = length-set after n (f n) ∙ x.as_long; bytes = at }
    where
      below : (y : ℕ) → y < n → get_or (set after n (f n)) y 0 ≡ cond (ltb y (n + 1)) (f y) (get_or before y 0)
      below y l =
          rw (lt-ltb y (n + 1) (omega arith))
          (get_or-set_other after n y (f n) 0 (λ q. omega arith) ∙ x.bytes y ∙ rw (lt-ltb y n l))

      here : (y : ℕ) → n ≤ y → y < n + 1 → get_or (set after n (f n)) y 0 ≡ cond (ltb y (n + 1)) (f y) (get_or before y 0)
      here y l k =
          let q : y ≡ n = omega arith in
          rw (lt-ltb y (n + 1) k, q) (get_or-set_same after n (f n) 0 (omega (arith, x.as_long)))

      later : (y : ℕ) → n + 1 ≤ y → get_or (set after n (f n)) y 0 ≡ cond (ltb y (n + 1)) (f y) (get_or before y 0)
      later y k =
          rw (le-ltb y (n + 1) k)
          (get_or-set_other after n y (f n) 0 (λ q. omega arith) ∙ x.bytes y ∙ rw (le-ltb y n (omega arith)))

      at : (y : ℕ) → get_or (set after n (f n)) y 0 ≡ cond (ltb y (n + 1)) (f y) (get_or before y 0)
      at y = ⊎_elim (below y) (λ l. ⊎_elim (here y l) (later y) (below_or y (n + 1))) (below_or y n)

pub byte_left : (s : List ℕ) (n p size room y : ℕ) → BodyLeft s n p size room → y < size → ByteLeft s n p y
byte_left s n p size room y x h =
    record { within = x.within; few = x.few; few_propositions = x.few_propositions; inside = rw x.long at h }

-- ---- the whole body

module _ (cs : List Clause) (p : ℕ) (before after : List ℕ) (h : body_size cs p ≤ length before)
    (x : Filled (body_size cs p) (body_byte cs p) before after) where
  abbrev size : ℕ
  size = body_size cs p

  pub tail_kept : take size after ++ drop size before ≡ after
  tail_kept = ap (λ (l : List ℕ). take size after ++ l) (sym (rest_kept x)) ∙ take-append-drop size after

  pub body_filled : Body cs p (take size after)
  body_filled =
      record {
        long = filled_long x h;
        rows = row_filled (states cs) p (steps cs) (finals cs) x;
        marks = mark_filled (states cs) p (steps cs) (finals cs) x;
      }

-- ---- each way through the call

module _ (s : List ℕ) (p : ℕ) (before : List ℕ) where
  refuse_as : (k : ℕ) → slips_refusal s p (length before) ≡ k → (k ≡ 0 → ⊥) → Writing s p before k 0 before
  refuse_as k e n =
      let r : Writing s p before (slips_refusal s p (length before)) 0 before = refused (λ z. n (sym e ∙ z)) in
      rw e at r

  pub refuse_count : counted s ≡ false → Writing s p before 14 0 before
  refuse_count e = refuse_as 14 (rw e) (λ z. omega arith)

  module _ (c : counted s ≡ true) where
    pub refuse_many : 6 < p → Writing s p before 15 0 before
    refuse_many h = refuse_as 15 (rw (c, lt-leb p 6 h)) (λ z. omega arith)

    module _ (h : p ≤ 6) where
      pub refuse_clause : every_below (length s / 3) (in_kind_at s p) ≡ false → Writing s p before 15 0 before
      refuse_clause e = refuse_as 15 (rw (c, le-leb p 6 h, e)) (λ z. omega arith)

      module _ (e : every_below (length s / 3) (in_kind_at s p) ≡ true) where
        pub refuse_room : length before < body_size (clauses s) p → Writing s p before 7 0 before
        refuse_room l = refuse_as 7 (rw (c, le-leb p 6 h, e, lt-ltb (length before) (body_size (clauses s) p) l)) (λ z. omega arith)

        pub answer_written : (after : List ℕ) → body_size (clauses s) p ≤ length before
            → Filled (body_size (clauses s) p) (body_byte (clauses s) p) before after → Writing s p before 0 (body_size (clauses s) p) after
        answer_written after l x =
            let z : slips_refusal s p (length before) ≡ 0 = rw (c, le-leb p 6 h, e, le-ltb (length before) (body_size (clauses s) p) l) in
            let n : ℕ = body_size (clauses s) p in
            let r : Writing s p before 0 n (take n after ++ drop n before) = written z (body_filled (clauses s) p before after l x) in
            rw (tail_kept (clauses s) p before after l x) at r

-- the same, of the numbers that the call computes: v labels, u goal states
pub few_clauses : (s : List ℕ) → counted s ≡ true → length s / 3 ≤ 3
few_clauses s c =
    let m = (and_iff {x = eqb (length s % 3) 0} Iff.rfl Iff.rfl).0 c in
    let l = (and_iff {x = leb 3 (length s)} Iff.rfl Iff.rfl).0 m.1 in
    omega (arith, leb-true (length s) 9 l.1)

-- the slips are counted and P is not above 6, and v and u are the labels and goal states that the code counts
pub record GoalSized (s : List ℕ) (p v u : ℕ) : Type 0 where
  pub clauses_counted : counted s ≡ true
  pub few : p ≤ 6
  pub labels : v ≡ 2 ^ p
  pub goal_states : u ≡ 3 ^ (length s / 3)

module _ {s : List ℕ} {p v u : ℕ} (z : GoalSized s p v u) where
  pub states_few : u ≤ 27
  states_few =
      let k : 3 ^ (length s / 3) ≤ 3 ^ 3 = power_few (length s / 3) 3 (few_clauses s z.clauses_counted) in
      omega (arith, z.goal_states)

  pub product_few : u * v ≤ 1728
  product_few =
      let m : 2 ^ p ≤ 2 ^ 6 = pow_mono z.few in
      mul-le-mul {n₂ = 27} {m₂ = 64} states_few (omega (arith, z.labels))

  size_is : u * v + u ≡ body_size (clauses s) p
  size_is = rw (states_from s (length s / 3) 0, z.goal_states, z.labels)

  pub body_left : (room : ℕ) → u * v + u ≤ room → BodyLeft s (length s / 3) p (u * v + u) room
  body_left room l =
      record {
        within = omega arith;
        few = few_clauses s z.clauses_counted;
        few_propositions = z.few;
        long = rw (z.goal_states, z.labels);
        fits = l;
      }

  module _ (before : List ℕ) (e : every_below (length s / 3) (in_kind_at s p) ≡ true) where
    pub room_short : length before < u * v + u → Writing s p before 7 0 before
    room_short l = refuse_room s p before z.clauses_counted z.few e (rw size_is at l)

    pub goal_written : (after : List ℕ) → u * v + u ≤ length before
        → Filled (u * v + u) (body_byte (clauses_from s 0 (length s / 3)) p) before after → Writing s p before 0 (u * v + u) after
    goal_written after l x =
        rw size_is (answer_written s p before z.clauses_counted z.few e after (rw size_is at l) (rw size_is at x))

-- no body is longer than 1,755 bytes
pub passed : (x y z : Bool) → ◌≡◌ {A = ℕ} (cond (not x) 14 (cond (not y) 15 (cond z 7 0))) 0 → (x ≡ true) × (y ≡ true)
passed true true z e = (refl, refl)
passed true false z e = absurd (omega arith)
passed false y z e = absurd (omega arith)

pub writing_few : {s before : List ℕ} {p : ℕ} {after : List ℕ} {r n : ℕ} → Writing s p before r n after → n ≤ 1755
writing_few (refused h) = omega arith
writing_few {s} {before} {p = p} (written e x) =
    let (c, f) = passed (counted s) (sound s p) (ltb (length before) (body_size (clauses s) p)) e in
    let y = (and_iff {x = leb p 6} Iff.rfl Iff.rfl).0 f in
    let z : GoalSized s p (2 ^ p) (3 ^ (length s / 3)) =
    record { clauses_counted = c; few = leb-true p 6 y.0; labels = refl; goal_states = refl } in
    omega (arith, size_is z, product_few z, states_few z)
