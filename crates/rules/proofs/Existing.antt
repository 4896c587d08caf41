-- Each job that keeps the rules has a plan, so that what planning promises can be kept on every input.
use Prim.Native.Nat.{ℕ, zero, suc, ◌+◌, ◌*◌, ◌/◌, ◌%◌, ◌≤◌, ◌<◌}
use mathlib.Core.Bool.{Bool, true, false, cond}
use mathlib.Core.List.{List, [], ◌∷◌, ◌++◌}
use mathlib.Core.Path.{◌≡◌, refl, ap, ◌∙◌, subst}
use native.Mathlib.Nat.{mod-lt}
use native.Mathlib.Omega.{arith}
use borrow.Author.Tests.{eqb-true, eqb-false, ltb-true, ltb-false}
use lib.Arith.{digits_lt, digits_div, digits_mod}
use lib.Dec.{eqb, ltb}
use lib.ListN.{length, get_or, drop}
use Rattle.game.specs.Game.{Arena, Inside, Right, lost, met, wins, hopes}
use Rattle.rules.specs.Job.{place, places, entry_number, arena}
use Rattle.rules.specs.Fault.{Fault, only}
use Rattle.rules.specs.Bytes.{fault, refusal, said}
use Rattle.rules.specs.Keeps.{Keeps}
use Rattle.rules.specs.Plan.{entry, entry_byte, Wrote, room, Plan}
use Rattle.rules.specs.Calls.{Planning, refused, no_room, planned}
use Rattle.rules.specs.declared.place.Place.{Place}
use Rattle.game.specs.declared.entry.Entry.{Entry}
use Rattle.game.proofs.Right.{by_rounds, by_rounds_right}
use Rattle.game.proofs.Bounds.{wins_below, hopes_below}
use Rattle.rules.proofs.Kept.{kept, places_few}
use Rattle.rules.proofs.Arenas.{inside_iff, size_of, arena_lawful}
use Rattle.rules.proofs.Rows.{row_of}
use Rattle.rules.proofs.Entries.{read_back}
use Rattle.rules.proofs.Planned.{planned_exactly, planned_plainly}

-- ---- the list of f 0, f 1, .., of length n

table : (ℕ → ℕ) → ℕ → List ℕ
table f zero = []
table f (suc n) = f zero ∷ table (λ i. f (suc i)) n

table_length : (f : ℕ → ℕ) (n : ℕ) → length (table f n) ≡ n
unfolding table
table_length f zero = refl
table_length f (suc n) = ap suc (table_length (λ i. f (suc i)) n)

table_at : (f : ℕ → ℕ) (n y : ℕ) → y < n → get_or (table f n) y 0 ≡ f y
unfolding table
table_at f zero y h = absurd (omega arith)
table_at f (suc n) zero h = refl
table_at f (suc n) (suc y) h = table_at (λ i. f (suc i)) n y (omega arith)

-- ---- a plan

-- each byte of an entry is a byte, where its parts are small enough
small : (x : Entry) → x.value < 256 → x.action < 256 → x.number < 65536 → (d : ℕ) → entry_byte x d < 256
small x v a n zero = v
small x v a n (suc zero) = a
small x v a n (suc (suc zero)) = omega arith
small x v a n (suc (suc (suc d))) = omega arith

module _ {b : List ℕ} (k : Keeps b) where
  abbrev G : Arena
  G = arena (said b)

  pub right_small : {p : Place} → Inside G p → {x : Entry} → Right G p x → (d : ℕ) → entry_byte x d < 256
  right_small i {x} (lost l) = small x (omega arith) (omega arith) (omega arith)
  right_small i {x} (met y) = small x (omega arith) (omega arith) (omega arith)
  right_small {p} i {x} (wins {a} {n} u w ((o, _), _)) =
      let L = arena_lawful b k in
      let low = L.counted p o.0 a o.1 in
      let few = k.few_actions in
      small x (omega arith) (omega arith) (omega (arith, wins_below G L n p i w, size_of (said b), places_few k))
  right_small {p} i {x} (hopes {a} {n} h w ((t, m, _), _)) =
      let L = arena_lawful b k in
      let low = L.counted p t a m in
      let few = k.few_actions in
      small x (omega arith) (omega arith) (omega (arith, hopes_below G L n p i w, size_of (said b), places_few k))

  -- the place that has entry i, and what is right there
  abbrev place_of : ℕ → Place
  place_of i = place (i / (said b).goals) (i % (said b).goals)

  bytes : List ℕ
  bytes = table (λ y. entry_byte (by_rounds G (place_of (y / 4))) (y % 4)) (room (said b))

  byte_at : (y : ℕ) → y < room (said b) → get_or bytes y 0 ≡ entry_byte (by_rounds G (place_of (y / 4))) (y % 4)
  unfolding bytes
  byte_at y h = table_at (λ y. entry_byte (by_rounds G (place_of (y / 4))) (y % 4)) (room (said b)) y h

  entry_at : (i : ℕ) → i < places (said b) → entry bytes i ≡ by_rounds G (place_of i)
  entry_at i h =
      let w : Wrote i (by_rounds G (place_of i)) bytes bytes = record { as_long = refl; bytes = λ y. go y (eqb (y / 4) i) refl } in
      read_back w
    where
      go : (y : ℕ) (x : Bool) → eqb (y / 4) i ≡ x
          → get_or bytes y 0 ≡ cond x (entry_byte (by_rounds G (place_of i)) (y % 4)) (get_or bytes y 0)
      go y true e =
          let z : y / 4 ≡ i = eqb-true (y / 4) i e in
          byte_at y (omega arith) ∙ ap (λ (n : ℕ). entry_byte (by_rounds G (place_of n)) (y % 4)) z
      go y false e = refl

  inside_at : (i : ℕ) → i < places (said b) → Inside G (place_of i)
  inside_at i h =
      (inside_iff (said b) (place_of i)).1 (row_of k.some_goals i h, mod-lt i k.some_goals)

  -- There is a plan of the job.
  pub plan_exists : (p : List ℕ) × Plan (said b) p
  plan_exists = (bytes, record { long = long; bytes = byte_small; right = right })
    where
      long : length bytes ≡ room (said b)
      long = unfold bytes in (table_length _ (room (said b)))

      byte_small : (y : ℕ) → y < length bytes → get_or bytes y 0 < 256
      byte_small y h =
          let l = long in
          let i : y / 4 < places (said b) = omega arith in
          let j = inside_at (y / 4) i in
          rw (byte_at y (omega arith)) (right_small j (by_rounds_right G (arena_lawful b k) (place_of (y / 4)) j) (y % 4))

      right : (s q : ℕ) → s < (said b).states → q < (said b).goals
          → Right G (place s q) (entry bytes (entry_number (said b).goals (place s q)))
      right s q hs hq =
          let here : place_of (s * (said b).goals + q) ≡ place s q = λ i. place (digits_div s hq i) (digits_mod s hq i) in
          rw (entry_at (s * (said b).goals + q) (digits_lt hs hq), here)
          (by_rounds_right G (arena_lawful b k) (place s q) ((inside_iff (said b) (place s q)).1 (hs, hq)))

-- Planning can answer and leave what it promises, whatever the bytes and the buffer.
pub planning_exists : (b before : List ℕ) → (f : Fault) × (after : List ℕ) × Planning b before f after
planning_exists b before = go (eqb (refusal b) 0) refl (ltb (length before) (room (said b))) refl
  where
    go : (x : Bool) → eqb (refusal b) 0 ≡ x → (y : Bool) → ltb (length before) (room (said b)) ≡ y
        → (f : Fault) × (after : List ℕ) × Planning b before f after
    go false e y l = (fault b, before, refused (eqb-false (refusal b) 0 e))
    go true e true l = (only 7, before, no_room (eqb-true (refusal b) 0 e) (ltb-true (length before) (room (said b)) l))
    go true e false l =
        let z = eqb-true (refusal b) 0 e in
        let k = (kept b).0 z in
        let (p, plan) = plan_exists k in
        (only 0, p ++ drop (room (said b)) before, planned z (ltb-false (length before) (room (said b)) l) plan)

-- and 0 where the job keeps the rules and the plan has room
pub planned_with_room : (b before : List ℕ) → Keeps b → room (said b) ≤ length before → (after : List ℕ) × Planning b before (only 0) after
planned_with_room b before k enough =
    let (f, after, p) = planning_exists b before in
    let z : f ≡ only 0 = planned_plainly p ((planned_exactly p).1 (k, enough)) in
    (after, subst (λ (x : Fault). Planning b before x after) z p)
