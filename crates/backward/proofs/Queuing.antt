-- The laws of the queue: what it holds up to a number, a place that joins, and one after the other.
use Prim.Native.Nat.{ℕ, ◌+◌, ◌*◌, ◌/◌, ◌%◌, ◌≤◌, ◌<◌, zero-le}
use mathlib.Core.Bool.{Bool, true, false, ◌&&◌, ◌||◌, or_comm}
use mathlib.Core.List.{List}
use mathlib.Core.Logic.{⊎_elim}
use mathlib.Core.Path.{◌≡◌, refl, sym, ◌∙◌, subst, fun_ext}
use native.Mathlib.Nat.{div-add-mod'}
use native.Mathlib.Numerals.{add-one}
use native.Mathlib.Omega.{arith}
use borrow.Author.Tests.{eq-eqb, ne_eqb, lt-ltb, le-ltb}
use lib.Dec.{eqb, ltb}
use lib.ListN.{length, get_or, set, length-set}
use lib.Seq.{get_or-set_same, get_or-set_other}
use Rattle.sets.specs.Sets.{set_room, member, count, Put}
use Rattle.sets.proofs.Bits.{below_or, same_or}
use Rattle.sets.proofs.Sizes.{count_le, count_none}
use Rattle.game.proofs.Tests.{some_stops, some_below_ext}
use Rattle.backward.specs.Queue.{queued, Queue, Joined}
use Rattle.backward.proofs.Filling.{put_members}
use Rattle.backward.proofs.Spots.{below_next}
use Rattle.backward.proofs.Walking.{count_over, count_differ}

eqb_sym : (x y : ℕ) → eqb x y ≡ eqb y x
eqb_sym x y =
    ⊎_elim
    (λ (e : x ≡ y). rw (eq-eqb x y e, eq-eqb y x (sym e)))
    (λ (n : x ≡ y → ⊥). rw (ne_eqb x y n, ne_eqb y x (λ e. n (sym e))))
    (same_or x y)

-- ---- the first words of a queue

-- one word more
pub queued_next : (queue : List ℕ) (n x : ℕ) → queued queue (n + 1) x ≡ (eqb x (get_or queue n 0) || queued queue n x)
queued_next queue n x = rw (add-one n, eqb_sym (get_or queue n 0) x) (or_comm (queued queue n x) (eqb x (get_or queue n 0)))

-- the same words
pub queued_same : (queue queue' : List ℕ) (n : ℕ) → ((i : ℕ) → i < n → get_or queue' i 0 ≡ get_or queue i 0) → (x : ℕ)
    → queued queue' n x ≡ queued queue n x
queued_same queue queue' n h x =
    some_below_ext (λ i. eqb (get_or queue' i 0) x) (λ i. eqb (get_or queue i 0) x) n (λ i l. rw (h i l))

-- a word is among them
pub queued_at : (queue : List ℕ) (n i : ℕ) → i < n → queued queue n (get_or queue i 0) ≡ true
queued_at queue n i h = some_stops (λ m. eqb (get_or queue m 0) (get_or queue i 0)) n i h (eq-eqb (get_or queue i 0) (get_or queue i 0) refl)

-- ---- a place more

-- one number more passes a test
count_joined : (f g : ℕ → Bool) (x : ℕ) → f x ≡ false → ((y : ℕ) → g y ≡ (eqb y x || f y)) → (n : ℕ) → x < n → count g n ≡ count f n + 1
count_joined f g x out h n l =
    let here : g x ≡ true = h x ∙ rw (eq-eqb x x refl) in
    let one_more = rw (here, out) at (count_differ f g x n l (λ y d. sym (h y ∙ rw (ne_eqb y x d)))) in
    omega (arith, one_more)

-- the same places
pub queue_ext : {f g : ℕ → Bool} {queue : List ℕ} {tail : ℕ} → ((x : ℕ) → f x ≡ g x) → Queue f queue tail → Queue g queue tail
queue_ext {queue} {tail} h q = subst (λ (f : ℕ → Bool). Queue f queue tail) (fun_ext h) q

-- a queue is no longer than there is room for
pub queue_few : {f : ℕ → Bool} {queue : List ℕ} {tail : ℕ} → Queue f queue tail → tail ≤ set_room
queue_few {f} q = omega (arith, q.many, count_le f set_room)

module _ {f : ℕ → Bool} {queue : List ℕ} {tail x : ℕ} (q : Queue f queue tail) (out : f x ≡ false) (l : x < set_room) where
  -- a place that is not among them has room
  pub queue_room : tail < set_room
  queue_room =
      omega (
        arith,
        q.many,
        count_joined f (λ y. eqb y x || f y) x out (λ y. refl) set_room l,
        count_le (λ y. eqb y x || f y) set_room,
      )

  module _ (g : ℕ → Bool) (h : (y : ℕ) → g y ≡ (eqb y x || f y)) where
    kept : (i : ℕ) → i < tail → get_or (set queue tail x) i 0 ≡ get_or queue i 0
    kept i m = get_or-set_other queue tail i x 0 (omega arith)

    here : get_or (set queue tail x) tail 0 ≡ x
    here = get_or-set_same queue tail x 0 (omega (arith, q.long, queue_room))

    pub queue_join : Queue g (set queue tail x) (tail + 1)
    queue_join =
        record {
          long = length-set queue tail x ∙ q.long;
          many = omega (arith, q.many, count_joined f g x out h set_room l);
          inside = λ i m. ⊎_elim
              (λ (d : i < tail). rw (kept i d) (q.inside i d))
              (λ (d : tail ≤ i). let e : i ≡ tail = omega arith in rw (e, here) l)
              (below_or i tail);
          once = λ i m. ⊎_elim (old i) (λ (d : tail ≤ i). last i (omega arith)) (below_or i tail);
          members = λ y. h y ∙ rw (q.members y)
              (sym (queued_next (set queue tail x) tail y ∙ rw (here, queued_same queue (set queue tail x) tail kept y)));
        }
      where
        old : (i : ℕ) → i < tail → queued (set queue tail x) i (get_or (set queue tail x) i 0) ≡ false
        old i d = rw (kept i d) (queued_same queue (set queue tail x) i (λ m e. kept m (omega arith)) (get_or queue i 0) ∙ q.once i d)

        last : (i : ℕ) → i ≡ tail → queued (set queue tail x) i (get_or (set queue tail x) i 0) ≡ false
        last i e = rw (e, here) (queued_same queue (set queue tail x) tail kept x ∙ sym (q.members x) ∙ out)

-- ---- one after the other

pub joined_none : {new queue : List ℕ} {tail : ℕ} → Queue (member new) queue tail → Joined queue tail new queue tail
joined_none q = record { grows = omega arith; kept = λ i l. refl; still = q }

pub joined_put : {new new' queue : List ℕ} {tail x : ℕ} → Queue (member new) queue tail → member new x ≡ false → x < set_room → Put new x new'
    → Joined queue tail new' (set queue tail x) (tail + 1)
joined_put {new' = new'} {queue = queue} {tail = tail} {x = x} q out l p =
    record {
      grows = omega arith;
      kept = λ i m. get_or-set_other queue tail i x 0 (omega arith);
      still = queue_join q out l (member new') (put_members l p);
    }

pub joined_then : {queue new1 queue1 new2 queue2 : List ℕ} {tail tail1 tail2 : ℕ} → Joined queue tail new1 queue1 tail1
    → Joined queue1 tail1 new2 queue2 tail2 → Joined queue tail new2 queue2 tail2
joined_then a b =
    record {
      grows = omega (arith, a.grows, b.grows);
      kept = λ i l. b.kept i (omega (arith, a.grows)) ∙ a.kept i l;
      still = b.still;
    }

module _ {queue new' queue' : List ℕ} {tail tail' : ℕ} (r : Joined queue tail new' queue' tail') where
  -- what was in the queue is there still
  pub joined_same : (n : ℕ) → n ≤ tail → (x : ℕ) → queued queue' n x ≡ queued queue n x
  joined_same n h = queued_same queue queue' n (λ i l. r.kept i (omega arith))

  -- one more of them
  joined_next : (n : ℕ) → n < tail → (x : ℕ) → queued queue' (n + 1) x ≡ (eqb x (get_or queue n 0) || queued queue n x)
  joined_next n h x = joined_same (n + 1) (omega arith) x ∙ queued_next queue n x

  -- the same, by the state and the goal state of the place
  pub joined_place : (n : ℕ) → n < tail → (goals x : ℕ)
      → queued queue' (n + 1) x ≡ (eqb x (get_or queue n 0 / goals * goals + get_or queue n 0 % goals) || queued queue n x)
  joined_place n h goals x = rw (div-add-mod' (get_or queue n 0) goals) (joined_next n h x)

-- ---- a queue of a set's places, place by place

-- the places of a set below n
abbrev pub first_of : List ℕ → ℕ → ℕ → Bool
first_of ws n x = ltb x n && member ws x

pub gather_none : (ws : List ℕ) {queue : List ℕ} → length queue ≡ set_room → Queue (first_of ws 0) queue 0
gather_none ws long =
    record {
      long = long;
      many =
          sym (count_over (first_of ws 0) 0 set_room zero-le (λ i h l. rw (le-ltb i 0 (omega arith))) ∙ count_none (first_of ws 0));
      inside = λ i l. absurd (omega arith);
      once = λ i l. absurd (omega arith);
      members = λ x. rw (le-ltb x 0 (omega arith));
    }

first_other : (ws : List ℕ) (n x : ℕ) → (x ≡ n → ⊥) → first_of ws (n + 1) x ≡ first_of ws n x
first_other ws n x d = rw (below_next x n d)

pub gather_skip : (ws : List ℕ) {queue : List ℕ} (n : ℕ) {tail : ℕ} → member ws n ≡ false → Queue (first_of ws n) queue tail → Queue (first_of ws (n + 1)) queue tail
gather_skip ws n out q = queue_ext (λ x. ⊎_elim (same x) (λ (d : x ≡ n → ⊥). sym (first_other ws n x d)) (same_or x n)) q
  where
    same : (x : ℕ) → x ≡ n → first_of ws n x ≡ first_of ws (n + 1) x
    same x e = rw (e, out, le-ltb n n (omega arith), lt-ltb n (n + 1) (omega arith))

-- the next place is not among those before it
pub first_new : (ws : List ℕ) (n : ℕ) → first_of ws n n ≡ false
first_new ws n = rw (le-ltb n n (omega arith))

pub gather_more : (ws : List ℕ) {queue : List ℕ} (n : ℕ) {tail : ℕ} → member ws n ≡ true → n < set_room → Queue (first_of ws n) queue tail
    → Queue (first_of ws (n + 1)) (set queue tail n) (tail + 1)
gather_more ws n in-it l q = queue_join q (first_new ws n) l (first_of ws (n + 1)) (λ x. ⊎_elim (same x) (other x) (same_or x n))
  where
    same : (x : ℕ) → x ≡ n → first_of ws (n + 1) x ≡ (eqb x n || first_of ws n x)
    same x e = rw (e, in-it, eq-eqb n n refl, lt-ltb n (n + 1) (omega arith))

    other : (x : ℕ) → (x ≡ n → ⊥) → first_of ws (n + 1) x ≡ (eqb x n || first_of ws n x)
    other x d = rw (ne_eqb x n d) (first_other ws n x d)

pub gather_end : (ws : List ℕ) {queue : List ℕ} (n x : ℕ) {tail : ℕ} → ((x : ℕ) → n ≤ x → member ws x ≡ false) → n ≤ x → Queue (first_of ws x) queue tail
    → Queue (member ws) queue tail
gather_end ws n x none h q =
    queue_ext
    (λ y. ⊎_elim
    (λ (l : y < x). rw (lt-ltb y x l))
    (λ (l : x ≤ y). rw (le-ltb y x l) (sym (none y (omega arith))))
    (below_or y x))
    q

-- ---- the places that are known

pub learn_more : {known known' : List ℕ} (queue : List ℕ) (i : ℕ) → ((x : ℕ) → member known x ≡ queued queue i x) → get_or queue i 0 < set_room
    → Put known (get_or queue i 0) known' → (x : ℕ) → member known' x ≡ queued queue (i + 1) x
learn_more queue i h l p x = put_members l p x ∙ rw (h x) (sym (queued_next queue i x))
