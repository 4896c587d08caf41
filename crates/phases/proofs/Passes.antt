-- The laws of a pass: over no place, over one place, and one pass after another; and the size of its set.
use Prim.Native.Nat.{ℕ, ◌+◌, ◌*◌, ◌/◌, ◌%◌, ◌≤◌, ◌<◌}
use mathlib.Core.Bool.{Bool, true, false, cond, ◌&&◌, or-false, and-true, and-false, ◌||◌, or-true}
use mathlib.Core.List.{List}
use mathlib.Core.Logic.{⊎_elim}
use mathlib.Core.Path.{◌≡◌, refl, sym, ◌∙◌}
use native.Mathlib.Omega.{arith}
use borrow.Author.Tests.{lt-ltb, le-ltb, le-leb, lt-leb, eq-eqb, ne_eqb}
use lib.Dec.{leb, ltb, eqb}
use lib.ListN.{get_or}
use Rattle.sets.specs.Sets.{member, count, PutIn}
use Rattle.rules.specs.Plan.{entry_byte, Wrote}
use Rattle.game.specs.declared.entry.Entry.{Entry}
use Rattle.sets.proofs.Bits.{below_or, same_or}
use Rattle.sets.proofs.Sizes.{count_sub}
use Rattle.phases.specs.Pass.{between, Pass}

-- ---- the numbers of a window

pub between_none : (lo hi x : ℕ) → hi ≤ lo → between lo hi x ≡ false
between_none lo hi x h =
    ⊎_elim
    (λ (l : x < lo). rw (lt-leb lo x l))
    (λ (l : lo ≤ x). rw (le-leb lo x l) (le-ltb x hi (omega arith)))
    (below_or x lo)

pub between_zero : (hi x : ℕ) → between 0 hi x ≡ ltb x hi
between_zero hi x = rw (le-leb 0 x (omega arith))

pub between_one : (i x : ℕ) → between i (i + 1) x ≡ eqb x i
between_one i x = ⊎_elim same other (same_or x i)
  where
    same : x ≡ i → between i (i + 1) x ≡ eqb x i
    same e = rw (le-leb i x (omega arith), lt-ltb x (i + 1) (omega arith), eq-eqb x i e)

    other : (x ≡ i → ⊥) → between i (i + 1) x ≡ eqb x i
    other n =
        rw (ne_eqb x i n)
        (⊎_elim
        (λ (l : x < i). rw (lt-leb i x l))
        (λ (l : i ≤ x). rw (le-leb i x l) (le-ltb x (i + 1) (omega arith)))
        (below_or x i))

pub between_join : (lo mid hi x : ℕ) → lo ≤ mid → mid ≤ hi → (between mid hi x || between lo mid x) ≡ between lo hi x
between_join lo mid hi x h k = ⊎_elim before after (below_or x mid)
  where
    before : x < mid → (between mid hi x || between lo mid x) ≡ between lo hi x
    before l = rw (lt-leb mid x l, lt-ltb x mid l, lt-ltb x hi (omega arith))

    after : mid ≤ x → (between mid hi x || between lo mid x) ≡ between lo hi x
    after l = rw (le-leb mid x l, le-leb lo x (omega arith), le-ltb x mid l) (or-false (ltb x hi))

-- ---- two tests one after the other, and a test of one place

twice : (b a g m : Bool) → (b && g || (a && g || m)) ≡ ((b || a) && g || m)
twice true a true m = refl
twice true true false m = refl
twice true false false m = refl
twice false a g m = refl

twice_cond : (b a w : Bool) (e p : ℕ) → cond (b && w) e (cond (a && w) e p) ≡ cond ((b || a) && w) e p
twice_cond true a true e p = refl
twice_cond true true false e p = refl
twice_cond true false false e p = refl
twice_cond false a w e p = refl

-- a test within a window of one place
at_one : (f : ℕ → Bool) (b : Bool) (i : ℕ) → f i ≡ b → (x : ℕ) → (between i (i + 1) x && f x) ≡ (b && eqb x i)
at_one f b i h x =
    rw (between_one i x)
    (⊎_elim
    (λ (e : x ≡ i). rw (eq-eqb x i e, e, h) (sym (and-true b)))
    (λ (n : x ≡ i → ⊥). rw (ne_eqb x i n) (sym (and-false b)))
    (same_or x i))

-- the bytes where the entry of the one place is written
one_wrote : (f : ℕ → Bool) (says : ℕ → Entry) {i : ℕ} {before after : List ℕ} → f i ≡ true → Wrote i (says i) before after → (y : ℕ)
    → get_or after y 0 ≡ cond (between i (i + 1) (y / 4) && f (y / 4)) (entry_byte (says (y / 4)) (y % 4)) (get_or before y 0)
one_wrote f says {i} h w y =
    w.bytes y
    ∙ rw (at_one f true i h (y / 4))
    (⊎_elim (λ (e : y / 4 ≡ i). rw e) (λ (n : y / 4 ≡ i → ⊥). rw (ne_eqb (y / 4) i n)) (same_or (y / 4) i))

module _ {gains writes : ℕ → Bool} {says : ℕ → Entry} where
  -- a window of no places changes nothing
  pub pass_empty : {lo hi : ℕ} {ws plan : List ℕ} → hi ≤ lo → Pass gains writes says lo hi ws plan ws plan
  pass_empty {lo} {hi} h =
      record {
        as_many = refl;
        as_long = refl;
        joins = λ x. rw (between_none lo hi x h);
        bytes = λ y. rw (between_none lo hi (y / 4) h);
      }

  pub pass_none : {lo : ℕ} {ws plan : List ℕ} → Pass gains writes says lo lo ws plan ws plan
  pass_none = pass_empty (omega arith)

  pub pass_join : {lo mid hi : ℕ} {ws plan ws1 plan1 ws2 plan2 : List ℕ} → lo ≤ mid → mid ≤ hi
      → Pass gains writes says lo mid ws plan ws1 plan1 → Pass gains writes says mid hi ws1 plan1 ws2 plan2
      → Pass gains writes says lo hi ws plan ws2 plan2
  pass_join {lo} {mid} {hi} {ws} {plan} h k a b =
      record {
        as_many = b.as_many ∙ a.as_many;
        as_long = b.as_long ∙ a.as_long;
        joins =
            λ x. b.joins x ∙ rw (a.joins x)
            (twice (between mid hi x) (between lo mid x) (gains x) (member ws x) ∙ rw (between_join lo mid hi x h k));
        bytes =
            λ y. b.bytes y ∙ rw (a.bytes y)
            (twice_cond (between mid hi (y / 4)) (between lo mid (y / 4)) (writes (y / 4))
            (entry_byte (says (y / 4)) (y % 4)) (get_or plan y 0)
            ∙ rw (between_join lo mid hi (y / 4) h k));
      }

  module _ {i : ℕ} {ws plan : List ℕ} where
    -- one place that the pass leaves as it is; that it adds and writes; that it only writes
    pub pass_skip : gains i ≡ false → writes i ≡ false → Pass gains writes says i (i + 1) ws plan ws plan
    pass_skip g w =
        record {
          as_many = refl;
          as_long = refl;
          joins = λ x. rw (at_one gains false i g x);
          bytes = λ y. rw (at_one writes false i w (y / 4));
        }

    pub pass_put : {n : ℕ} {ws1 plan1 : List ℕ} → gains i ≡ true → writes i ≡ true → i < 64 * n → PutIn n ws i ws1 → Wrote i (says i) plan plan1
        → Pass gains writes says i (i + 1) ws plan ws1 plan1
    pass_put {n} g w h p q =
        record {
          as_many = p.as_long;
          as_long = q.as_long;
          joins = λ x. p.members x ∙ rw (lt-ltb i (64 * n) h, at_one gains true i g x);
          bytes = one_wrote writes says w q;
        }

    pub pass_write : {plan1 : List ℕ} → gains i ≡ false → writes i ≡ true → Wrote i (says i) plan plan1
        → Pass gains writes says i (i + 1) ws plan ws plan1
    pass_write g w q =
        record {
          as_many = refl;
          as_long = q.as_long;
          joins = λ x. rw (at_one gains false i g x);
          bytes = one_wrote writes says w q;
        }

-- a pass over one place that writes it, by what is known of that place
pub pass_at : {accepted : Bool} {e : Entry} (gains : ℕ → Bool) (says : ℕ → Entry) {i : ℕ} {ws plan ws1 plan1 : List ℕ}
    → gains i ≡ accepted → says i ≡ e → Pass (λ x. accepted) (λ x. true) (λ x. e) i (i + 1) ws plan ws1 plan1
    → Pass gains (λ x. true) says i (i + 1) ws plan ws1 plan1
pass_at {accepted} gains says {i} g s p =
    record {
      as_many = p.as_many;
      as_long = p.as_long;
      joins = λ x. p.joins x ∙ rw (at_one gains accepted i g x, at_one (λ k. accepted) accepted i refl x) refl;
      bytes =
          λ y. p.bytes y
          ∙ ⊎_elim
          (λ (e : y / 4 ≡ i). rw (e, s) refl)
          (λ (n : y / 4 ≡ i → ⊥). rw (between_one i (y / 4), ne_eqb (y / 4) i n) refl)
          (same_or (y / 4) i);
    }

-- ---- the set after a pass

module _ {gains writes : ℕ → Bool} {says : ℕ → Entry} {lo hi : ℕ} {ws plan ws' plan' : List ℕ}
    (a : Pass gains writes says lo hi ws plan ws' plan') where
  -- no place leaves the set, so that it is no smaller
  pub pass_grows : (room : ℕ) → count (member ws) room ≤ count (member ws') room
  pass_grows = count_sub (member ws) (member ws') (λ x m. a.joins x ∙ rw m (or-true (between lo hi x && gains x)))

  -- from hi on none joins it
  pub pass_past : (x : ℕ) → hi ≤ x → member ws' x ≡ member ws x
  pass_past x h = a.joins x ∙ rw (le-ltb x hi h, and-false (leb lo x))
