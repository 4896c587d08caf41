-- The laws of what a set of words and a plan in bytes hold of a job's places: after round 0, after one round more, by sizes, and read back.
use Prim.Native.Nat.{ℕ, zero, suc, ◌+◌, ◌*◌, ◌/◌, ◌%◌, ◌≤◌, ◌<◌}
use mathlib.Core.Bool.{Bool, true, false, cond, not, ◌&&◌, or-false, and-true, ◌||◌}
use mathlib.Core.List.{List}
use mathlib.Core.Logic.Iff
use mathlib.Core.Logic.{⊎_elim}
use mathlib.Core.Path.{◌≡◌, refl, sym, ap, ◌∙◌, subst}
use native.Mathlib.Nat.{add-zero, div-add-mod', mod-lt}
use native.Mathlib.Omega.{arith}
use borrow.Author.Tests.{lt-ltb, le-ltb, eq-eqb, ne_eqb}
use lib.Arith.{digits_lt, digits_div, digits_mod}
use lib.Dec.{ltb}
use lib.ListN.{length, get_or}
use Rattle.sets.specs.Sets.{set_words, member, count}
use Rattle.game.specs.Game.{Inside, Lawful, says}
use Rattle.game.specs.Below.{some_below}
use Rattle.rules.specs.Job.{Job, place, places, entry_number, arena}
use Rattle.rules.specs.Bytes.{said}
use Rattle.rules.specs.Plan.{entry, entry_byte, room, Wrote}
use Rattle.rules.specs.declared.place.Place.{Place}
use Rattle.game.specs.declared.entry.Entry.{Entry}
use Rattle.rules.proofs.Arenas.{inside_iff, arena_lawful}
use Rattle.sets.proofs.Sizes.{count_same}
use Rattle.game.proofs.Search.{lowest}
use Rattle.sets.proofs.Bits.{below_or, same_or}
use Rattle.rules.proofs.Entries.{read_back}
use Rattle.rules.proofs.Rows.{row_of}
use Rattle.game.proofs.Tests.{and_iff, ltb_iff}
use Rattle.job.specs.Layout.{Fit, layout}
use Rattle.job.specs.declared.layout.Layout.{Layout}
use Rattle.phases.specs.declared.phase.Phase.{Phase}
use Rattle.phases.specs.Wanted.{in_set, wanted, phase_value}
use Rattle.phases.specs.Pass.{place_at, Pass}
use Rattle.phases.specs.Round.{Passed, BegunAll}
use Rattle.phases.specs.Rounds.{reached, written, Holds, NonePast}
use Rattle.phases.proofs.Passes.{between_zero}
use Rattle.phases.proofs.Agree.{some_wanted_ext, lowest_wanted_ext, reached_up}

-- ---- places and their numbers

pub place_number : (goals x : ℕ) → entry_number goals (place_at goals x) ≡ x
place_number goals x = div-add-mod' x goals

pub number_place : {goals : ℕ} (p : Place) → p.goal < goals → place_at goals (entry_number goals p) ≡ p
number_place p h = rw (digits_div p.state h, digits_mod p.state h)

module _ (j : Job) where
  pub place_inside : 0 < j.goals → (x : ℕ) → x < places j → Inside (arena j) (place_at j.goals x)
  place_inside g x h = (inside_iff j (place_at j.goals x)).1 (row_of g x h, mod-lt x g)

  pub number_below : (p : Place) → Inside (arena j) p → entry_number j.goals p < places j
  number_below p m = let (s, q) = (inside_iff j p).0 m in digits_lt s q

-- ---- what is held of a place

module _ {j : Job} {f : Place → Bool} {e : Place → Entry} {before ws plan : List ℕ} (h : Holds j f e before ws plan) where
  pub holds_member : (x : ℕ) → x < places j → member ws x ≡ f (place_at j.goals x)
  holds_member x l = h.members x ∙ rw (lt-ltb x (places j) l)

  pub member_held : (x : ℕ) → member ws x ≡ true → (x < places j) × (f (place_at j.goals x) ≡ true)
  member_held x m = (and_iff (ltb_iff x (places j)) Iff.rfl).0 (sym (h.members x) ∙ m)

  pub holds_in_set : (p : Place) → Inside (arena j) p → in_set j.goals ws p ≡ f p
  holds_in_set p m =
      holds_member (entry_number j.goals p) (number_below j p m) ∙ ap f (number_place p ((inside_iff j p).0 m).1)

  -- the entry is what writing it once more would leave
  pub holds_entry : (s q : ℕ) → s < j.states → q < j.goals → entry plan (entry_number j.goals (place s q)) ≡ e (place s q)
  holds_entry s q hs hq = read_back again
    where
      same : (y : ℕ) → y / 4 ≡ s * j.goals + q → get_or plan y 0 ≡ entry_byte (e (place s q)) (y % 4)
      same y d = h.bytes y ∙ rw (d, lt-ltb (s * j.goals + q) (places j) (digits_lt hs hq), number_place (place s q) hq)

      again : Wrote (s * j.goals + q) (e (place s q)) plan plan
      again =
          record {
            as_long = refl;
            bytes =
                λ y. ⊎_elim
                (λ (d : y / 4 ≡ s * j.goals + q). rw (eq-eqb (y / 4) (s * j.goals + q) d) (same y d))
                (λ (d : y / 4 ≡ s * j.goals + q → ⊥). rw (ne_eqb (y / 4) (s * j.goals + q) d))
                (same_or (y / 4) (s * j.goals + q));
          }

  pub holds_rest : (y : ℕ) → room j ≤ y → get_or plan y 0 ≡ get_or before y 0
  holds_rest y l = h.bytes y ∙ rw (le-ltb (y / 4) (places j) (omega arith))

  pub holds_none_past : NonePast j ws
  holds_none_past x l = h.members x ∙ rw (le-ltb x (places j) l)

  -- a phase begins: none of its rounds yet
  pub holds_zero : (v : Phase) → Holds j (reached v (arena j) f zero) (written v (arena j) f e zero) before ws plan
  unfolding reached written
  holds_zero v = h

-- a set of the job's places and a plan hold what they say themselves
entry_bytes : (plan : List ℕ) → ((y : ℕ) → get_or plan y 0 < 256) → (d i y : ℕ) → d < 4 → y ≡ 4 * i + d
    → get_or plan y 0 ≡ entry_byte (entry plan i) d
entry_bytes plan small zero i y h e = rw (e ∙ add-zero (4 * i))
entry_bytes plan small (suc zero) i y h e = rw e
entry_bytes plan small (suc (suc zero)) i y h e = rw e (omega (arith, small (4 * i + 2)))
entry_bytes plan small (suc (suc (suc zero))) i y h e =
    let at : 4 * i + 3 ≡ 4 * i + 2 + 1 = omega arith in
    rw (e, at) (omega (arith, small (4 * i + 2)))
entry_bytes plan small (suc (suc (suc (suc d)))) i y h e = absurd (omega arith)

pub holds_itself : (j : Job) {ws plan : List ℕ} → length ws ≡ set_words → ((y : ℕ) → get_or plan y 0 < 256) → NonePast j ws
    → Holds j (in_set j.goals ws) (λ p. entry plan (entry_number j.goals p)) plan ws plan
holds_itself j {ws} {plan} words small none =
    record {
      words = words;
      as_long = refl;
      members =
          λ x. ⊎_elim
          (λ (l : x < places j). rw (lt-ltb x (places j) l, place_number j.goals x))
          (λ (l : places j ≤ x). rw (le-ltb x (places j) l) (none x l))
          (below_or x (places j));
      bytes =
          λ y. ⊎_elim
          (λ (l : y / 4 < places j). rw (lt-ltb (y / 4) (places j) l, place_number j.goals (y / 4))
          (entry_bytes plan small (y % 4) (y / 4) y (omega arith) (omega arith)))
          (λ (l : places j ≤ y / 4). rw (le-ltb (y / 4) (places j) l))
          (below_or (y / 4) (places j));
    }

-- ---- one round more

-- a place is of the old ones or new, and its entry is the old one or the new one
pub joined : (r c : Bool) → (not r && c || r) ≡ (r || c)
joined true c = refl
joined false c = or-false c

pub rewritten : (r c : Bool) (new old : Entry) (d : ℕ)
    → cond (not r && c) (entry_byte new d) (entry_byte old d) ≡ entry_byte (cond r old (cond c new old)) d
rewritten true c new old d = refl
rewritten false true new old d = refl
rewritten false false new old d = refl

module _ (j : Job) (L : Lawful (arena j)) (some : 0 < j.goals)
    (v : Phase) (f : Place → Bool) (e : Place → Entry) (k : ℕ) {before ws plan : List ℕ}
    (h : Holds j (reached v (arena j) f k) (written v (arena j) f e k) before ws plan) where
  -- the place whose entry is x was there; what the round looks for at it, by the words, and by the places reached
  abbrev there : ℕ → Bool
  there x = reached v (arena j) f k (place_at j.goals x)

  abbrev by_words : ℕ → ℕ → Bool
  by_words x = wanted v (arena j) (in_set j.goals ws) (place_at j.goals x)

  abbrev by_places : ℕ → ℕ → Bool
  by_places x = wanted v (arena j) (reached v (arena j) f k) (place_at j.goals x)

  -- the two find the same
  module _ (x : ℕ) (l : x < places j) where
    same_some : some_below j.actions (by_words x) ≡ some_below j.actions (by_places x)
    same_some =
        some_wanted_ext L v (in_set j.goals ws) (reached v (arena j) f k) (holds_in_set h) (place_at j.goals x)
        (place_inside j some x l)

    same_lowest : lowest (by_words x) j.actions ≡ lowest (by_places x) j.actions
    same_lowest =
        lowest_wanted_ext L v (in_set j.goals ws) (reached v (arena j) f k) (holds_in_set h) (place_at j.goals x)
        (place_inside j some x l)

  -- the round, of a job
  abbrev new_by_words : ℕ → Bool
  new_by_words x = not (member ws x) && some_below j.actions (by_words x)

  abbrev said_by_words : ℕ → Entry
  said_by_words x = says (phase_value v) (lowest (by_words x) j.actions) (suc k)

  holds_more : {ws' plan' : List ℕ} → Pass new_by_words new_by_words said_by_words 0 (places j) ws plan ws' plan'
      → Holds j (reached v (arena j) f (suc k)) (written v (arena j) f e (suc k)) before ws' plan'
  unfolding reached written
  holds_more a =
      record {
        words = a.as_many ∙ h.words;
        as_long = a.as_long ∙ h.as_long;
        members =
            λ x. a.joins x
            ∙ rw (between_zero (places j) x, h.members x)
            (⊎_elim
            (λ (l : x < places j). rw (lt-ltb x (places j) l, same_some x l) (joined (there x) (some_below j.actions (by_places x))))
            (λ (l : places j ≤ x). rw (le-ltb x (places j) l))
            (below_or x (places j)));
        bytes =
            λ y. let x = y / 4 in a.bytes y
            ∙ rw (between_zero (places j) x, h.members x, h.bytes y)
            (⊎_elim
            (λ (l : x < places j). rw (lt-ltb x (places j) l, same_some x l, same_lowest x l)
            (rewritten (there x) (some_below j.actions (by_places x)) (says (phase_value v) (lowest (by_places x) j.actions) (suc k))
            (written v (arena j) f e k (place_at j.goals x)) (y % 4)))
            (λ (l : places j ≤ x). rw (le-ltb x (places j) l))
            (below_or x (places j)));
      }

-- ---- a round of the bytes that keep the rules

module _ {b : List ℕ} {l : Layout} (t : Fit b l) where
  -- round 0: the places where the goal is met
  pub holds_begin : {plan ws plan' : List ℕ} → BegunAll b l plan ws plan'
      → Holds (said b) (arena (said b)).accepted (λ p. cond ((arena (said b)).accepted p) (says 2 255 0) (says 0 255 0)) plan ws plan'
  holds_begin {plan} {ws} {plan'} r = go (subst (λ (m : Layout). BegunAll b m plan ws plan') t.is_layout r)
    where
      go : BegunAll b (layout b) plan ws plan'
          → Holds (said b) (arena (said b)).accepted (λ p. cond ((arena (said b)).accepted p) (says 2 255 0) (says 0 255 0)) plan ws plan'
      go (ws0, words, none, a) =
          record {
            words = a.as_many ∙ words;
            as_long = a.as_long;
            members = λ x. a.joins x ∙ rw (none x, between_zero (places (said b)) x) (or-false _);
            bytes = λ y. a.bytes y ∙ rw (between_zero (places (said b)) (y / 4), and-true (ltb (y / 4) (places (said b))));
          }

  pub holds_round : (v : Phase) (f : Place → Bool) (e : Place → Entry) (k : ℕ) {before ws plan ws' plan' : List ℕ}
      → Holds (said b) (reached v (arena (said b)) f k) (written v (arena (said b)) f e k) before ws plan
      → Passed b l v (suc k) ws 0 (l.states * l.goals) ws plan ws' plan'
      → Holds (said b) (reached v (arena (said b)) f (suc k)) (written v (arena (said b)) f e (suc k)) before ws' plan'
  holds_round v f e k {before} {ws} {plan} {ws'} {plan'} h r =
      holds_more (said b) (arena_lawful b t.keeps) t.keeps.some_goals v f e k h
      (subst (λ (m : Layout). Passed b m v (suc k) ws 0 (m.states * m.goals) ws plan ws' plan') t.is_layout r)

-- ---- sizes

-- the words held f and hold g, which is true wherever f is, and are counted up to some number
module _ {j : Job} {f g : Place → Bool} {e e' : Place → Entry} {before before' ws plan ws' plan' : List ℕ}
    (wider : (p : Place) → f p ≡ true → g p ≡ true) (h : Holds j f e before ws plan) (h' : Holds j g e' before' ws' plan') where
  still : (x : ℕ) → member ws x ≡ true → member ws' x ≡ true
  still x m =
      let (l, r) = member_held h x m in
      holds_member h' x l ∙ wider (place_at j.goals x) r

  pub held_same : (room : ℕ) → places j ≤ room → count (member ws') room ≡ count (member ws) room
      → (p : Place) → Inside (arena j) p → g p ≡ true → f p ≡ true
  held_same room few c p m r =
      let i = entry_number j.goals p in
      let l : i < places j = number_below j p m in
      let same : member ws i ≡ member ws' i = count_same (member ws) (member ws') still room (omega arith) i (omega arith) in
      sym (holds_in_set h p m) ∙ same ∙ holds_in_set h' p m ∙ r

module _ {j : Job} (v : Phase) (f : Place → Bool) (k : ℕ) {e e' : Place → Entry} {before before' ws plan ws' plan' : List ℕ}
    (h : Holds j (reached v (arena j) f k) e before ws plan) (h' : Holds j (reached v (arena j) f (suc k)) e' before' ws' plan')
  where
    -- a round after which the set has the size that it had added nothing
    pub same_size : (room : ℕ) → places j ≤ room → count (member ws') room ≡ count (member ws) room → (p : Place) → Inside (arena j) p
        → reached v (arena j) f (suc k) p ≡ true → reached v (arena j) f k p ≡ true
    same_size = held_same (reached_up v (arena j) f k) h h'
