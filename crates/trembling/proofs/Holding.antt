-- The laws of what a set of words and a plan in bytes hold of the places of an arena that are numbered: after one round more, by sizes, and
-- read back; and the rounds of a phase as a loop makes them.
use Prim.Native.Nat.{ℕ, zero, suc, ◌+◌, ◌*◌, ◌/◌, ◌%◌, ◌≤◌, ◌<◌}
use mathlib.Core.Bool.{Bool, true, false, not, ◌&&◌, or-false, or-true, false≢true, ◌||◌}
use mathlib.Core.List.{List}
use mathlib.Core.Logic.Iff
use mathlib.Core.Logic.{◌⊎◌, inl, inr, ⊎_elim}
use mathlib.Core.Path.{◌≡◌, refl, sym, ap, ◌∙◌, subst}
use native.Mathlib.Numerals.{add-one}
use native.Mathlib.Omega.{arith}
use borrow.Author.Tests.{lt-ltb, le-ltb, eq-eqb, ne_eqb}
use lib.Dec.{ltb}
use lib.ListN.{get_or}
use Rattle.sets.specs.Sets.{member, one, count}
use Rattle.game.specs.Game.{Arena, Inside, Lawful, Right, says}
use Rattle.game.specs.Below.{some_below}
use Rattle.rules.specs.Plan.{entry, entry_byte, Wrote}
use Rattle.game.specs.declared.entry.Entry.{Entry}
use Rattle.sets.proofs.Sizes.{count_le, count_same}
use Rattle.game.proofs.Lists.{some_found, sure_at}
use Rattle.game.proofs.Tests.{and_iff, some_met}
use Rattle.game.proofs.Search.{lowest, clash, if_not_true}
use Rattle.sets.proofs.Bits.{below_or, same_or}
use Rattle.rules.proofs.Entries.{read_back}
use Rattle.phases.specs.declared.phase.Phase.{Phase}
use Rattle.phases.specs.Wanted.{wanted, phase_value}
use Rattle.phases.specs.Pass.{between, Pass}
use Rattle.phases.specs.Rounds.{reached, written}
use Rattle.phases.proofs.Passes.{between_zero, pass_grows}
use Rattle.phases.proofs.Agree.{some_wanted_ext, lowest_wanted_ext}
use Rattle.phases.proofs.Holding.{joined, rewritten}
use Rattle.phases.proofs.Settling.{last_next}
use Rattle.phases.proofs.Steps.{first_says, wins_by, wins_says, all_right}
use Rattle.trembling.specs.Held.{Numbered, Held, Settled}

-- ---- what is held of a place

module _ {G : Arena} {n : ℕ} {spot : ℕ → G.Place} {f : G.Place → Bool} {e : G.Place → Entry} {before ws plan : List ℕ}
    (h : Held G n spot f e before ws plan) where
  pub held_member : (x : ℕ) → x < n → member ws x ≡ f (spot x)
  held_member x l = h.members x ∙ rw (lt-ltb x n l)

  pub held_rest : (y : ℕ) → 4 * n ≤ y → get_or plan y 0 ≡ get_or before y 0
  held_rest y l = h.bytes y ∙ rw (le-ltb (y / 4) n (omega arith))

  -- a phase begins: none of its rounds yet
  pub held_zero : (v : Phase) → Held G n spot (reached v G f zero) (written v G f e zero) before ws plan
  unfolding reached written
  held_zero v = h

  module _ {number : G.Place → ℕ} (N : Numbered G n spot number) (p : G.Place) (i : Inside G p) where
    pub held_in_set : member ws (number p) ≡ f p
    held_in_set = held_member (number p) (N.below p i) ∙ ap f (N.back p i)

    -- the entry is what writing it once more would leave
    pub held_entry : entry plan (number p) ≡ e p
    held_entry = read_back again
      where
        same : (y : ℕ) → y / 4 ≡ number p → get_or plan y 0 ≡ entry_byte (e p) (y % 4)
        same y d = h.bytes y ∙ rw (d, lt-ltb (number p) n (N.below p i), N.back p i)

        again : Wrote (number p) (e p) plan plan
        again =
            record {
              as_long = refl;
              bytes =
                  λ y. ⊎_elim
                  (λ (d : y / 4 ≡ number p). rw (eq-eqb (y / 4) (number p) d) (same y d))
                  (λ (d : y / 4 ≡ number p → ⊥). rw (ne_eqb (y / 4) (number p) d))
                  (same_or (y / 4) (number p));
            }

-- ---- one round more

module _ {G : Arena} {n : ℕ} {spot : ℕ → G.Place} {number : G.Place → ℕ} (N : Numbered G n spot number) (L : Lawful G)
    (v : Phase) (f : G.Place → Bool) (e : G.Place → Entry) (k : ℕ) {before ws plan : List ℕ}
    (h : Held G n spot (reached v G f k) (written v G f e k) before ws plan) where
  -- the place numbered x was there; what the round looks for at it, by the words, and by the places reached
  abbrev there : ℕ → Bool
  there x = reached v G f k (spot x)

  abbrev by_words : ℕ → ℕ → Bool
  by_words x = wanted v G (λ p. member ws (number p)) (spot x)

  abbrev by_places : ℕ → ℕ → Bool
  by_places x = wanted v G (reached v G f k) (spot x)

  -- the two find the same
  module _ (x : ℕ) (l : x < n) where
    same_some : some_below G.actions (by_words x) ≡ some_below G.actions (by_places x)
    same_some =
        some_wanted_ext L v (λ p. member ws (number p)) (reached v G f k) (held_in_set h N) (spot x) (N.inside x l)

    same_lowest : lowest (by_words x) G.actions ≡ lowest (by_places x) G.actions
    same_lowest =
        lowest_wanted_ext L v (λ p. member ws (number p)) (reached v G f k) (held_in_set h N) (spot x) (N.inside x l)

  -- the round, by the words
  abbrev pub new_by_words : ℕ → Bool
  new_by_words x = not (member ws x) && some_below G.actions (by_words x)

  abbrev pub said_by_words : ℕ → Entry
  said_by_words x = says (phase_value v) (lowest (by_words x) G.actions) (suc k)

  pub held_round : {ws' plan' : List ℕ} → Pass new_by_words new_by_words said_by_words 0 n ws plan ws' plan'
      → Held G n spot (reached v G f (suc k)) (written v G f e (suc k)) before ws' plan'
  unfolding reached written
  held_round a =
      record {
        words = a.as_many ∙ h.words;
        as_long = a.as_long ∙ h.as_long;
        members =
            λ x. a.joins x
            ∙ rw (between_zero n x, h.members x)
            (⊎_elim
            (λ (l : x < n). rw (lt-ltb x n l, same_some x l) (joined (there x) (some_below G.actions (by_places x))))
            (λ (l : n ≤ x). rw (le-ltb x n l))
            (below_or x n));
        bytes =
            λ y. let x = y / 4 in a.bytes y
            ∙ rw (between_zero n x, h.members x, h.bytes y)
            (⊎_elim
            (λ (l : x < n). rw (lt-ltb x n l, same_some x l, same_lowest x l)
            (rewritten (there x) (some_below G.actions (by_places x)) (says (phase_value v) (lowest (by_places x) G.actions) (suc k))
            (written v G f e k (spot x)) (y % 4)))
            (λ (l : n ≤ x). rw (le-ltb x n l))
            (below_or x n));
      }

-- ---- sizes: a round after which the set has the size that it had added nothing

pub held_same : {G : Arena} {n : ℕ} {spot : ℕ → G.Place} {number : G.Place → ℕ} (N : Numbered G n spot number) {f g : G.Place → Bool}
    {e e' : G.Place → Entry} {before before' ws plan ws' plan' : List ℕ}
    → Held G n spot f e before ws plan → Held G n spot g e' before' ws' plan' → ((x : ℕ) → member ws x ≡ true → member ws' x ≡ true)
    → (room : ℕ) → n ≤ room → count (member ws') room ≡ count (member ws) room
    → (p : G.Place) → Inside G p → g p ≡ true → f p ≡ true
held_same {number = number} N {ws = ws} {ws' = ws'} h h' still room few c p i r =
    let l = N.below p i in
    let same : member ws (number p) ≡ member ws' (number p) =
    count_same (member ws) (member ws') still room (omega arith) (number p) (omega arith) in
    sym (held_in_set h N p i) ∙ same ∙ held_in_set h' N p i ∙ r

-- ---- a set that is full, and one that is empty

count_below : (n m : ℕ) → count (λ x. ltb x n) m ≤ n
unfolding count
count_below n zero = omega arith
count_below n (suc m) = go (below_or m n) (count_below n m)
  where
    go : (m < n) ⊎ (n ≤ m) → count (λ x. ltb x n) m ≤ n → count (λ x. ltb x n) m + one (ltb m n) ≤ n
    go (inl l) h = rw (lt-ltb m n l) (let c = count_le (λ x. ltb x n) m in omega arith)
    go (inr l) h = rw (le-ltb m n l) (omega arith)

module _ {G : Arena} {n : ℕ} {spot : ℕ → G.Place} {number : G.Place → ℕ} (N : Numbered G n spot number) (room : ℕ) (few : n ≤ room)
    {f : G.Place → Bool} {e : G.Place → Entry} {before ws plan : List ℕ} (h : Held G n spot f e before ws plan) where
  held_full : n ≤ count (member ws) room → (p : G.Place) → Inside G p → f p ≡ true
  held_full full p i =
      let l = N.below p i in
      let within : (x : ℕ) → member ws x ≡ true → ltb x n ≡ true =
      λ x m. ((and_iff {x = ltb x n} {y = f (spot x)} Iff.rfl Iff.rfl).0 (sym (h.members x) ∙ m)).0 in
      let most = count_below n room in
      sym (held_in_set h N p i)
      ∙ count_same (member ws) (λ x. ltb x n) within room (omega arith) (number p) (omega arith)
      ∙ lt-ltb (number p) n l

  held_empty : count (member ws) room ≡ 0 → (p : G.Place) → Inside G p → f p ≡ false
  held_empty none p i =
      let l = N.below p i in
      sym (held_in_set h N p i)
      ∙ sym (count_same (λ x. false) (member ws) (λ x e. absurd (false≢true e)) room (omega arith) (number p) (omega arith))

  -- from no place no round adds one
  pub settled_empty : Lawful G → (v : Phase) → count (member ws) room ≡ 0 → Settled G n spot v f e before ws plan
  unfolding reached
  settled_empty L v none =
      record {
        rounds = zero;
        holds = held_zero h v;
        last = λ p i r. sym (or-false (f p)) ∙ ap (λ (c : Bool). f p || c) (sym (nothing p i)) ∙ r;
      }
    where
      unwanted : (v : Phase) (p : G.Place) → Inside G p → (a : ℕ) → wanted v G f p a ≡ true → ⊥
      unwanted Phase.Winning p i a w =
          let (o, all) = sure_at f (G.leads p a) w in
          clash (all o.0 o.1) (held_empty none o.0 (L.closed p o.0 a i o.1))
      unwanted Phase.Pending p i a w =
          let (t, m, y) = some_found f (G.leads p a) w in
          clash y (held_empty none t (L.closed p t a i m))

      nothing : (p : G.Place) → Inside G p → some_below G.actions (wanted v G f p) ≡ false
      nothing p i =
          if_not_true (some_below G.actions (wanted v G f p)) (λ e.
          let (a, l, w) = some_met (wanted v G f p) G.actions e in unwanted v p i a w)

-- ---- the rounds of a phase

-- after k rounds of the loop: whatever the words and the plan held at its start, they hold it with k rounds made
pub record Going (G : Arena) (n : ℕ) (spot : ℕ → G.Place) (v : Phase) (ws₀ plan₀ : List ℕ) (k : ℕ) (ws plan : List ℕ) : Type 0 where
  pub holds : (f : G.Place → Bool) (e : G.Place → Entry) (before : List ℕ) → Held G n spot f e before ws₀ plan₀
      → Held G n spot (reached v G f k) (written v G f e k) before ws plan

pub going_none : (G : Arena) (n : ℕ) (spot : ℕ → G.Place) (v : Phase) (ws plan : List ℕ) → Going G n spot v ws plan 0 ws plan
going_none G n spot v ws plan = record { holds = λ f e before h. held_zero h v }

-- a round by the words
abbrev pub RoundOf : (G : Arena) (n : ℕ) (spot : ℕ → G.Place) (number : G.Place → ℕ) (v : Phase) (m : ℕ) (ws plan ws' plan' : List ℕ)
    → Type 0
RoundOf G n spot number v m ws plan ws' plan' =
    let finds : ℕ → ℕ → Bool = λ x. wanted v G (λ p. member ws (number p)) (spot x) in
    let new : ℕ → Bool = λ x. not (member ws x) && some_below G.actions (finds x) in
    Pass new new (λ x. says (phase_value v) (lowest (finds x) G.actions) m) 0 n ws plan ws' plan'

module _ {G : Arena} {n : ℕ} {spot : ℕ → G.Place} {number : G.Place → ℕ} (N : Numbered G n spot number) (L : Lawful G)
    {v : Phase} {ws₀ plan₀ ws plan ws' plan' : List ℕ} (k : ℕ)
    (g : Going G n spot v ws₀ plan₀ k ws plan) (r : RoundOf G n spot number v (k + 1) ws plan ws' plan') where
  next : (f : G.Place → Bool) (e : G.Place → Entry) (before : List ℕ) → Held G n spot f e before ws₀ plan₀
      → Held G n spot (reached v G f (suc k)) (written v G f e (suc k)) before ws' plan'
  next f e before h =
      held_round N L v f e k (g.holds f e before h) (subst (λ m. RoundOf G n spot number v m ws plan ws' plan') (add-one k) r)

  pub going_more : Going G n spot v ws₀ plan₀ (k + 1) ws' plan'
  going_more = rw (add-one k) (record { holds = next })

  -- it takes no place out of the set
  still : (x : ℕ) → member ws x ≡ true → member ws' x ≡ true
  still x m = r.joins x ∙ rw m (or-true (between 0 n x && (not true && some_below G.actions (wanted v G (λ p. member ws (number p)) (spot x)))))

  pub going_grows : (room : ℕ) → count (member ws) room ≤ count (member ws') room
  going_grows = pass_grows r

  pub going_stop : (room : ℕ) → n ≤ room → count (member ws') room ≡ count (member ws) room
      → (f : G.Place → Bool) (e : G.Place → Entry) (before : List ℕ) → Held G n spot f e before ws₀ plan₀
      → Settled G n spot v f e before ws' plan'
  going_stop room few c f e before h =
      record {
        rounds = suc k;
        holds = next f e before h;
        last = last_next G L v f k (held_same N (g.holds f e before h) (next f e before h) still room few c);
      }

-- no round adds a place to a full set
pub going_full : {G : Arena} {n : ℕ} {spot : ℕ → G.Place} {number : G.Place → ℕ} (N : Numbered G n spot number)
    {v : Phase} {ws₀ plan₀ ws plan : List ℕ} (k : ℕ) → Going G n spot v ws₀ plan₀ k ws plan → (room : ℕ) → n ≤ room
    → n ≤ count (member ws) room
    → (f : G.Place → Bool) (e : G.Place → Entry) (before : List ℕ) → Held G n spot f e before ws₀ plan₀
    → Settled G n spot v f e before ws plan
going_full N k g room few full f e before h =
    record { rounds = k; holds = g.holds f e before h; last = λ p i r. held_full N room few (g.holds f e before h) full p i }

-- ---- both phases: every entry is right

pub held_right : {G : Arena} {n : ℕ} {spot : ℕ → G.Place} {number : G.Place → ℕ} (N : Numbered G n spot number) (L : Lawful G)
    {before ws plan ws' plan' : List ℕ} (w : Settled G n spot Phase.Winning G.accepted (first_says G) before ws plan)
    → Settled G n spot Phase.Pending (wins_by G w.rounds) (wins_says G w.rounds) before ws' plan'
    → (p : G.Place) → Inside G p → Right G p (entry plan' (number p))
held_right {G} N L w h p i =
    rw (held_entry h.holds N p i) (all_right G L w.rounds w.last h.rounds h.last p i)
