-- The laws of the counters: the count of listed outcomes as a count of records, and one record more.
use Prim.Native.Nat.{ℕ, zero, suc, ◌+◌, ◌*◌, ◌/◌, ◌%◌, ◌≤◌, ◌<◌}
use mathlib.Core.Bool.{Bool, true, false, cond, not, ◌&&◌, and-true, and-false}
use mathlib.Core.List.{List, [], ◌∷◌, ◌++◌, map}
use mathlib.Core.Logic.{⊎_elim}
use mathlib.Core.Path.{◌≡◌, refl, sym, ap, ap₂, ◌∙◌}
use native.Mathlib.Nat.{mod-lt, add-zero}
use native.Mathlib.Omega.{arith}
use borrow.Author.Tests.{lt-ltb, le-ltb, eq-eqb, ne_eqb}
use lib.Dec.{eqb, ltb}
use lib.ListN.{length, get_or, set, length-set}
use Rattle.sets.specs.Sets.{one, count}
use Rattle.rules.specs.Job.{Job, is_from, listed, entered}
use Rattle.rules.specs.declared.place.Move.{Move}
use Rattle.rules.specs.declared.place.Place.{Place}
use Rattle.rules.specs.Bytes.{said}
use Rattle.job.specs.Layout.{Fit}
use Rattle.job.specs.declared.layout.Layout.{Layout}
use Rattle.rules.proofs.Arenas.{is_from_iff}
use Rattle.sets.proofs.Bits.{same_or}
use Rattle.game.proofs.Lists.{how_many, every}
use Rattle.game.proofs.Search.{either}
use Rattle.sets.proofs.Sizes.{count_ext, count_none}
use Rattle.backward.specs.Words.{Filled}
use Rattle.backward.specs.Counts.{counters_size, from_at, untaken, Counts, Counted}
use Rattle.backward.proofs.Filling.{stored}
use Rattle.backward.proofs.Walking.{count_next}
use Rattle.backward.proofs.Spots.{spot_action, spot_state, spot_goal, spot_back, below_next, beyond_state}

-- ---- how many of a list

module _ {A : Type 0} where
  pub how_many_append : (f : A → Bool) (xs ys : List A) → how_many f (xs ++ ys) ≡ how_many f xs + how_many f ys
  unfolding how_many
  how_many_append f [] ys = omega arith
  how_many_append f (x ∷ xs) ys = go (f x) refl (how_many_append f xs ys)
    where
      go : (b : Bool) → f x ≡ b → how_many f (xs ++ ys) ≡ how_many f xs + how_many f ys
          → how_many f (x ∷ (xs ++ ys)) ≡ how_many f (x ∷ xs) + how_many f ys
      go true z r = rw (z, how_many) (omega arith)
      go false z r = rw (z, how_many) r

  -- all pass where none fails
  pub every_count : (f : A → Bool) (xs : List A) → every f xs ≡ eqb (how_many (λ t. not (f t)) xs) 0
  unfolding how_many every
  every_count f [] = refl
  every_count f (x ∷ xs) = go (f x) refl (every_count f xs)
    where
      go : (b : Bool) → f x ≡ b → every f xs ≡ eqb (how_many (λ t. not (f t)) xs) 0
          → every f (x ∷ xs) ≡ eqb (how_many (λ t. not (f t)) (x ∷ xs)) 0
      go true z r = rw (z, how_many, every) r
      go false z r = rw (z, how_many, every) (sym (ne_eqb (suc (how_many (λ t. not (f t)) xs)) 0 (λ e. omega arith)))

how_many_map : {A B : Type 0} (g : B → Bool) (h : A → B) (xs : List A) → how_many g (map h xs) ≡ how_many (λ t. g (h t)) xs
unfolding how_many
how_many_map g h [] = refl
how_many_map g h (x ∷ xs) = ap (λ (n : ℕ). elim (g (h x)) [ true ↦ suc n | false ↦ n ]) (how_many_map g h xs)

-- the outcome o, listed where x is true
pub how_many_one : (f : ℕ → Bool) (x : Bool) (o : ℕ) → how_many f (cond x (o ∷ []) []) ≡ one (x && f o)
unfolding how_many
how_many_one f true o = go (f o)
  where
    go : (b : Bool) → elim b [ true ↦ 1 | false ↦ 0 ] ≡ one b
    go true = refl
    go false = refl
how_many_one f false o = refl

-- ---- the listed outcomes of a place and an action, record by record

module _ (j : Job) (g : Place → Bool) (s q a : ℕ) where
  abbrev counts_it : ℕ → Bool
  counts_it i = is_from (j.move i) s a && g (entered j q (j.move i).outcome)

  listed_none : how_many g (map (entered j q) (listed j s a zero)) ≡ 0
  unfolding how_many
  listed_none = refl

  pub listed_count : (n : ℕ) → how_many g (map (entered j q) (listed j s a n)) ≡ count counts_it n
  unfolding count
  listed_count zero = listed_none
  listed_count (suc n) =
      let h = entered j q in
      let x = is_from (j.move n) s a in
      let o = (j.move n).outcome in
      let before = listed j s a n in
      how_many_map g h (before ++ cond x (o ∷ []) [])
      ∙ how_many_append (λ t. g (h t)) before (cond x (o ∷ []) [])
      ∙ ap₂ (λ (b c : ℕ). b + c) (sym (how_many_map g h before) ∙ listed_count n) (how_many_one (λ t. g (h t)) x o)

-- ---- the counters before any place is taken

-- the goal states below q: one record more is counted at each place of its state
pub record Added (goals actions : ℕ) (m : Move) (q : ℕ) (before now : List ℕ) : Type 0 where
  pub as_long : length now ≡ length before
  pub words : (y : ℕ) → get_or now y 0
      ≡ get_or before y 0 + one (ltb (y / actions % goals) q && is_from m (y / actions / goals) (y % actions))

pub added_none : {goals actions : ℕ} {m : Move} {ws : List ℕ} → Added goals actions m 0 ws ws
added_none {goals} {actions} = record { as_long = refl; words = λ y. rw (le-ltb (y / actions % goals) 0 (omega arith)) (omega arith) }

pub added_more : {goals actions q : ℕ} {m : Move} {before now : List ℕ} → Added goals actions m q before now → m.action < actions → q <
    goals
    → (m.state * goals + q) * actions + m.action < length now
    → Added goals actions m (q + 1) before (set now ((m.state * goals + q) * actions + m.action)
    (get_or now ((m.state * goals + q) * actions + m.action) 0 + 1))
added_more {goals} {actions} {q} {m} {before} {now} r a h l =
    record {
      as_long = length-set now i (get_or now i 0 + 1) ∙ r.as_long;
      words = λ y. stored now i (get_or now i 0 + 1) y l ∙ ⊎_elim (here y) (there y) (same_or y i);
    }
  where
    i : ℕ
    i = (m.state * goals + q) * actions + m.action

    here : (y : ℕ) → y ≡ i → cond (eqb y i) (get_or now i 0 + 1) (get_or now y 0)
        ≡ get_or before y 0 + one (ltb (y / actions % goals) (q + 1) && is_from m (y / actions / goals) (y % actions))
    here y e =
        rw (
          eq-eqb y i e,
          e,
          spot_goal goals actions m.state h a,
          spot_state goals actions m.state h a,
          spot_action goals actions m.state h a,
          eq-eqb m.state m.state refl,
          eq-eqb m.action m.action refl,
          lt-ltb q (q + 1) (omega arith),
        )
        (ap (λ (n : ℕ). n + 1) (r.words i ∙ rw (spot_goal goals actions m.state h a, le-ltb q q (omega arith))
        (add-zero (get_or before i 0))))

    there : (y : ℕ) → (y ≡ i → ⊥) → cond (eqb y i) (get_or now i 0 + 1) (get_or now y 0)
        ≡ get_or before y 0 + one (ltb (y / actions % goals) (q + 1) && is_from m (y / actions / goals) (y % actions))
    there y n =
        rw (ne_eqb y i n) (r.words y ∙ ap (λ (b : Bool). get_or before y 0 + one b)
        (⊎_elim hit miss (either (is_from m (y / actions / goals) (y % actions)))))
      where
        hit : is_from m (y / actions / goals) (y % actions) ≡ true
            → (ltb (y / actions % goals) q && is_from m (y / actions / goals) (y % actions))
            ≡ (ltb (y / actions % goals) (q + 1) && is_from m (y / actions / goals) (y % actions))
        hit e =
            let (s, b) = (is_from_iff m (y / actions / goals) (y % actions)).0 e in
            rw (below_next (y / actions % goals) q (λ g. n (spot_back goals actions y m.state q m.action (sym s) g (sym b))))

        miss : is_from m (y / actions / goals) (y % actions) ≡ false
            → (ltb (y / actions % goals) q && is_from m (y / actions / goals) (y % actions))
            ≡ (ltb (y / actions % goals) (q + 1) && is_from m (y / actions / goals) (y % actions))
        miss e = rw (e, and-false (ltb (y / actions % goals) q), and-false (ltb (y / actions % goals) (q + 1)))

module _ {j : Job} {k : ℕ} {before now : List ℕ} where
  -- a record is counted at all goal states
  pub added_all : 0 < j.goals → 0 < j.actions → (j.move k).state < j.states → Counts j (λ y. count (from_at j y) k) before
      → Added j.goals j.actions (j.move k) j.goals before now → Counted j (λ y. count (from_at j y) (k + 1)) before now
  added_all g a s c r =
      record {
        as_long = r.as_long;
        counts = λ y h. added y ∙ rw (c.counts y h) (sym (count_next (from_at j y) k));
        rest =
            λ y h. added y
            ∙ rw (ne_eqb (j.move k).state (y / j.actions / j.goals)
            (λ e. omega (arith, beyond_state j.states j.goals j.actions y g a h)))
            (add-zero (get_or before y 0));
      }
    where
      added : (y : ℕ) → get_or now y 0 ≡ get_or before y 0 + one (from_at j y k)
      added y = r.words y ∙ rw (lt-ltb (y / j.actions % j.goals) j.goals (mod-lt (y / j.actions) g))

-- the counter that a record adds to is small
pub added_few : {goals actions q k : ℕ} {m : Move} {before now : List ℕ} → Added goals actions m q before now → m.action < actions
    → q < goals → (y : ℕ) → y ≡ (m.state * goals + q) * actions + m.action → get_or before y 0 ≤ k → get_or now y 0 ≤ k
added_few {goals} {actions} {q} {k} {m} {before} {now} r a h y e b =
    let z : get_or now y 0 ≡ get_or before y 0 =
    r.words y ∙ rw (e, spot_goal goals actions m.state h a, le-ltb q q (omega arith))
    (add-zero (get_or before ((m.state * goals + q) * actions + m.action) 0)) in
    omega arith

module _ {j : Job} where
  pub counted_none : {before now : List ℕ} → Filled (counters_size j) 0 before now → Counted j (λ y. count (from_at j y) 0) now now
  counted_none f =
      record {
        as_long = refl;
        counts = λ y h. f.words y ∙ rw (lt-ltb y (counters_size j) h) (sym (count_none (from_at j y)));
        rest = λ y h. refl;
      }

  -- one change of the counters after another
  pub counted_then : {c d : ℕ → ℕ} {before mid now : List ℕ} → Counted j c before mid → Counted j d mid now → Counted j d before now
  counted_then x y =
      record { as_long = y.as_long ∙ x.as_long; counts = y.counts; rest = λ i h. y.rest i h ∙ x.rest i h }

  pub counts_of : {c : ℕ → ℕ} {before now : List ℕ} → counters_size j ≤ length before → Counted j c before now → Counts j c now
  counts_of l x = record { long = omega (arith, x.as_long); counts = x.counts }

  -- the same counts, said otherwise
  pub counted_ext : {c d : ℕ → ℕ} {before now : List ℕ} → ((y : ℕ) → c y ≡ d y) → Counted j c before now → Counted j d before now
  counted_ext e x = record { as_long = x.as_long; counts = λ y h. x.counts y h ∙ e y; rest = x.rest }

  pub filled_counted : {x : ℕ} {before now : List ℕ} → Filled (counters_size j) x before now → Counted j (λ y. x) before now
  filled_counted f =
      record {
        as_long = f.as_long;
        counts = λ y h. f.words y ∙ rw (lt-ltb y (counters_size j) h);
        rest = λ y h. f.words y ∙ rw (le-ltb y (counters_size j) h);
      }
  -- with no place taken, a counter is the count of its records

pub untaken_none : (j : Job) (y : ℕ) → count (from_at j y) j.records ≡ untaken j (λ p. false) y
untaken_none j y =
    count_ext (from_at j y) (λ i. from_at j y i && true) j.records (λ i h. sym (and-true (from_at j y i)))
    ∙ sym (listed_count j (λ t. true) (y / j.actions / j.goals) (y / j.actions % j.goals) (y % j.actions) j.records)

pub counters_said : {b : List ℕ} {l : Layout} → Fit b l → l.states * l.goals * l.actions ≡ counters_size (said b)
counters_said f = rw f.is_layout
