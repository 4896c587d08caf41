-- The arena of a job: which places are inside, how many there are, where an action leads; and that the arena of kept bytes is lawful.
use Prim.Native.Nat.{ℕ, zero, suc, ◌*◌, ◌<◌}
use mathlib.Core.Bool.{Bool, true, false, cond, ◌&&◌, false≢true}
use mathlib.Core.List.Memᴰ
use mathlib.Core.List.{List, [], ◌∷◌, ◌++◌, map, Memᴰ}
use mathlib.Core.Logic.Iff
use mathlib.Core.Logic.{◌⊎◌, inl, inr, ⊎_elim, ⊎_map, ⊎_swap, ◌↔◌, eq_comm}
use mathlib.Core.Path.{◌≡◌, refl, sym, ◌∙◌}
use native.Mathlib.Nat.{suc-mul, zero-mul}
use native.Mathlib.Omega.{arith}
use lib.Dec.{eqb}
use lib.ListN.{length, length-append, length-map}
use Rattle.game.specs.Game.{Inside, Listed, Lawful}
use Rattle.game.specs.Below.{upto, each}
use Rattle.rules.specs.Job.{Job, place, is_from, is_record, entered, start, listed, recorded, places, arena}
use Rattle.rules.specs.Bytes.{said}
use Rattle.rules.specs.Keeps.{Keeps}
use Rattle.rules.specs.declared.place.Move.{Move}
use Rattle.rules.specs.declared.place.Place.{Place}
use Rattle.game.proofs.Tests.{and_iff, eqb_iff, some_iff, one_suc, last_or_below}

-- ---- members of lists

either_iff : {A B C D : Type 0} → A ↔ C → B ↔ D → (A ⊎ B) ↔ (C ⊎ D)
either_iff p q = (⊎_map p.0 q.0, ⊎_map p.1 q.1)

pub append_iff : {A : Type 0} {x : A} (s t : List A) → Memᴰ x (s ++ t) ↔ (Memᴰ x s ⊎ Memᴰ x t)
append_iff s t = (Memᴰ.append_cases s, ⊎_elim (Memᴰ.append_left t) (Memᴰ.append_right s))

pub single_iff : {A : Type 0} {x y : A} → Memᴰ x (y ∷ []) ↔ (x ≡ y)
single_iff = (Memᴰ.eq_of_singleton, λ e. Memᴰ.head e)

pub upto_iff : (n k : ℕ) → Memᴰ k (upto n) ↔ (k < n)
upto_iff zero k = (λ m. absurd (Memᴰ.not-nil m), λ h. absurd (omega arith))
upto_iff (suc n) k = Iff.trans (append_iff (upto n) (n ∷ [])) (Iff.trans (either_iff (upto_iff n k) single_iff) suc_iff)
  where
    suc_iff : ((k < n) ⊎ (k ≡ n)) ↔ (k < suc n)
    suc_iff = (⊎_elim (λ (h : k < n). omega arith) (λ (e : k ≡ n). omega arith), λ h. ⊎_swap (last_or_below h))

-- what holds of i or somewhere in a list holds somewhere in the list with i before it
one_cons : {B : ℕ → Type 0} (i : ℕ) (is : List ℕ) → (B i ⊎ ((k : ℕ) × Memᴰ k is × B k)) ↔ ((k : ℕ) × Memᴰ k (i ∷ is) × B k)
one_cons {B} i is = (
  ⊎_elim (λ y. (i, Memᴰ.head refl, y)) (λ t. (t.0, Memᴰ.tail t.1, t.2)),
  λ t. go t.0 t.2 (Memᴰ.cases_cons t.1),
)
  where
    go : (k : ℕ) → B k → (k ≡ i) ⊎ Memᴰ k is → B i ⊎ ((k : ℕ) × Memᴰ k is × B k)
    go k y (inl e) = inl (rw e at y)
    go k y (inr m) = inr (k, m, y)

module _ {A : Type 0} (f : ℕ → List A) where
  pub each_iff : {x : A} (is : List ℕ) → Memᴰ x (each is f) ↔ ((i : ℕ) × Memᴰ i is × Memᴰ x (f i))
  each_iff [] = (λ m. absurd (Memᴰ.not-nil m), λ t. absurd (Memᴰ.not-nil t.1))
  each_iff (i ∷ is) = Iff.trans (append_iff (f i) (each is f)) (Iff.trans (either_iff Iff.rfl (each_iff is)) (one_cons i is))

  pub length_each : {n : ℕ} → ((i : ℕ) → length (f i) ≡ n) → (is : List ℕ) → length (each is f) ≡ length is * n
  length_each {n} h [] = sym (zero-mul n)
  length_each {n} h (i ∷ is) = omega (arith, length-append (f i) (each is f), h i, length_each h is, suc-mul (length is) n)

pub length_upto : (n : ℕ) → length (upto n) ≡ n
length_upto zero = refl
length_upto (suc n) = omega (arith, length-append (upto n) (n ∷ []), length_upto n)

-- ---- the places

module _ (j : Job) where
  abbrev row : ℕ → List Place
  row s = map (place s) (upto j.goals)

  pub inside_iff : (p : Place) → Inside (arena j) p ↔ ((p.state < j.states) × (p.goal < j.goals))
  inside_iff p = (into, back)
    where
      into : Inside (arena j) p → (p.state < j.states) × (p.goal < j.goals)
      into m =
          let (s, ms, mp) = (each_iff row (upto j.states)).0 m in
          let (q, mq, e) = Memᴰ.of_map (place s) (upto j.goals) mp in
          rw (← e) ((upto_iff j.states s).0 ms, (upto_iff j.goals q).0 mq)

      back : (p.state < j.states) × (p.goal < j.goals) → Inside (arena j) p
      back (h, l) =
          let mq = Memᴰ.map (place p.state) ((upto_iff j.goals p.goal).1 l) in
          (each_iff row (upto j.states)).1 (p.state, (upto_iff j.states p.state).1 h, mq)

  pub size_of : length (arena j).all ≡ places j
  size_of =
      let each_row : (s : ℕ) → length (row s) ≡ j.goals = λ s. length-map (upto j.goals) (place s) ∙ length_upto j.goals in
      length_each row each_row (upto j.states) ∙ rw (length_upto j.states)

-- ---- where an action leads

pub is_from_iff : (m : Move) (s a : ℕ) → (is_from m s a ≡ true) ↔ ((m.state ≡ s) × (m.action ≡ a))
is_from_iff m s a = and_iff (eqb_iff m.state s) (eqb_iff m.action a)

pub is_record_iff : (m : Move) (s a t : ℕ) → (is_record m s a t ≡ true) ↔ ((is_from m s a ≡ true) × (m.outcome ≡ t))
is_record_iff m s a t = and_iff Iff.rfl (eqb_iff m.outcome t)

-- the outcome o, listed where the test x passes
if_listed : (x : Bool) (o t : ℕ) → Memᴰ t (cond x (o ∷ []) []) ↔ ((x && eqb o t) ≡ true)
if_listed true o t = Iff.trans single_iff (Iff.trans eq_comm (Iff.symm (eqb_iff o t)))
if_listed false o t = (λ m. absurd (Memᴰ.not-nil m), λ e. absurd (false≢true e))

module _ (j : Job) where
  pub recorded_iff : (s a t : ℕ) → (recorded j s a t ≡ true) ↔ ((k : ℕ) × (k < j.records) × (is_record (j.move k) s a t ≡ true))
  recorded_iff s a t = some_iff (λ k. is_record (j.move k) s a t) (λ k. Iff.rfl) j.records

  pub listed_iff : (s a n t : ℕ) → Memᴰ t (listed j s a n) ↔ ((k : ℕ) × (k < n) × (is_record (j.move k) s a t ≡ true))
  listed_iff s a zero t = (λ m. absurd (Memᴰ.not-nil m), λ k. absurd (omega arith))
  listed_iff s a (suc n) t =
      let m = j.move n in
      let x = is_from m s a in
      Iff.trans (append_iff (listed j s a n) (cond x (m.outcome ∷ []) []))
      (Iff.trans (either_iff (listed_iff s a n t) (if_listed x m.outcome t)) (one_suc n))

  pub leads_iff : (p t : Place) (a : ℕ) → Listed (arena j) p a t
      ↔ ((k : ℕ) × (k < j.records) × (is_from (j.move k) p.state a ≡ true) × (t ≡ entered j p.goal (j.move k).outcome))
  leads_iff p t a = (into, back)
    where
      Led : Type 0
      Led = (k : ℕ) × (k < j.records) × (is_from (j.move k) p.state a ≡ true) × (t ≡ entered j p.goal (j.move k).outcome)

      into : Listed (arena j) p a t → Led
      into m =
          let (o, l, e) = Memᴰ.of_map (entered j p.goal) (listed j p.state a j.records) m in
          let (k, h, r) = (listed_iff p.state a j.records o).0 l in
          let (f, q) = (is_record_iff (j.move k) p.state a o).0 r in
          (k, h, f, rw q (sym e))

      back : Led → Listed (arena j) p a t
      back (k, h, f, e) =
          let o = (j.move k).outcome in
          let l = (listed_iff p.state a j.records o).1 (k, h, (is_record_iff (j.move k) p.state a o).1 (f, refl)) in
          Memᴰ.cast e (Memᴰ.map (entered j p.goal) l)

-- ---- the arena of bytes that keep the rules

module _ {b : List ℕ} (k : Keeps b) where
  pub entered_inside : {q t : ℕ} → q < (said b).goals → t < (said b).states → Inside (arena (said b)) (entered (said b) q t)
  entered_inside {q} {t} h l = (inside_iff (said b) (entered (said b) q t)).1 (l, k.next_below q ((said b).label t) h (k.label_below t l))

pub start_inside : (b : List ℕ) → Keeps b → Inside (arena (said b)) (start (said b))
start_inside b k = entered_inside k k.first_goal_state k.first_state

pub arena_lawful : (b : List ℕ) → Keeps b → Lawful (arena (said b))
arena_lawful b k = record { closed = closed; counted = counted }
  where
    closed : (p t : Place) (a : ℕ) → Inside (arena (said b)) p → Listed (arena (said b)) p a t → Inside (arena (said b)) t
    closed p t a m l =
        let (i, h, f, e) = (leads_iff (said b) p t a).0 l in
        rw e (entered_inside k ((inside_iff (said b) p).0 m).1 (k.outcome_below i h))

    counted : (p t : Place) (a : ℕ) → Listed (arena (said b)) p a t → a < (said b).actions
    counted p t a l =
        let (i, h, f, e) = (leads_iff (said b) p t a).0 l in
        rw (← ((is_from_iff ((said b).move i) p.state a).0 f).1) (k.action_below i h)
