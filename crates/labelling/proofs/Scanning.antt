-- The tally that the first k records leave, and the one that all records of a state leave.
use Prim.Native.Nat.{ℕ, suc, ◌+◌, ◌≤◌, ◌<◌, zero-le}
use mathlib.Core.Bool.{Bool, true, false, cond, not, ◌&&◌, and_comm, or_comm, ◌||◌}
use mathlib.Core.List.{[], ◌∷◌, ◌++◌, map}
use mathlib.Core.Logic.{⊎_elim}
use mathlib.Core.Path.{◌≡◌, refl, sym, ap, ap₂, ◌∙◌}
use native.Mathlib.Decide.{le_ind}
use native.Mathlib.Numerals.{add-one}
use native.Mathlib.Omega.{arith}
use borrow.Author.Tests.{eq-eqb, ne_eqb, lt-ltb}
use lib.Dec.{eqb, ltb}
use Rattle.sets.specs.Sets.{bit}
use Rattle.rules.specs.Job.{Job, is_from, entered, listed}
use Rattle.rules.specs.declared.place.Place.{Place}
use Rattle.rules.specs.declared.place.Move.{Move}
use Rattle.game.proofs.Lists.{some, some_append, some_map}
use Rattle.sets.proofs.Bits.{same_or}
use Rattle.labelling.specs.declared.scan.Tally.{Tally}
use Rattle.labelling.specs.Scan.{From, Tallied, Scanned}

-- a test of the outcome o, listed where x is true
one_found : (f : ℕ → Bool) (x : Bool) (o : ℕ) → some f (cond x (o ∷ []) []) ≡ (x && f o)
unfolding some
one_found f true o = go (f o)
  where
    go : (b : Bool) → elim b [ true ↦ true | false ↦ false ] ≡ b
    go true = refl
    go false = refl
one_found f false o = refl

eqb_swap : (a b : ℕ) → eqb a b ≡ eqb b a
eqb_swap a b =
    ⊎_elim
    (λ (e : a ≡ b). eq-eqb a b e ∙ sym (eq-eqb b a (sym e)))
    (λ (n : a ≡ b → ⊥). ne_eqb a b n ∙ sym (ne_eqb b a (λ e. n (sym e))))
    (same_or a b)

module _ (j : Job) (f : Place → Bool) (p : Place) where
  -- some outcome of the action among the first k records passes
  abbrev pub found : ℕ → ℕ → Bool
  found k a = some f (map (entered j p.goal) (listed j p.state a k))

  found_zero : (a : ℕ) → found 0 a ≡ false
  unfolding some
  found_zero a = refl

  found_suc : (k a : ℕ) → found (suc k) a ≡ (is_from (j.move k) p.state a && f (entered j p.goal (j.move k).outcome) || found k a)
  found_suc k a =
      let h = entered j p.goal in
      let x = is_from (j.move k) p.state a in
      let o = (j.move k).outcome in
      let before = listed j p.state a k in
      some_map f h (before ++ cond x (o ∷ []) [])
      ∙ some_append (λ t. f (h t)) before (cond x (o ∷ []) [])
      ∙ ap₂ (λ (b c : Bool). b || c) (sym (some_map f h before)) (one_found (λ t. f (h t)) x o)
      ∙ or_comm (found k a) (x && f (h o))

  -- a record of another state changes nothing, nor do several
  found_other : (k a : ℕ) → ((j.move k).state ≡ p.state → ⊥) → found (suc k) a ≡ found k a
  found_other k a n = found_suc k a ∙ rw (ne_eqb (j.move k).state p.state n)

  found_others : (k m a : ℕ) → k ≤ m → ((i : ℕ) → k ≤ i → i < m → (j.move i).state ≡ p.state → ⊥) → found m a ≡ found k a
  found_others k m a h n =
      le_ind (λ i. i ≤ m → found i a ≡ found k a) (λ g. refl) (λ i l e g. found_other i a (n i l g) ∙ e (omega arith)) m h (omega arith)

  -- none before the first record of the state, one record of the state more, and no more once these are all passed
  pub found_none : {start : ℕ} → From j p.state start → (a : ℕ) → found start a ≡ false
  found_none {start} h a = found_others 0 start a zero-le (λ i l g e. omega (arith, h.below i g)) ∙ found_zero a

  pub found_more : (k a : ℕ) → (j.move k).state ≡ p.state
      → found (k + 1) a ≡ (f (entered j p.goal (j.move k).outcome) && eqb a (j.move k).action || found k a)
  found_more k a e =
      rw (add-one k, found_suc k a, eq-eqb (j.move k).state p.state e, eqb_swap (j.move k).action a)
      (ap (λ (x : Bool). x || found k a) (and_comm (eqb a (j.move k).action) (f (entered j p.goal (j.move k).outcome))))

  pub found_all : {end : ℕ} → From j (p.state + 1) end → (a : ℕ) → found j.records a ≡ found end a
  found_all {end} h a = found_others end j.records a h.few (λ i l g e. omega (arith, h.above i l g))

-- the tally of the first k records
pub record Scanning (j : Job) (f : Place → Bool) (p : Place) (k : ℕ) (x : Tally) : Type 0 where
  pub opens : (a : ℕ) → bit x.opens.bits a ≡ found j (λ t. true) p k a
  pub held : (a : ℕ) → bit x.held.bits a ≡ found j f p k a
  pub spoilt : (a : ℕ) → bit x.spoilt.bits a ≡ found j (λ t. not (f t)) p k a

module _ {j : Job} {f : Place → Bool} {p : Place} where
  pub scanning_none : {start : ℕ} {x : Tally} → From j p.state start → ((a : ℕ) → bit x.opens.bits a ≡ false)
      → ((a : ℕ) → bit x.held.bits a ≡ false) → ((a : ℕ) → bit x.spoilt.bits a ≡ false) → Scanning j f p start x
  scanning_none h o d e =
      record {
        opens = λ a. o a ∙ sym (found_none j (λ t. true) p h a);
        held = λ a. d a ∙ sym (found_none j f p h a);
        spoilt = λ a. e a ∙ sym (found_none j (λ t. not (f t)) p h a);
      }

  -- record k, which is m and of this state, is looked at
  pub scanning_more : {k : ℕ} {m : Move} {x r : Tally} {inside : Bool} → m ≡ j.move k → (j.move k).state ≡ p.state
      → (j.move k).action < 16
      → inside ≡ f (entered j p.goal m.outcome) → Tallied x m.action inside r → Scanning j f p k x → Scanning j f p (k + 1) r
  scanning_more {k} {m} q s h e n i =
      record {
        opens = λ a. n.opens a ∙ rw (q, i.opens a, few) (sym (found_more j (λ t. true) p k a s));
        held = λ a. n.held a ∙ rw (e, q, i.held a, few) (sym (found_more j f p k a s));
        spoilt = λ a. n.spoilt a ∙ rw (e, q, i.spoilt a, few) (sym (found_more j (λ t. not (f t)) p k a s));
      }
    where
      few : ltb (j.move k).action 16 ≡ true
      few = lt-ltb (j.move k).action 16 h

  pub scanning_all : {end : ℕ} {x : Tally} → From j (p.state + 1) end → Scanning j f p end x → Scanned j f p x
  scanning_all h i =
      record {
        opens = λ a. i.opens a ∙ sym (found_all j (λ t. true) p h a);
        held = λ a. i.held a ∙ sym (found_all j f p h a);
        spoilt = λ a. i.spoilt a ∙ sym (found_all j (λ t. not (f t)) p h a);
      }

-- what lies in the range of s is a record, and one of s
