-- What the functions of the check find, step by step.
use Prim.Native.Nat.{ℕ, suc, ◌+◌, ◌*◌, ◌≤◌, ◌<◌}
use mathlib.Core.Bool.{Bool, true, false, cond, not, ◌&&◌, ◌||◌, and-true, and-false, false≢true}
use mathlib.Core.List.{List}
use mathlib.Core.Logic.{◌⊎◌, ⊎_elim, ⊎_map}
use mathlib.Core.Path.{◌≡◌, refl, sym, ap₂, ◌∙◌}
use native.Mathlib.Omega.{arith}
use borrow.Author.Tests.{eq-eqb, ne_eqb}
use lib.Arith.{digits_div, digits_mod}
use lib.Dec.{eqb}
use Rattle.rules.specs.Job.{Job, place, entered, arena}
use Rattle.rules.specs.Bytes.{said}
use Rattle.rules.specs.Plan.{entry, planned_entry}
use Rattle.rules.specs.declared.place.Move.{Move}
use Rattle.rules.specs.declared.place.Place.{Place}
use Rattle.game.specs.declared.entry.Entry.{Entry}
use Rattle.game.proofs.Lists.{some, sure, sure_some, some_found, some_true}
use Rattle.game.proofs.Search.{either}
use Rattle.game.proofs.Tests.{last_or_below}
use Rattle.sets.proofs.Bits.{below_or}
use Rattle.job.specs.Layout.{Fit}
use Rattle.job.specs.declared.layout.Layout.{Layout}
use Rattle.job.proofs.Asking.{goals_said}
use Rattle.labelling.specs.Scan.{From}
use Rattle.labelling.proofs.Scanning.{found, found_none, found_more, found_all}
use Rattle.checking.specs.declared.entries.Seen.{Seen}
use Rattle.checking.specs.Fits.{outcome_test, does, fits_at, Until, Looked}

-- ---- the records of a state

-- what the first k records show of action a at p
pub record Looking (j : Job) (f : Place → Bool) (p : Place) (a k : ℕ) (x : Seen) : Type 0 where
  pub held : x.held ≡ found j f p k a
  pub spoilt : x.spoilt ≡ found j (λ t. not (f t)) p k a

module _ {j : Job} {f : Place → Bool} {p : Place} {a : ℕ} where
  pub looking_none : {start : ℕ} {x : Seen} → From j p.state start → x.held ≡ false → x.spoilt ≡ false → Looking j f p a start x
  looking_none h d e =
      record { held = d ∙ sym (found_none j f p h a); spoilt = e ∙ sym (found_none j (λ t. not (f t)) p h a) }

  -- record k, which is m and of this state, has another action
  pub looking_other : {k : ℕ} {m : Move} {x : Seen} → m ≡ j.move k → (j.move k).state ≡ p.state → (m.action ≡ a → ⊥)
      → Looking j f p a k x → Looking j f p a (k + 1) x
  looking_other {k} {m} q s n i =
      record { held = i.held ∙ sym (other f); spoilt = i.spoilt ∙ sym (other (λ t. not (f t))) }
    where
      other : (g : Place → Bool) → found j g p (k + 1) a ≡ found j g p k a
      other g = found_more j g p k a s ∙ rw (← q, ne_eqb a m.action (λ e. n (sym e)), and-false (g (entered j p.goal m.outcome)))

  -- or this one, and its outcome is looked at
  pub looking_more : {k : ℕ} {m : Move} {x r : Seen} {does : Bool} → m ≡ j.move k → (j.move k).state ≡ p.state → m.action ≡ a
      → does ≡ f (entered j p.goal m.outcome) → r.held ≡ (does || x.held) → r.spoilt ≡ (not does || x.spoilt)
      → Looking j f p a k x → Looking j f p a (k + 1) r
  looking_more {k} {m} {does} q s e d h g i =
      record {
        held = h ∙ ap₂ (λ (b c : Bool). b || c) d i.held ∙ sym (more f);
        spoilt = g ∙ ap₂ (λ (b c : Bool). not b || c) d i.spoilt ∙ sym (more (λ t. not (f t)));
      }
    where
      more : (g : Place → Bool) → found j g p (k + 1) a ≡ (g (entered j p.goal m.outcome) || found j g p k a)
      more g = found_more j g p k a s ∙ rw (← q, eq-eqb a m.action (sym e), and-true (g (entered j p.goal m.outcome)))

module _ (b own : List ℕ) (r : Entry) (p : Place) (a : ℕ) where
  -- all records of the state are looked at
  pub looked_all : {end : ℕ} {x : Seen} → From (said b) (p.state + 1) end
      → Looking (said b) (λ t. outcome_test r (planned_entry (said b) own t)) p a end x → Looked b own r p a x
  looked_all h i =
      record {
        held = i.held ∙ sym (found_all (said b) (λ t. outcome_test r (planned_entry (said b) own t)) p h a);
        spoilt = i.spoilt ∙ sym (found_all (said b) (λ t. not (outcome_test r (planned_entry (said b) own t))) p h a);
      }

-- ---- an entry, case by case

mixed : (a b c : Bool) → (a ≡ true → (b ≡ true) ⊎ (c ≡ true)) → (b ≡ true → a ≡ true) → (a && not c) ≡ (b && not c)
mixed a b true h g = and-false a ∙ sym (and-false b)
mixed true true false h g = refl
mixed false false false h g = refl
mixed true false false h g = ⊎_elim (λ e. absurd (false≢true e)) (λ e. absurd (false≢true e)) (h refl)
mixed false true false h g = absurd (false≢true (g refl))

-- every member passes and there is one: one passes, and none does not
sure_held : {A : Type 0} (f : A → Bool) (xs : List A) → sure f xs ≡ (some f xs && not (some (λ t. not (f t)) xs))
sure_held {A} f xs = sure_some f xs ∙ mixed (some (λ t. true) xs) (some f xs) (some (λ t. not (f t)) xs) there back
  where
    there : some (λ t. true) xs ≡ true → (some f xs ≡ true) ⊎ (some (λ t. not (f t)) xs ≡ true)
    there e =
        let (t, m, p) = some_found (λ t. true) xs e in
        ⊎_map (λ y. some_true f xs t m y) (λ n. some_true (λ t. not (f t)) xs t m (rw n)) (either (f t))

    back : some f xs ≡ true → some (λ t. true) xs ≡ true
    back e = let (t, m, p) = some_found f xs e in some_true (λ t. true) xs t m refl

-- the entry x, where r is the right one: `every` and `one` say whether all outcomes of its action do, and whether one does
abbrev pub judged : Entry → Entry → Bool → Bool → Bool
judged x r every one =
    eqb x.value r.value
    && (eqb x.number r.number && cond (eqb r.action 255) (eqb x.action 255) (cond (eqb r.value 2) every one))

module _ {b : List ℕ} {l : Layout} (t : Fit b l) (own p : List ℕ) (s : ℕ) {q : ℕ} (g : q < l.goals) {given right : Entry}
    (eg : given ≡ entry p (s * l.goals + q)) (er : right ≡ entry own (s * l.goals + q)) where
  abbrev does_at : Entry → Place → Bool
  does_at r z = outcome_test r (planned_entry (said b) own z)

  abbrev led : List Place
  led = (arena (said b)).leads (place s q) given.action

  abbrev by_does : Entry → Entry → Bool
  by_does x r =
      eqb x.value r.value
      && (eqb x.number r.number && does (arena (said b)) (planned_entry (said b) own) (place s q) r x.action)

  -- the entry there
  pub judged_there : fits_at b own p (s * l.goals + q) ≡ judged given right (sure (does_at right) led) (some (does_at right) led)
  judged_there =
      let e : fits_at b own p (s * l.goals + q) ≡ by_does (entry p (s * l.goals + q)) (entry own (s * l.goals + q)) =
      rw (← goals_said t, digits_div s g, digits_mod s g) in
      e ∙ ap₂ by_does (sym eg) (sym er)

  -- the same by what the records show
  pub judged_seen : {x : Seen} → Looked b own right (place s q) given.action x
      → fits_at b own p (s * l.goals + q) ≡ judged given right (x.held && not x.spoilt) x.held
  judged_seen {x} k =
      judged_there
      ∙ ap₂ (judged given right)
      (sure_held (does_at right) led ∙ ap₂ (λ (h s : Bool). h && not s) (sym k.held) (sym k.spoilt)) (sym k.held)

-- ---- entry after entry

-- every number from lo up to x passes
pub record AllFrom (f : ℕ → Bool) (lo x : ℕ) : Type 0 where
  pub pass : (y : ℕ) → lo ≤ y → y < x → f y ≡ true

module _ {f : ℕ → Bool} {lo : ℕ} where
  pub all_none : {x : ℕ} → x ≤ lo → AllFrom f lo x
  all_none l = record { pass = λ y h d. absurd (omega arith) }

  pub all_more : {x z : ℕ} → AllFrom f lo x → f x ≡ true → z ≡ x + 1 → AllFrom f lo z
  all_more {x} a e q =
      record {
        pass = λ y h l.
            ⊎_elim (λ (p : y ≡ x). rw p e) (λ (d : y < x). a.pass y h d) (last_or_below (let m : y < suc x = omega arith in m));
      }

  pub all_on : {x hi z : ℕ} → AllFrom f lo x → Until f x hi z → hi ≤ z → AllFrom f lo hi
  all_on {x} a u m =
      record { pass = λ y h l. ⊎_elim (λ (d : y < x). a.pass y h d) (λ (d : x ≤ y). u.pass y d (omega arith)) (below_or y x) }

  -- the first that fails is found, in a part that begins where all passed, or there is none
  pub until_fail : {hi x : ℕ} → AllFrom f lo x → lo ≤ x → x ≤ hi → f x ≡ false → Until f lo hi x
  until_fail a h l e = record { from = h; to = l; pass = a.pass; fail = λ d. e }

  pub until_part : {x end hi z : ℕ} → AllFrom f lo x → lo ≤ x → Until f x end z → z < end → end ≤ hi → Until f lo hi z
  until_part {x} {z} a h u l m =
      record {
        from = let g = u.from in omega arith;
        to = omega arith;
        pass = λ y g d. ⊎_elim (λ (c : y < x). a.pass y g c) (λ (c : x ≤ y). u.pass y c d) (below_or y x);
        fail = λ d. u.fail l;
      }

  pub until_end : {hi x : ℕ} → AllFrom f lo x → lo ≤ x → x ≡ hi → Until f lo hi x
  until_end a h e = record { from = h; to = omega arith; pass = a.pass; fail = λ d. absurd (omega arith) }
