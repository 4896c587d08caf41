-- What is promised of the calls for slips of the arm, over the calls for C: one answer and one content of the buffer, which numbers they give, that K = 0
-- gives what planning and advice give today, that advice never refuses what planning left, and that following by the action that was done makes the moves
-- of the game that the chooser sees.
use Prim.Native.Nat.{ℕ, suc, ◌≤◌, ◌<◌}
use mathlib.Core.Bool.{cond, not, and-true}
use mathlib.Core.List.{List}
use mathlib.Core.Logic.{◌⊎◌, inl, inr, ◌≢◌}
use mathlib.Core.Path.{◌≡◌, refl, sym, ◌∙◌, subst}
use native.Mathlib.Nat.{one-mul, zero-mul, zero-add}
use borrow.Author.Tests.{eq-eqb, ne_eqb, lt-ltb, le-ltb}
use lib.Dec.{ltb, eqb}
use lib.ListN.{length}
use Rattle.game.specs.Game.{Inside, Listed, Open}
use Rattle.game.specs.declared.entry.Entry.{Entry}
use Rattle.rules.specs.Job.{place, places, entry_number, arena, record_number}
use Rattle.rules.specs.Fault.{Fault, only}
use Rattle.rules.specs.Bytes.{fault, refusal, said}
use Rattle.rules.specs.Keeps.{Keeps}
use Rattle.rules.specs.Plan.{entry, shaped}
use Rattle.rules.specs.Calls.{Planning, moved_by, is_place, followed, refused_advice, advice_of, advised}
use Rattle.rules.specs.Answers as answers
use Rattle.rules.specs.Answers.{advised_fault}
use Rattle.rules.specs.declared.place.Place.{Place}
use Rattle.rules.proofs.Arenas.{arena_lawful}
use Rattle.rules.proofs.Numbers.{Told, told}
use Rattle.rules.proofs.Unique.{planning_unique}
use Rattle.larger.specs.Larger.{larger, Watched, watched, watching}
use Rattle.larger.specs.Plans.{larger_number, larger_places, larger_room, Trembling, refused, too_many, no_room, planned}
use Rattle.larger.specs.Calls.{is_larger, advised_slips}
use Rattle.larger.proofs.Slipping.{Done, as_named, by_slip, inside_watching, watching_iff}
use Rattle.larger.proofs.Trembled.{larger_entry, trembling_unique, trembling_today, trembled_plainly}
use Rattle.larger.proofs.Advising.{advice_trembled}
use Rattle.cabinet.specs.Figures.{figures_planned, figures_advised}
use Rattle.cabinet.specs.declared.calls.PlannedFigures.{PlannedFigures}
use Rattle.cabinet.specs.declared.calls.AdvisedFigures.{AdvisedFigures}
use Rattle.cabinet.proofs.ByIndex.{figures_known}
use Rattle.cabinet.proofs.Demands.{AdvisedClear, past_advice}
use Rattle.cabinet.proofs.Ranges.{OfPlanning, OfAdvice, of_bytes, alone, of_success}
use Rattle.cabinet.proofs.Ranges as ranges
use Rattle.cabinet.proofs.Starting.{followed_listed, listed_followed}
use Rattle.cabinet.proofs.Unique.{figures_advised_known}

-- ---- planning

pub slips_unique : {b before after after' : List ℕ} {K : ℕ} (r r' : PlannedFigures) → Trembling b K before (figures_planned r) after
    → Trembling b K before (figures_planned r') after' → (r ≡ r') × (after ≡ after')
slips_unique r r' t t' = let (e, a) = trembling_unique t t' in (figures_known r r' e, a)

-- what planning gives, and 18; 12 and 13 alone name a record
abbrev pub OfSlips : ℕ → Type 0
OfSlips n = OfPlanning n ⊎ (n ≡ 18)

pub slips_range : {b before after : List ℕ} {K : ℕ} (r : PlannedFigures) → Trembling b K before (figures_planned r) after
    → Told OfSlips (figures_planned r)
slips_range r t = go t
  where
    go : {b before : List ℕ} {K : ℕ} {after : List ℕ} {f : Fault} → Trembling b K before f after → Told OfSlips f
    go {b} (refused n) = of_bytes b (λ n h. inl (inl h))
    go (too_many e m) = alone 18 (inr refl)
    go (no_room e m l) = alone 7 (inl (inr refl))
    go (planned e m l p) = alone 0 (inl (inl of_success))

-- the first number of the table that applies, with its record; and a refusal changes nothing in the buffer
abbrev pub slips_fault : (b : List ℕ) (K : ℕ) (before : List ℕ) → Fault
slips_fault b K before =
    cond (not (eqb (refusal b) 0)) (fault b)
    (cond (ltb 3 K) (only 18) (cond (ltb (length before) (larger_room (said b) K)) (only 7) (only 0)))

pub slips_refuses : {b before : List ℕ} {K : ℕ} {after : List ℕ} {f : Fault} → Trembling b K before f after
    → (f ≡ slips_fault b K before) × ((f.number ≡ 0 → ⊥) → after ≡ before)
slips_refuses {b} (refused n) = (rw (ne_eqb (refusal b) 0 n), λ z. refl)
slips_refuses {b} {K = K} (too_many e m) = (rw (eq-eqb (refusal b) 0 e, lt-ltb 3 K m), λ z. refl)
slips_refuses {b} {before} {K = K} (no_room e m l) =
    (rw (eq-eqb (refusal b) 0 e, le-ltb 3 K m, lt-ltb (length before) (larger_room (said b) K) l), λ z. refl)
slips_refuses {b} {before} {K = K} (planned e m l p) =
    (rw (eq-eqb (refusal b) 0 e, le-ltb 3 K m, le-ltb (length before) (larger_room (said b) K) l), λ z. absurd (z refl))

-- With K = 0 the two calls answer the same, and leave the same bytes in the same buffer.
pub slips_today : {b before after after' : List ℕ} (r r' : PlannedFigures) → Planning b before (figures_planned r) after
    → Trembling b 0 before (figures_planned r') after' → (r ≡ r') × (after ≡ after')
slips_today r r' p t = let (e, a) = planning_unique p (trembling_today t) in (figures_known r r' e, a)

-- ---- advice

pub slips_advice_unique : (b : List ℕ) (K : ℕ) (p : List ℕ) (s q k : ℕ) (r r' : AdvisedFigures) → figures_advised r ≡ advised_slips b K p s q k
    → figures_advised r' ≡ advised_slips b K p s q k → r ≡ r'
slips_advice_unique b K p s q k r r' e e' = figures_advised_known r r' (e ∙ sym e')

-- what advice gives, and 18
abbrev pub OfSlipsAdvice : ℕ → Type 0
OfSlipsAdvice n = OfAdvice n ⊎ (n ≡ 18)

module _ (b : List ℕ) (K : ℕ) (p : List ℕ) (s q k : ℕ) where
  abbrev x : Entry
  x = entry p (larger_number (said b) (larger k (place s q)))

  -- the tests, one after the other
  abbrev known : answers.AdvisedFigures
  known = cond (not (shaped (said b).actions (larger_places (said b) K) x)) (refused_advice (only 10)) (advice_of x)

  abbrev at : answers.AdvisedFigures
  at = cond (not (is_larger (said b) K s q k)) (refused_advice (only 9)) known

  abbrev long : answers.AdvisedFigures
  long = cond (ltb (length p) (larger_room (said b) K)) (refused_advice (only 7)) at

  abbrev few : answers.AdvisedFigures
  few = cond (ltb 3 K) (refused_advice (only 18)) long

  pub slips_advice_range : (r : AdvisedFigures) → figures_advised r ≡ advised_slips b K p s q k
      → Told OfSlipsAdvice (advised_fault (figures_advised r))
  slips_advice_range r e =
      subst (λ (f : answers.AdvisedFigures). Told OfSlipsAdvice (advised_fault f)) (sym e)
      (ranges.past_advice OfSlipsAdvice (not (eqb (refusal b) 0)) (fault b) few (of_bytes b (λ n h. inl (inl h)))
      (ranges.past_advice OfSlipsAdvice (ltb 3 K) (only 18) long (alone 18 (inr refl))
      (ranges.past_advice OfSlipsAdvice (ltb (length p) (larger_room (said b) K)) (only 7) at (alone 7 (inl (inr (inl refl))))
      (ranges.past_advice OfSlipsAdvice (not (is_larger (said b) K s q k)) (only 9) known (alone 9 (inl (inr (inr (inl refl)))))
      (ranges.past_advice OfSlipsAdvice (not (shaped (said b).actions (larger_places (said b) K) x)) (only 10) (advice_of x)
      (alone 10 (inl (inr (inr (inr refl))))) (alone 0 (inl (inl of_success))))))))

  -- every other figure of a refusal is 0, save that 12 and 13 name a record
  pub slips_advice_clear : AdvisedClear (advised_slips b K p s q k)
  slips_advice_clear =
      past_advice (not (eqb (refusal b) 0)) (fault b) few (told b).no_record
      (past_advice (ltb 3 K) (only 18) long (λ x y. refl)
      (past_advice (ltb (length p) (larger_room (said b) K)) (only 7) at (λ x y. refl)
      (past_advice (not (is_larger (said b) K s q k)) (only 9) known (λ x y. refl)
      (past_advice (not (shaped (said b).actions (larger_places (said b) K) x)) (only 10) (advice_of x) (λ x y. refl) (λ z. absurd (z refl))))))

-- With K = 0 and no slip left it is today's advice.
pub slips_advice_today : (b p : List ℕ) (s q : ℕ) → advised_slips b 0 p s q 0 ≡ advised b p s q
slips_advice_today b p s q =
    let first : larger_number (said b) (larger 0 (place s q)) ≡ entry_number (said b).goals (place s q) =
    rw (zero-mul (places (said b))) (zero-add _) in
    rw (first, one-mul (places (said b)), and-true (is_place (said b) s q))

-- What advice answers of each larger place of plans just made is the plans' entry: it is never refused.
pub slips_advised : {b before after : List ℕ} {K : ℕ} (r : PlannedFigures) (a : AdvisedFigures) → Trembling b K before (figures_planned r) after
    → r.refusal ≡ 0 → (k s q : ℕ) → k ≤ K → s < (said b).states → q < (said b).goals
    → figures_advised a ≡ advised_slips b K after s q k → figures_advised a ≡ advice_of (larger_entry b after (larger k (place s q)))
slips_advised {b} {before} {after} {K} r a t z k s q hk hs hq e =
    e ∙ advice_trembled (subst (λ (f : Fault). Trembling b K before f after) (trembled_plainly t z) t) k s q hk hs hq

-- ---- following by the action that was done

module _ (b : List ℕ) (keeps : Keeps b) (K : ℕ) where
  -- Every move of the game that the chooser sees is one that following takes, by the action that was done; and a slip is taken off exactly where
  -- that is not the action named.
  pub move_followed : (x u : Watched Place) (a : ℕ) → Inside (watching (arena (said b)) K) x → Listed (watching (arena (said b)) K) x a u
      → (followed b x.at.state x.at.goal u.done u.at.state
      ≡ moved_by (record_number (said b) x.at.state u.done u.at.state) u.at)
      × (((u.done ≡ a) × (u.slips ≡ x.slips)) ⊎ ((u.done ≢ a) × (suc u.slips ≡ x.slips)))
  move_followed x u a i m =
      let L = arena_lawful b keeps in
      let (o, d) = (watching_iff (arena (said b)) L K x u a).0 m in
      let inside = ((inside_watching (arena (said b)) L K x).0 i).0 in
      go inside d
    where
      go : Inside (arena (said b)) x.at → Done (arena (said b)) x.at x.slips a u.slips u.done u.at
          → (followed b x.at.state x.at.goal u.done u.at.state
          ≡ moved_by (record_number (said b) x.at.state u.done u.at.state) u.at)
          × (((u.done ≡ a) × (u.slips ≡ x.slips)) ⊎ ((u.done ≢ a) × (suc u.slips ≡ x.slips)))
      go i (as_named e q m) = (listed_followed b x.at.state x.at.goal u.done u.at keeps i (rw q m), inl (q, sym e))
      go i (by_slip e n m) = (listed_followed b x.at.state x.at.goal u.done u.at keeps i m, inr (n, sym e))

  -- And where an open action was named, what following takes is such a move: of that action with the slips that are left, of another with one fewer.
  module _ (s q a d t k c : ℕ) (o : Open (arena (said b)) (place s q) a) (e : (followed b s q d t).refusal ≡ 0) where
    abbrev entered_by : Place
    entered_by = place (followed b s q d t).state (followed b s q d t).goal

    pub followed_named : d ≡ a → Listed (watching (arena (said b)) K) (watched k c (place s q)) a (watched k d entered_by)
    followed_named n =
        (watching_iff (arena (said b)) (arena_lawful b keeps) K (watched k c (place s q)) (watched k d entered_by) a).1
        (o, as_named refl n (rw (← n) (followed_listed b s q d t e)))

    pub followed_slip : d ≢ a → Listed (watching (arena (said b)) K) (watched (suc k) c (place s q)) a (watched k d entered_by)
    followed_slip n =
        (watching_iff (arena (said b)) (arena_lawful b keeps) K (watched (suc k) c (place s q)) (watched k d entered_by) a).1
        (o, by_slip refl n (followed_listed b s q d t e))
