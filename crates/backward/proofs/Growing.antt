-- One place more is taken: which actions a phase then looks for, and that the counters tell them.
use Prim.Native.Nat.{ℕ, ◌+◌, ◌*◌, ◌/◌, ◌%◌, ◌<◌}
use mathlib.Core.Bool.{Bool, true, false, not, ◌&&◌, ◌||◌, or-true, and_assoc}
use mathlib.Core.List.{List, Memᴰ}
use mathlib.Core.Logic.{⊎_elim}
use mathlib.Core.Path.{◌≡◌, refl, sym, ap, ◌∙◌, subst}
use native.Mathlib.Nat.{mod-lt}
use borrow.Author.Tests.{lt-ltb, eq-eqb, ne_eqb}
use lib.Arith.{digits_div, digits_mod}
use lib.Dec.{eqb}
use lib.ListN.{get_or}
use Rattle.rules.specs.Bytes.{said}
use Rattle.rules.specs.Keeps.{Keeps}
use Rattle.game.specs.Game.{Listed}
use Rattle.rules.specs.Job.{Job, place, entered, entry_number, recorded, arena}
use Rattle.rules.specs.declared.place.Place.{Place}
use Rattle.rules.proofs.Arenas.{leads_iff, is_record_iff, recorded_iff}
use Rattle.game.proofs.Lists.{how_many, every, sure, some_ext, sure_ext, sure_at, sure_true, some_true, every_at, every_true}
use Rattle.game.proofs.Search.{clash, either}
use Rattle.game.proofs.Tests.{and_iff, eqb_iff, same_test}
use Rattle.phases.specs.declared.phase.Phase.{Phase}
use Rattle.phases.specs.Wanted.{wanted}
use Rattle.phases.specs.Pass.{place_at}
use Rattle.backward.specs.Counts.{untaken}
use Rattle.backward.specs.Notes.{from_all}
use Rattle.backward.specs.Queue.{numbered}
use Rattle.backward.specs.Step.{unsure}
use Rattle.backward.proofs.Counting.{every_count}
use Rattle.backward.proofs.Taking.{into}

-- where a member passes, the test that all pass is the test of a list that is not empty
sure_every : {A : Type 0} (f : A → Bool) (xs : List A) (t : A) → Memᴰ t xs → sure f xs ≡ every f xs
sure_every f xs t m =
    same_test (λ e. every_true f xs (sure_at f xs e).1) (λ e. sure_true f xs (t, m) (every_at f xs e))

-- a phase looks for no fewer actions when more places are taken
module _ {A : Type 0} (f g : A → Bool) (wider : (t : A) → f t ≡ true → g t ≡ true) (xs : List A) where
  sure_wider : (sure g xs || sure f xs) ≡ sure g xs
  sure_wider = go (sure g xs) (sure f xs) (λ e. let s = sure_at f xs e in sure_true g xs s.0 (λ t m. wider t (s.1 t m)))
    where
      go : (x y : Bool) → (y ≡ true → x ≡ true) → (x || y) ≡ x
      go true y h = refl
      go false true h = sym (h refl)
      go false false h = refl

module _ {b : List ℕ} (k : Keeps b) {t g : ℕ} (f f' : ℕ → Bool) (ht : t < (said b).states) (hg : g < (said b).goals)
    (members : (x : ℕ) → f' x ≡ (eqb x (t * (said b).goals + g) || f x)) where
  abbrev job : Job
  job = said b

  abbrev here : ℕ
  here = t * (said b).goals + g

  abbrev before : Place → Bool
  before = numbered job.goals f

  abbrev after : Place → Bool
  after = numbered job.goals f'

  wider : (z : Place) → before z ≡ true → after z ≡ true
  wider z e = members (entry_number job.goals z) ∙ rw e (or-true (eqb (entry_number job.goals z) here))

  taken_here : after (place t g) ≡ true
  taken_here = members here ∙ rw (eq-eqb here here refl)

  module _ (x a : ℕ) where
    abbrev at : Place
    at = place_at job.goals x

    abbrev outs : List Place
    outs = (arena job).leads at a

    goal_below : x % job.goals < job.goals
    goal_below = mod-lt x k.some_goals

    -- the place is listed where it is entered from the goal state and a record leads to its state
    abbrev leads_here : Bool
    leads_here = into job t g (x % job.goals) && recorded job (x / job.goals) a t

    listed_here : leads_here ≡ true → Listed (arena job) at a (place t g)
    listed_here e =
        let (i, r) = (and_iff (eqb_iff (entered job (x % job.goals) t).goal g) (recorded_iff job (x / job.goals) a t)).0 e in
        let (m, h, w) = r in
        let (f, o) = (is_record_iff (job.move m) (x / job.goals) a t).0 w in
        (leads_iff job at (place t g) a).1 (m, h, f, rw (o, ← i))

    -- where it is not listed, no outcome is newly taken
    others : leads_here ≡ false → (z : Place) → Memᴰ z outs → before z ≡ after z
    others n z l =
        let (m, h, w, e) = (leads_iff job at z a).0 l in
        let o = (job.move m).outcome in
        let q = x % job.goals in
        let no : entry_number job.goals z ≡ here → ⊥ =
        λ u.
        let w' : o * job.goals + (entered job q o).goal ≡ here = subst (λ (u : Place). entry_number job.goals u ≡ here) e u in
        let low = k.next_below q (job.label o) goal_below (k.label_below o (k.outcome_below m h)) in
        let s : o ≡ t = sym (digits_div o low) ∙ ap (λ (u : ℕ). u / job.goals) w' ∙ digits_div t hg in
        let d : (entered job q o).goal ≡ g = sym (digits_mod o low) ∙ ap (λ (u : ℕ). u % job.goals) w' ∙ digits_mod t hg in
        clash ((and_iff (eqb_iff (entered job q t).goal g) (recorded_iff job (x / job.goals) a t)).1 (
          subst (λ (u : ℕ). (entered job q u).goal ≡ g) s d,
          (m, h, (is_record_iff (job.move m) (x / job.goals) a t).1 (w, s)),
        )) n
        in
        sym (members (entry_number job.goals z) ∙ rw (ne_eqb (entry_number job.goals z) here no))

    -- the counter of the place and action
    abbrev word : ℕ
    word = x * job.actions + a

    module _ (ha : a < job.actions) where
      word_untaken : untaken job after word ≡ how_many (λ z. not (after z)) outs
      word_untaken = rw (digits_div x ha, digits_mod x ha)

      grows : (v : Phase) → (leads_here && eqb (unsure v job after word) 0 || wanted v (arena job) before at a) ≡ wanted v (arena job) after
          at a
      grows v = ⊎_elim (yes v) (no v) (either leads_here)
        where
          yes : (v : Phase) → leads_here ≡ true
              → (leads_here && eqb (unsure v job after word) 0 || wanted v (arena job) before at a) ≡ wanted v (arena job) after at a
          yes Phase.Winning e =
              rw (e, word_untaken, ← every_count after outs, ← sure_every after outs (place t g) (listed_here e))
              (sure_wider before after wider outs)
          yes Phase.Pending e = rw e (sym (some_true after outs (place t g) (listed_here e) taken_here))

          no : (v : Phase) → leads_here ≡ false
              → (leads_here && eqb (unsure v job after word) 0 || wanted v (arena job) before at a) ≡ wanted v (arena job) after at a
          no Phase.Winning e = rw e (sure_ext before after outs (others e))
          no Phase.Pending e = rw e (some_ext before after outs (others e))

      -- so the actions found are those that the phase looks for
      pub found_grows : (v : Phase) (cs : List ℕ) → get_or cs word 0 ≡ unsure v job after word
          → (from_all job cs t g job.goals x a || wanted v (arena job) before at a) ≡ wanted v (arena job) after at a
      found_grows v cs c =
          rw (c, lt-ltb (x % job.goals) job.goals goal_below)
          (ap (λ (u : Bool). u || wanted v (arena job) before at a)
          (sym (and_assoc (into job t g (x % job.goals)) (recorded job (x / job.goals) a t) (eqb (unsure v job after word) 0))) ∙ grows v)
