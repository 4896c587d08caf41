-- From one layer to the next: which places are taken, which known, and that none is forgotten.
use Prim.Native.Nat.{ℕ, ◌+◌, ◌*◌, ◌≤◌, ◌<◌}
use mathlib.Core.Bool.{Bool, true, false, not, ◌&&◌, true≢false, false≢true, ◌||◌}
use mathlib.Core.List.{List}
use mathlib.Core.Logic.{⊎_elim}
use mathlib.Core.Path.{◌≡◌, refl, sym, ◌∙◌, subst, fun_ext}
use native.Mathlib.Omega.{arith}
use borrow.Author.Tests.{lt-ltb, le-ltb}
use lib.Dec.{ltb}
use lib.ListN.{length}
use Rattle.rules.specs.Bytes.{said}
use Rattle.sets.specs.Sets.{set_words, set_room, member}
use Rattle.game.specs.Game.{Arena}
use Rattle.game.specs.Below.{some_below}
use Rattle.rules.specs.Job.{Job, places, arena}
use Rattle.sets.proofs.Bits.{below_or}
use Rattle.game.proofs.Lists.{sure_at, some_found}
use Rattle.game.proofs.Search.{clash, if_not_true}
use Rattle.game.proofs.Tests.{some_met}
use Rattle.job.specs.Layout.{Fit, layout}
use Rattle.job.specs.declared.layout.Layout.{Layout}
use Rattle.job.proofs.Asking.{few_places}
use Rattle.phases.specs.declared.phase.Phase.{Phase}
use Rattle.phases.specs.Wanted.{wanted}
use Rattle.phases.specs.Pass.{place_at}
use Rattle.phases.specs.Round.{Passed}
use Rattle.phases.proofs.Passes.{between_zero}
use Rattle.phases.proofs.Settling.{Going, going_none, going_more, going_stop}
use Rattle.backward.specs.Counts.{Counted}
use Rattle.backward.specs.Queue.{queued, numbered, Queue}
use Rattle.backward.specs.Step.{unsure}
use Rattle.backward.specs.Layer.{looked, Between, LayerReady, Layered}
use Rattle.backward.specs.Layers.{LayersReady, LayersDone}
use Rattle.backward.proofs.Counting.{counted_then, counts_of}
use Rattle.backward.proofs.Queuing.{joined_same}

-- with no place taken, a phase looks for no action
wanted_none : (v : Phase) (G : Arena) (p : G.Place) (a : ℕ) → wanted v G (λ t. false) p a ≡ false
wanted_none Phase.Winning G p a =
    if_not_true (wanted Phase.Winning G (λ t. false) p a)
    (λ e. let s = sure_at (λ t. false) (G.leads p a) e in false≢true (s.1 s.0.0 s.0.1))
wanted_none Phase.Pending G p a =
    if_not_true (wanted Phase.Pending G (λ t. false) p a)
    (λ e. let s = some_found (λ t. false) (G.leads p a) e in false≢true s.2)

none_below : (n : ℕ) (f : ℕ → Bool) → ((a : ℕ) → f a ≡ false) → some_below n f ≡ false
none_below n f h = if_not_true (some_below n f) (λ e. let t = some_met f n e in clash t.2 (h t.0))

none_gained : (k g : Bool) → (not k && g || k) ≡ false → g ≡ false
none_gained true g e = absurd (true≢false e)
none_gained false true e = absurd (true≢false e)
none_gained false false e = refl

-- no other place has an action from the places of the set that a round began with
between_next : {b : List ℕ} {l : Layout} (t : Fit b l) {v : Phase} {n : ℕ} {new plan new' plan' : List ℕ}
    → ((x : ℕ) → member new x ≡ true → x < places (said b)) → Passed b l v n new 0 (l.states * l.goals) new plan new' plan'
    → Between (said b) v (member new) (member new')
between_next {b} t {v} {n} {new} {plan} {new'} {plan'} inside p =
    record {
      inside = λ x e. ⊎_elim
          (λ (h : x < places (said b)). h)
          (λ (h : places (said b) ≤ x). inside x (sym (rw (le-ltb x (places (said b)) h) at (joins x)) ∙ e))
          (below_or x (places (said b)));
      none_else = λ x h e. none_gained (member new x) (gained x) (sym (rw (lt-ltb x (places (said b)) h) at (joins x)) ∙ e);
    }
  where
    -- the round, by the job
    by_job : Passed b (layout b) v n new 0 (places (said b)) new plan new' plan'
    by_job = subst (λ (m : Layout). Passed b m v n new 0 (m.states * m.goals) new plan new' plan') t.is_layout p

    gained : ℕ → Bool
    gained x = some_below (said b).actions (looked v (said b) (member new) x)

    joins : (x : ℕ) → member new' x ≡ (ltb x (places (said b)) && (not (member new x) && gained x) || member new x)
    joins x = by_job.joins x ∙ rw (between_zero (places (said b)) x)

-- ---- after k layers

-- the places of the queue before `from` are taken and known, and those before `to` are all that have joined
pub record Paced (j : Job) (v : Phase) (new₀ plan₀ counters₀ : List ℕ) (k from to : ℕ) (known new plan counters queue : List ℕ) : Type 0 where
  pub many : k ≤ to
  pub before : from ≤ to
  pub as_many : length new ≡ length new₀
  pub as_long : length plan ≡ length plan₀
  pub queue_of : Queue (member new) queue to
  pub going : Going j v new₀ plan₀ k new plan
  pub between : Between j v (queued queue from) (member new)
  pub counted : Counted j (unsure v j (numbered j.goals (queued queue from))) counters₀ counters
  pub words : length known ≡ set_words
  pub known_is : (x : ℕ) → member known x ≡ queued queue from x

module _ {b : List ℕ} {l : Layout} {index : List ℕ} {v : Phase} {some : ℕ} {new₀ plan₀ counters₀ queue₀ : List ℕ}
    (p : LayersReady b l index v some new₀ plan₀ counters₀ queue₀) where
  pub paced_none : {known : List ℕ} → length known ≡ set_words → ((x : ℕ) → member known x ≡ false)
      → Paced (said b) v new₀ plan₀ counters₀ 0 0 some known new₀ plan₀ counters₀ queue₀
  paced_none w none =
      record {
        many = omega arith;
        before = omega arith;
        as_many = refl;
        as_long = refl;
        queue_of = p.ready.queue_of;
        going = going_none (said b) v new₀ plan₀;
        between = record {
          inside = p.inside;
          none_else = λ x h e. none_below (said b).actions (wanted v (arena (said b)) (λ t. false) (place_at (said b).goals x))
              (wanted_none v (arena (said b)) (place_at (said b).goals x));
        };
        counted = record { as_long = refl; counts = p.counted.counts; rest = λ y h. refl };
        words = w;
        known_is = none;
      }

  module _ {k from to : ℕ} {known new plan counters queue : List ℕ}
      (i : Paced (said b) v new₀ plan₀ counters₀ k from to known new plan counters queue) where
    -- what the next layer relies on, with the places before `to` known
    pub paced_ready : {known' : List ℕ} → ((x : ℕ) → member known' x ≡ queued queue to x)
        → LayerReady b l index v from to known' new plan counters queue
    paced_ready e =
        record {
          ready = record {
            fit = p.ready.fit;
            lists = p.ready.lists;
            counters_room = omega (arith, p.ready.counters_room, i.counted.as_long);
            plan_room = omega (arith, p.ready.plan_room, i.as_long);
            words = i.as_many ∙ p.ready.words;
            queue_of = i.queue_of;
          };
          before = i.before;
          known_is = e;
          between = i.between;
          counted = counts_of p.counted.long i.counted;
        }

    module _ {new' plan' counters' queue' : List ℕ} {tail : ℕ}
        (y : Layered b l v (k + 1) to new plan counters queue new' plan' counters' queue' tail) where
      -- the places before `to` are those that the layer began with
      taken_all : queued queue' to ≡ member new
      taken_all = fun_ext (λ x. joined_same y.joined to (omega arith) x ∙ sym (i.queue_of.members x))

      pub paced_more : {known' : List ℕ} → length known' ≡ set_words → ((x : ℕ) → member known' x ≡ queued queue to x)
          → (tail ≡ to → ⊥) → Paced (said b) v new₀ plan₀ counters₀ (k + 1) to tail known' new' plan' counters' queue'
      paced_more w e n =
          record {
            many = omega (arith, i.many, y.joined.grows);
            before = y.joined.grows;
            as_many = y.passed.as_many ∙ i.as_many;
            as_long = y.passed.as_long ∙ i.as_long;
            queue_of = y.joined.still;
            going = going_more p.ready.fit i.going y.passed;
            between = rw taken_all (between_next p.ready.fit i.between.inside y.passed);
            counted = counted_then i.counted y.counted;
            words = w;
            known_is = λ x. e x ∙ sym (joined_same y.joined to (omega arith) x);
          }

      -- a layer that adds nothing is the last
      pub paced_end : tail ≡ to → LayersDone b v new₀ plan₀ counters₀ new' plan' counters' queue' tail
      paced_end e =
          record {
            as_many = y.passed.as_many ∙ i.as_many;
            as_long = y.passed.as_long ∙ i.as_long;
            settles =
                going_stop p.ready.fit i.going y.passed set_room (omega (arith, few_places p.ready.fit))
                (sym y.joined.still.many ∙ e ∙ i.queue_of.many);
            queue_of = y.joined.still;
            counted = rw same at (counted_then i.counted y.counted);
          }
        where
          same : queued queue' to ≡ member new'
          same = fun_ext (λ x. sym (y.joined.still.members x ∙ rw e))
