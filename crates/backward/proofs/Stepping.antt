-- The laws of the step: the records that lead to a state, at one goal state, and then all goal states.
use Prim.Native.Nat.{ℕ, ◌+◌, ◌*◌, ◌/◌, ◌%◌, ◌<◌}
use mathlib.Core.Bool.{Bool, true, false}
use mathlib.Core.List.{List}
use mathlib.Core.Path.{◌≡◌, ◌∙◌}
use native.Mathlib.Nat.{div-add-mod', mod-lt}
use lib.ListN.{get_or}
use Rattle.rules.specs.Bytes.{said}
use Rattle.sets.specs.Sets.{member}
use Rattle.rules.specs.Job.{Job, places}
use Rattle.rules.proofs.Rows.{row_of}
use Rattle.job.specs.declared.layout.Layout.{Layout}
use Rattle.phases.specs.declared.phase.Phase.{Phase}
use Rattle.phases.specs.Wanted.{phase_value}
use Rattle.backward.specs.Queue.{queued, Queue, Joined}
use Rattle.backward.specs.Notes.{Noted, only, from_all}
use Rattle.backward.specs.Step.{Fell, Walked, Taking, Taken}
use Rattle.backward.proofs.Finding.{goal_none, goal_skip, goal_more, goal_same, all_none, all_skip, all_more}
use Rattle.backward.proofs.Listing.{Skips}
use Rattle.backward.proofs.Lowering.{spot, lowered_none, lowered_skip, lowered_more}
use Rattle.backward.proofs.Noting.{noted_none, noted_ext, noted_then}
use Rattle.backward.proofs.Queuing.{joined_none, joined_then, joined_place}
use Rattle.backward.proofs.Taking.{into, Falling, falling_none, falling_skip, falling_more, taken_all}

-- ---- one goal state

module _ {j : Job} {t q v n : ℕ} {known : ℕ → Bool} {new plan counters queue : List ℕ} {tail : ℕ} where
  -- no record yet
  pub walked_none : {h : ℕ} → Skips j t 0 h → Queue (member new) queue tail
      → Walked j t q h v n known new plan counters queue tail new plan counters queue tail
  walked_none s r =
      record {
        lowered = lowered_skip s lowered_none;
        noted = noted_ext (λ y a l g. goal_none j t q counters y a ∙ goal_skip j t q s counters y a) noted_none;
        joined = joined_none r;
      }

  module _ {k h : ℕ} {new1 plan1 counters1 queue1 counters2 : List ℕ} {tail1 : ℕ} {spent : Bool}
      (r : Walked j t q k v n known new plan counters queue tail new1 plan1 counters1 queue1 tail1) (hq : q < j.goals)
      (ha : (j.move k).action < j.actions) (e : (j.move k).outcome ≡ t) (f : Fell (spot j t q k) counters1 spent counters2)
      (s : Skips j t (k + 1) h) where
    -- record k finds its action
    pub walked_found : {new2 plan2 queue2 : List ℕ} {tail2 : ℕ} → spent ≡ true
        → Noted (places j) j.actions v n known (only ((j.move k).state * j.goals + q) (j.move k).action) new1 plan1 new2 plan2
        → Joined queue1 tail1 new2 queue2 tail2
        → Walked j t q h v n known new plan counters queue tail new2 plan2 counters2 queue2 tail2
    walked_found z p o =
        record {
          lowered = lowered_skip s (lowered_more r.lowered ha hq e f);
          noted = noted_ext (λ y a l g. goal_more j t q k hq ha e f z y a g ∙ goal_skip j t q s counters2 y a) (noted_then r.noted p);
          joined = joined_then r.joined o;
        }

    -- record k finds nothing
    pub walked_passed : spent ≡ false → Walked j t q h v n known new plan counters queue tail new1 plan1 counters2 queue1 tail1
    walked_passed z =
        record {
          lowered = lowered_skip s (lowered_more r.lowered ha hq e f);
          noted = noted_ext (λ y a l g. goal_same j t q k hq ha e f z y a g ∙ goal_skip j t q s counters2 y a) r.noted;
          joined = r.joined;
        }

-- ---- the goal states below q

pub record Stepping (j : Job) (t g q v n : ℕ) (known : ℕ → Bool) (new plan counters queue : List ℕ) (tail : ℕ)
    (new' plan' counters' queue' : List ℕ) (tail' : ℕ) : Type 0 where
  pub falls : Falling j t g q counters counters'
  pub noted : Noted (places j) j.actions v n known (from_all j counters' t g q) new plan new' plan'
  pub joined : Joined queue tail new' queue' tail'

module _ {j : Job} {t g v n : ℕ} {known : ℕ → Bool} {new plan counters queue : List ℕ} {tail : ℕ} where
  pub stepping_none : Queue (member new) queue tail → Stepping j t g 0 v n known new plan counters queue tail new plan counters queue tail
  stepping_none r =
      record {
        falls = falling_none j t g;
        noted = noted_ext (λ y a l h. all_none j counters t g y a) noted_none;
        joined = joined_none r;
      }

  module _ {q : ℕ} {new1 plan1 counters1 queue1 : List ℕ} {tail1 : ℕ}
      (r : Stepping j t g q v n known new plan counters queue tail new1 plan1 counters1 queue1 tail1) where
    -- the place is not entered from goal state q
    pub stepping_skip : into j t g q ≡ false → Stepping j t g (q + 1) v n known new plan counters queue tail new1 plan1 counters1 queue1 tail1
    stepping_skip z =
        record {
          falls = falling_skip j t g r.falls z;
          noted = noted_ext (λ y a l h. all_skip j counters1 t g q z y a) r.noted;
          joined = r.joined;
        }

    -- it is: the records that lead to its state are walked
    pub stepping_more : {new2 plan2 counters2 queue2 : List ℕ} {tail2 : ℕ} → into j t g q ≡ true
        → Walked j t q j.records v n known new1 plan1 counters1 queue1 tail1 new2 plan2 counters2 queue2 tail2
        → Stepping j t g (q + 1) v n known new plan counters queue tail new2 plan2 counters2 queue2 tail2
    stepping_more z w =
        record {
          falls = falling_more j t g r.falls z w.lowered;
          noted = noted_ext (λ y a l h. all_more j counters1 t g q z w.lowered y a h) (noted_then r.noted w.noted);
          joined = joined_then r.joined w.joined;
        }

-- ---- all of them: the place is taken

pub stepping_end : {b : List ℕ} {l : Layout} {index : List ℕ} {v : Phase} {n head tail : ℕ} {known : ℕ → Bool}
    {new plan counters queue new' plan' counters' queue' : List ℕ} {tail' : ℕ}
    → Taking b l index v head tail new plan counters queue
    → Stepping (said b) (get_or queue head 0 / (said b).goals) (get_or queue head 0 % (said b).goals) (said b).goals (phase_value v) n known
    new plan counters queue tail new' plan' counters' queue' tail'
    → Taken (said b) v n head known new plan counters queue tail new' plan' counters' queue' tail'
stepping_end {b} {v = v} {head = head} {queue = queue} {queue' = queue'} x r =
    let k = x.ready.fit.keeps in
    let at = get_or queue head 0 in
    record {
      counted =
          taken_all k (queued queue head) (queued queue' (head + 1)) (row_of k.some_goals at x.a_place) (mod-lt at k.some_goals)
          (rw (div-add-mod' at (said b).goals) (x.ready.queue_of.once head x.due))
          (joined_place r.joined head x.due (said b).goals) v x.counted r.falls;
      noted = r.noted;
      joined = r.joined;
    }
