-- `walk_from` meets its contract: going along the index, the counter of each record falls, and where it is then 0 its action is found.
use Prim.Native.Nat.{◌+◌, ◌*◌, ◌<◌}
use mathlib.Core.Path.{◌≡◌, ◌∙◌}
use native.Mathlib.Omega.{arith}
use lib.Arith.{digits_lt}
use lib.ListN.{length, get_or}
use Rattle.rules.specs.Bytes.{said}
use Rattle.rules.specs.Job.{places}
use Rattle.job.proofs.Asking.{records_said, states_said, goals_said, actions_said, places_said}
use Rattle.job.proofs.Asking.{few_places, few_records, few_states, state_below, action_below}
use Rattle.backward.proofs.Spots.{spot_below}
use Rattle.backward.proofs.Listing.{Skips}
use Rattle.backward.proofs.Walking.{first_skips, after_skips}
use Rattle.backward.proofs.Lowering.{spot}
use Rattle.backward.proofs.Stepping.{walked_none, walked_found, walked_passed}
use Rattle.backward.proofs.step.walk_from.Goals as goal

pub offset_bounds-index-t : goal.offset_bounds-index-t
offset_bounds-index-t c =
    omega (arith, few_states c.requires.walk_ready.fit, c.requires.t_lt_states)

pub bounds-index-t : goal.bounds-index-t
bounds-index-t c =
    omega (arith, c.requires.walk_ready.lists.long, states_said c.requires.walk_ready.fit, c.requires.t_lt_states)

pub loop-k-init : goal.loop-k-init
loop-k-init c =
    let s = first_skips c.requires.walk_ready.lists c.args.t (rw (states_said c.requires.walk_ready.fit) at c.requires.t_lt_states) in
    (s.few, s.leads, walked_none s c.requires.walk_ready.queue_of)

pub overflow_add-k : goal.overflow_add-k
overflow_add-k c =
    omega (arith, few_records c.requires.walk_ready.fit, few_states c.requires.walk_ready.fit, c.loop-k-test.true)

pub offset_bounds-index-states : goal.offset_bounds-index-states
offset_bounds-index-states c =
    omega (arith, few_records c.requires.walk_ready.fit, few_states c.requires.walk_ready.fit, c.loop-k-test.true)

pub bounds-index-states : goal.bounds-index-states
bounds-index-states c =
    let f = c.requires.walk_ready.fit in
    omega (arith, c.requires.walk_ready.lists.long, states_said f, records_said f, c.loop-k-test.true)

pub word_of-i-requires : goal.word_of-i-requires
word_of-i-requires c =
    let f = c.requires.walk_ready.fit in
    let m = c.move_at-m.ensures in
    record {
      goals_bound = omega (arith, few_places f);
      s_lt_states = rw m (state_below f c.loop-k.k c.loop-k-test.true);
      q_lt_goals = c.requires.q_lt_goals;
      a_lt_actions = rw m (action_below f c.loop-k.k c.loop-k-test.true);
    }

pub lower-requires : goal.lower-requires
lower-requires c =
    let act : c.move_at-m.result.action < c.args.l.actions =
    rw c.move_at-m.ensures (action_below c.requires.walk_ready.fit c.loop-k.k c.loop-k-test.true) in
    let state : c.move_at-m.result.state < c.args.l.states =
    rw c.move_at-m.ensures (state_below c.requires.walk_ready.fit c.loop-k.k c.loop-k-test.true) in
    let inside : c.word_of-i.result < length c.loop-k.counters =
    omega (
      arith,
      spot_below c.args.l.goals c.args.l.actions (state) c.requires.q_lt_goals (act),
      c.word_of-i.ensures,
      c.requires.walk_ready.counters_room,
      c.loop-k.invariant.2.lowered.as_long,
    ) in
    inside

pub overflow_mul-m : goal.overflow_mul-m
overflow_mul-m c =
    let state : c.move_at-m.result.state < c.args.l.states =
    rw c.move_at-m.ensures (state_below c.requires.walk_ready.fit c.loop-k.k c.loop-k-test.true) in
    let here : c.move_at-m.result.state * c.args.l.goals + c.args.q < c.args.l.states * c.args.l.goals =
    digits_lt (state) c.requires.q_lt_goals in
    omega (arith, here, few_places c.requires.walk_ready.fit)

pub overflow_add-m : goal.overflow_add-m
overflow_add-m c =
    let state : c.move_at-m.result.state < c.args.l.states =
    rw c.move_at-m.ensures (state_below c.requires.walk_ready.fit c.loop-k.k c.loop-k-test.true) in
    let here : c.move_at-m.result.state * c.args.l.goals + c.args.q < c.args.l.states * c.args.l.goals =
    digits_lt (state) c.requires.q_lt_goals in
    omega (arith, here, few_places c.requires.walk_ready.fit)

pub propose-end-requires : goal.propose-end-requires
propose-end-requires c =
    let state : c.move_at-m.result.state < c.args.l.states =
    rw c.move_at-m.ensures (state_below c.requires.walk_ready.fit c.loop-k.k c.loop-k-test.true) in
    let here : c.move_at-m.result.state * c.args.l.goals + c.args.q < c.args.l.states * c.args.l.goals =
    digits_lt (state) c.requires.q_lt_goals in
    let r = c.loop-k.invariant.2 in
    record {
      len = r.noted.as_many ∙ c.requires.walk_ready.words;
      x_lt_set_room = omega (arith, here, few_places c.requires.walk_ready.fit);
      x_in_bounds = omega (arith, here, r.noted.as_long, c.requires.walk_ready.plan_room);
      queue = r.joined.still;
    }

pub loop-k-smaller-then-lower : goal.loop-k-smaller-then-lower
loop-k-smaller-then-lower c =
    let there : c.loop-k.k < (said c.args.job.now).records =
    rw (records_said c.requires.walk_ready.fit) at c.loop-k-test.true in
    let next : Skips (said c.args.job.now) c.args.t (c.loop-k.k + 1) (get_or c.args.index.now (c.args.l.states + c.loop-k.k) 0) =
    rw (states_said c.requires.walk_ready.fit)
    (after_skips c.requires.walk_ready.lists c.args.t c.loop-k.k (there) (c.loop-k.invariant.1 (there))) in
    omega (arith, (next).past)

pub loop-k-preserved-then-lower : goal.loop-k-preserved-then-lower
loop-k-preserved-then-lower c =
    let there : c.loop-k.k < (said c.args.job.now).records =
    rw (records_said c.requires.walk_ready.fit) at c.loop-k-test.true in
    let goal : c.args.q < (said c.args.job.now).goals =
    rw (goals_said c.requires.walk_ready.fit) at c.requires.q_lt_goals in
    let act : c.move_at-m.result.action < c.args.l.actions =
    rw c.move_at-m.ensures (action_below c.requires.walk_ready.fit c.loop-k.k c.loop-k-test.true) in
    let action : ((said c.args.job.now).move c.loop-k.k).action < (said c.args.job.now).actions =
    rw (c.move_at-m.ensures, actions_said c.requires.walk_ready.fit) at (act) in
    let state : c.move_at-m.result.state < c.args.l.states =
    rw c.move_at-m.ensures (state_below c.requires.walk_ready.fit c.loop-k.k c.loop-k-test.true) in
    let here : c.move_at-m.result.state * c.args.l.goals + c.args.q < c.args.l.states * c.args.l.goals =
    digits_lt (state) c.requires.q_lt_goals in
    let spot_is : c.word_of-i.result ≡ spot (said c.args.job.now) c.args.t c.args.q c.loop-k.k =
    rw (c.move_at-m.ensures, goals_said c.requires.walk_ready.fit, actions_said c.requires.walk_ready.fit) at c.word_of-i.ensures in
    let next : Skips (said c.args.job.now) c.args.t (c.loop-k.k + 1) (get_or c.args.index.now (c.args.l.states + c.loop-k.k) 0) =
    rw (states_said c.requires.walk_ready.fit)
    (after_skips c.requires.walk_ready.lists c.args.t c.loop-k.k (there) (c.loop-k.invariant.1 (there))) in
    let f = c.requires.walk_ready.fit in
    let j = said c.args.job.now in
    let i = c.loop-k.invariant in
    let s = next in
    let p = c.propose-end.ensures in
    let o = p.0 (places j) j.actions (rw (places_said f) at (here)) (rw (actions_said f) at (act)) in (
      s.few,
      s.leads,
      walked_found i.2 (goal) (action) (i.1 (there)) (rw (spot_is) at c.lower.ensures) s c.if-lower.true
          (rw (c.move_at-m.ensures, goals_said f) at o) p.1,
    )

pub loop-k-smaller : goal.loop-k-smaller
loop-k-smaller c =
    let there : c.loop-k.k < (said c.args.job.now).records =
    rw (records_said c.requires.walk_ready.fit) at c.loop-k-test.true in
    let next : Skips (said c.args.job.now) c.args.t (c.loop-k.k + 1) (get_or c.args.index.now (c.args.l.states + c.loop-k.k) 0) =
    rw (states_said c.requires.walk_ready.fit)
    (after_skips c.requires.walk_ready.lists c.args.t c.loop-k.k (there) (c.loop-k.invariant.1 (there))) in
    omega (arith, (next).past)

pub loop-k-preserved : goal.loop-k-preserved
loop-k-preserved c =
    let there : c.loop-k.k < (said c.args.job.now).records =
    rw (records_said c.requires.walk_ready.fit) at c.loop-k-test.true in
    let goal : c.args.q < (said c.args.job.now).goals =
    rw (goals_said c.requires.walk_ready.fit) at c.requires.q_lt_goals in
    let act : c.move_at-m.result.action < c.args.l.actions =
    rw c.move_at-m.ensures (action_below c.requires.walk_ready.fit c.loop-k.k c.loop-k-test.true) in
    let action : ((said c.args.job.now).move c.loop-k.k).action < (said c.args.job.now).actions =
    rw (c.move_at-m.ensures, actions_said c.requires.walk_ready.fit) at (act) in
    let spot_is : c.word_of-i.result ≡ spot (said c.args.job.now) c.args.t c.args.q c.loop-k.k =
    rw (c.move_at-m.ensures, goals_said c.requires.walk_ready.fit, actions_said c.requires.walk_ready.fit) at c.word_of-i.ensures in
    let next : Skips (said c.args.job.now) c.args.t (c.loop-k.k + 1) (get_or c.args.index.now (c.args.l.states + c.loop-k.k) 0) =
    rw (states_said c.requires.walk_ready.fit)
    (after_skips c.requires.walk_ready.lists c.args.t c.loop-k.k (there) (c.loop-k.invariant.1 (there))) in
    let i = c.loop-k.invariant in
    let s = next in (
      s.few,
      s.leads,
      walked_passed i.2 (goal) (action) (i.1 (there)) (rw (spot_is) at c.lower.ensures) s c.if-lower.false,
    )

pub returns : goal.returns
returns c =
    let e : c.loop-k.k ≡ (said c.args.job.now).records = omega (arith, c.loop-k.invariant.0, records_said c.requires.walk_ready.fit) in
    rw e at c.loop-k.invariant.2
