-- `take` meets its contract: each goal state from which the place is entered is passed.
use Prim.Native.Nat.{◌*◌, ◌/◌, ◌≤◌, ◌<◌}
use mathlib.Core.Path.{◌≡◌, ◌∙◌, sym}
use native.Mathlib.Omega.{arith}
use borrow.Author.Tests.{eq-eqb, ne_eqb}
use lib.ListN.{get_or}
use Rattle.rules.specs.Bytes.{said}
use Rattle.sets.specs.Sets.{set_room}
use Rattle.rules.proofs.Rows.{row_of}
use Rattle.job.proofs.Asking.{few_places, places_said, goals_said, some_goals}
use Rattle.backward.proofs.Queuing.{queue_few}
use Rattle.backward.proofs.Stepping.{stepping_none, stepping_skip, stepping_more, stepping_end}
use Rattle.backward.proofs.step.take.Goals as goal
use Rattle.backward.proofs.step.take.Goals.{then-next_goal-g, else-next_goal-g}

pub offset_bounds-queue-head : goal.offset_bounds-queue-head
offset_bounds-queue-head c =
    omega (arith, c.requires.due, queue_few c.requires.ready.queue_of)

pub bounds-queue-head : goal.bounds-queue-head
bounds-queue-head c =
    omega (arith, c.requires.due, queue_few c.requires.ready.queue_of)

pub nonzero_div-t : goal.nonzero_div-t
nonzero_div-t c =
    some_goals c.requires.ready.fit

pub loop-q-init : goal.loop-q-init
loop-q-init c =
    stepping_none c.requires.ready.queue_of

pub next_goal-requires : goal.next_goal-requires
next_goal-requires c =
    let few : get_or c.args.queue.now c.args.head 0 < c.args.l.states * c.args.l.goals × c.args.l.states * c.args.l.goals ≤ set_room =
    let f = c.requires.ready.fit in (rw (sym (places_said f)) at c.requires.a_place, omega (arith, few_places f)) in
    let row : get_or c.args.queue.now c.args.head 0 / c.args.l.goals < c.args.l.states =
    row_of (some_goals c.requires.ready.fit) (get_or c.args.queue.now c.args.head 0) (few).0 in
    record {
      fit = c.requires.ready.fit;
      q_lt_goals = c.loop-q-test.true;
      t_lt_states = row;
    }

pub walk_from-end-requires : goal.walk_from-end-requires
walk_from-end-requires c =
    let few : get_or c.args.queue.now c.args.head 0 < c.args.l.states * c.args.l.goals × c.args.l.states * c.args.l.goals ≤ set_room =
    let f = c.requires.ready.fit in (rw (sym (places_said f)) at c.requires.a_place, omega (arith, few_places f)) in
    let row : get_or c.args.queue.now c.args.head 0 / c.args.l.goals < c.args.l.states =
    row_of (some_goals c.requires.ready.fit) (get_or c.args.queue.now c.args.head 0) (few).0 in
    let x = c.requires.ready in
    let r = c.loop-q.invariant in
    record {
      walk_ready = record {
        fit = x.fit;
        lists = x.lists;
        counters_room = omega (arith, x.counters_room, r.falls.as_long);
        plan_room = omega (arith, x.plan_room, r.noted.as_long);
        words = r.noted.as_many ∙ x.words;
        queue_of = r.joined.still;
      };
      t_lt_states = row;
      q_lt_goals = c.loop-q-test.true;
    }

pub returns : goal.returns
returns c =
    let f = c.requires.ready.fit in
    let e : c.loop-q.q ≡ (said c.args.job.now).goals = omega (arith, goals_said f) in
    stepping_end c.requires (rw (e, goals_said f, c.from-value.ensures) at c.loop-q.invariant)

pub loop-q-preserved : goal.loop-q-preserved
loop-q-preserved c =
    elim c.if-next_goal-g.branch [
      | then-next_goal-g w ↦
          let z = eq-eqb _ _ (sym c.next_goal.ensures ∙ w.if-next_goal-g.true) in
          rw (w.new-is, w.plan-is, w.counters-is, w.queue-is, w.end-is)
          (stepping_more c.loop-q.invariant z w.walk_from-end.ensures)
      | else-next_goal-g w ↦
          let z = ne_eqb _ _ (λ e. w.if-next_goal-g.false (c.next_goal.ensures ∙ e)) in
          rw (w.new-is, w.plan-is, w.counters-is, w.queue-is, w.end-is) (stepping_skip c.loop-q.invariant z)
    ]
