-- `add_record` meets its contract: the goal states passed have the record counted.
use Prim.Native.Nat.{◌≤◌, ◌<◌}
use mathlib.Core.Path.{◌≡◌}
use native.Mathlib.Omega.{arith}
use lib.ListN.{length, get_or}
use Rattle.rules.specs.Bytes.{said}
use Rattle.sets.proofs.Sizes.{count_le}
use Rattle.job.proofs.Asking.{records_said, states_said, goals_said, actions_said, few_places}
use Rattle.job.proofs.Asking.{few_records, state_below, action_below}
use Rattle.backward.specs.Counts.{from_at, counters_size}
use Rattle.backward.proofs.Counting.{added_none, added_more, added_all, added_few}
use Rattle.backward.proofs.Spots.{spot_below}
use Rattle.backward.proofs.counts.add_record.Goals as goal

pub loop-q-init : goal.loop-q-init
loop-q-init c = added_none

pub word_of-i-requires : goal.word_of-i-requires
word_of-i-requires c =
    let m = c.move_at-m.ensures in
    let k = c.args.k in
    record {
      goals_bound = omega (arith, few_places c.requires.fit);
      s_lt_states = rw m (state_below c.requires.fit k c.requires.k_lt_records);
      q_lt_goals = c.loop-q-test.true;
      a_lt_actions = rw m (action_below c.requires.fit k c.requires.k_lt_records);
    }

pub bounds-counters-i : goal.bounds-counters-i
bounds-counters-i c =
    let act : c.move_at-m.result.action < c.args.l.actions =
    rw
    c.move_at-m.ensures (action_below c.requires.fit c.args.k c.requires.k_lt_records) in
    let inside : c.word_of-i.result < counters_size (said c.args.job.now) =
    let f = c.requires.fit in
    let s : c.move_at-m.result.state < c.args.l.states = rw
    c.move_at-m.ensures (state_below f c.args.k c.requires.k_lt_records) in
    rw (c.word_of-i.ensures, ← states_said f, ← goals_said f, ← actions_said f)
    (spot_below c.args.l.goals c.args.l.actions s c.loop-q-test.true (act)) in
    let there : c.word_of-i.result < length c.loop-q.counters =
    omega (
      arith,
      inside,
      c.requires.counts.long,
      c.loop-q.invariant.as_long,
    ) in
    there

pub overflow_add-counters : goal.overflow_add-counters
overflow_add-counters c =
    let act : c.move_at-m.result.action < c.args.l.actions =
    rw
    c.move_at-m.ensures (action_below c.requires.fit c.args.k c.requires.k_lt_records) in
    let inside : c.word_of-i.result < counters_size (said c.args.job.now) =
    let f = c.requires.fit in
    let s : c.move_at-m.result.state < c.args.l.states = rw
    c.move_at-m.ensures (state_below f c.args.k c.requires.k_lt_records) in
    rw (c.word_of-i.ensures, ← states_said f, ← goals_said f, ← actions_said f)
    (spot_below c.args.l.goals c.args.l.actions s c.loop-q-test.true (act)) in
    let f = c.requires.fit in
    let k = c.args.k in
    let i = c.word_of-i.result in
    let low : get_or c.args.counters.now i 0 ≤ k = omega (
      arith,
      c.requires.counts.counts i (inside),
      count_le
          (from_at (said c.args.job.now) i) k,
    ) in
    omega (
      arith,
      few_records f,
      added_few c.loop-q.invariant (act)
          c.loop-q-test.true i c.word_of-i.ensures low,
    )

pub bounds-counters-i-in-loop-q : goal.bounds-counters-i-in-loop-q
bounds-counters-i-in-loop-q c =
    let act : c.move_at-m.result.action < c.args.l.actions =
    rw
    c.move_at-m.ensures (action_below c.requires.fit c.args.k c.requires.k_lt_records) in
    let inside : c.word_of-i.result < counters_size (said c.args.job.now) =
    let f = c.requires.fit in
    let s : c.move_at-m.result.state < c.args.l.states = rw
    c.move_at-m.ensures (state_below f c.args.k c.requires.k_lt_records) in
    rw (c.word_of-i.ensures, ← states_said f, ← goals_said f, ← actions_said f)
    (spot_below c.args.l.goals c.args.l.actions s c.loop-q-test.true (act)) in
    let there : c.word_of-i.result < length c.loop-q.counters =
    omega (
      arith,
      inside,
      c.requires.counts.long,
      c.loop-q.invariant.as_long,
    ) in
    there

pub loop-q-preserved : goal.loop-q-preserved
loop-q-preserved c =
    let act : c.move_at-m.result.action < c.args.l.actions =
    rw
    c.move_at-m.ensures (action_below c.requires.fit c.args.k c.requires.k_lt_records) in
    let inside : c.word_of-i.result < counters_size (said c.args.job.now) =
    let f = c.requires.fit in
    let s : c.move_at-m.result.state < c.args.l.states = rw
    c.move_at-m.ensures (state_below f c.args.k c.requires.k_lt_records) in
    rw (c.word_of-i.ensures, ← states_said f, ← goals_said f, ← actions_said f)
    (spot_below c.args.l.goals c.args.l.actions s c.loop-q-test.true (act)) in
    let there : c.word_of-i.result < length c.loop-q.counters =
    omega (
      arith,
      inside,
      c.requires.counts.long,
      c.loop-q.invariant.as_long,
    ) in
    rw c.word_of-i.ensures (added_more c.loop-q.invariant (act) c.loop-q-test.true (rw c.word_of-i.ensures at (there)))

pub returns : goal.returns
returns c = let f = c.requires.fit in
    let k = c.args.k in
    let e : c.loop-q.q ≡ c.args.l.goals = omega arith in
    let m = c.move_at-m.ensures in
    added_all f.keeps.some_goals f.keeps.some_actions (f.keeps.state_below k
    (rw (records_said f) at c.requires.k_lt_records)) c.requires.counts
    (rw (e, m, goals_said f, actions_said f) at c.loop-q.invariant)
