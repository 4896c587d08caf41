-- `label_all` meets its contract: the index, the counters, the queue, and both phases.
use mathlib.Core.Path.{◌∙◌, sym}
use native.Mathlib.Nat.{mul-le-mul}
use native.Mathlib.Omega.{arith}
use borrow.Author.Rules.{rules}
use Rattle.job.proofs.Asking.{few_places, few_actions, places_said, states_said, records_said}
use Rattle.phases.proofs.Holding.{holds_begin, holds_none_past}
use Rattle.backward.proofs.Counting.{counters_said, counts_of}
use Rattle.backward.proofs.Ending.{lists_of, first_inside, won_of, won_inside, labelled_all, cleared_all, counts_zero}
use Rattle.backward.proofs.layers.label_all.Goals as goal

pub overflow_mul-l : goal.overflow_mul-l
overflow_mul-l c =
    omega (arith, few_places c.requires.fit)

pub gather-some-requires : goal.gather-some-requires
gather-some-requires c =
    let f = c.requires.fit in
    record {
      queue_len = search rules;
      n_le_set_room = few_places f;
      by_index = rw (sym (places_said f)) at (holds_none_past (holds_begin f c.begin-set.ensures));
    }

pub all_layers-won-requires : goal.all_layers-won-requires
all_layers-won-requires c =
    let f = c.requires.fit in
    let b = c.begin-set.ensures in
    record {
      ready = record {
        fit = f;
        lists = lists_of (omega (arith, c.requires.index_room, states_said f, records_said f)) c.build.ensures;
        counters_room = omega (arith, c.requires.counters_room, c.count_all.ensures.as_long);
        plan_room = rw b.3.as_long c.requires.plan_room;
        words = (holds_begin f b).words;
        queue_of = c.gather-some.ensures;
      };
      inside = first_inside f b;
      counted = counts_of (omega (arith, counters_said f, c.requires.counters_room)) c.count_all.ensures;
    }

pub overflow_mul-l-2 : goal.overflow_mul-l-2
overflow_mul-l-2 c =
    omega (arith, few_places c.requires.fit)

pub overflow_mul-l-3 : goal.overflow_mul-l-3
overflow_mul-l-3 c =
    let f = c.requires.fit in omega (arith, mul-le-mul (few_places f) (few_actions f))

pub fill-requires : goal.fill-requires
fill-requires c =
    omega (arith, c.requires.counters_room, c.count_all.ensures.as_long, c.all_layers-won.ensures.counted.as_long)

pub all_layers-requires : goal.all_layers-requires
all_layers-requires c =
    let f = c.requires.fit in
    let b = c.begin-set.ensures in
    let d = c.all_layers-won.ensures in
    let a = c.count_all.ensures in
    record {
      ready = record {
        fit = f;
        lists = lists_of (omega (arith, c.requires.index_room, states_said f, records_said f)) c.build.ensures;
        counters_room =
            omega (arith, c.requires.counters_room, a.as_long, d.counted.as_long, c.fill.ensures.as_long);
        plan_room = rw (d.as_long ∙ b.3.as_long) c.requires.plan_room;
        words = (won_of f b d).holds.words;
        queue_of = d.queue_of;
      };
      inside = won_inside f b d;
      counted =
          counts_zero (omega (arith, counters_said f, c.requires.counters_room, a.as_long, d.counted.as_long))
          (rw (counters_said f) at c.fill.ensures);
    }

pub returns : goal.returns
returns c =
    let f = c.requires.fit in
    let b = c.begin-set.ensures in
    let d = c.all_layers-won.ensures in
    let e = c.all_layers.ensures in
    record {
      labelled = labelled_all f b d e;
      indexed = c.build.ensures;
      cleared =
          cleared_all c.count_all.ensures d.counted (rw (counters_said f) at c.fill.ensures) e.counted;
    }
