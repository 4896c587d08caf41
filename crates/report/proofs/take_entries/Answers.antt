-- `take_entries` meets its contract: a turn takes one entry more.
use mathlib.Core.Path.{◌≡◌, refl, ◌∙◌}
use native.Mathlib.Omega.{arith}
use Rattle.totals.proofs.Bundles.{contents_iff}
use Rattle.report.proofs.Reading.{entries_none, entries_few, entries_more, cut_short, due_first, due_more, month_cut, month_ended}
use borrow.Author.Rules.{rules}
use Rattle.report.proofs.take_entries.Goals as goal

pub loop-i-init : goal.loop-i-init
loop-i-init g c =
    let h = c.args.contents.now in
    let k = (contents_iff h).0 c.requires.contents_value in
    (c.requires.entry_room_in_bounds, (refl, (rw c.none-t.ensures (entries_none h), (due_first h c.requires.contents_value, omega (arith, k.whole, k.few)))))

pub size_of-size-requires : goal.size_of-size-requires
size_of-size-requires g c =
    let k = (contents_iff c.args.contents.now).0 c.requires.contents_value in
    record {
      i_in_bounds = omega (arith, k.whole, c.requires.n_value);
      i_bound = omega (arith, k.few, c.requires.n_value);
    }

pub take_entry-requires : goal.take_entry-requires
take_entry-requires g c = c.loop-i.invariant.0

pub overflow_add-result : goal.overflow_add-result
overflow_add-result g c =
    let few = ((contents_iff c.args.contents.now).0 c.requires.contents_value).few in
    let l = cut_short c.take_entry.ensures c.in-Err.is in
    omega (arith, l, few, c.requires.n_value, c.size_of-size.ensures.upper_bound, c.loop-i.invariant.1.1.1.1)

pub returns-in-Err : goal.returns-in-Err
returns-in-Err g c =
    month_cut c.args.contents.now c.loop-i.i c.loop-i.at c.size_of-size.result c.requires.contents_value
    (omega (arith, c.requires.n_value)) c.loop-i.invariant.1.1.1.0 c.size_of-size.ensures.value c.in-Err.k
    (cut_short c.take_entry.ensures c.in-Err.is)

pub add-t-requires : goal.add-t-requires
add-t-requires g c =
    entries_few c.loop-i.invariant.1.1.0 (omega (arith, ((contents_iff c.args.contents.now).0 c.requires.contents_value).few, c.requires.n_value))

pub overflow_add-at : goal.overflow_add-at
overflow_add-at g c =
    let few = ((contents_iff c.args.contents.now).0 c.requires.contents_value).few in
    omega (arith, few, c.requires.n_value, c.size_of-size.ensures.upper_bound, c.loop-i.invariant.1.1.1.1)

pub loop-i-preserved : goal.loop-i-preserved
loop-i-preserved g c =
    let z = c.size_of-size.ensures in (
      search rules,
      (
        search rules,
        (
          entries_more c.loop-i.invariant.1.1.0 c.take_entry.ensures c.in-Ok.is z.value c.add-t.ensures (search rules),
          (
            due_more c.args.contents.now c.loop-i.i c.loop-i.at c.size_of-size.result c.requires.contents_value
                (omega (arith, c.requires.n_value)) c.loop-i.invariant.1.1.1.0 z.value,
            omega (arith, z.upper_bound, c.loop-i.invariant.1.1.1.1),
          ),
        ),
      ),
    )

pub overflow_add-result-2 : goal.overflow_add-result-2
overflow_add-result-2 g c =
    let few = ((contents_iff c.args.contents.now).0 c.requires.contents_value).few in
    omega (arith, few, c.requires.n_value, c.read_more-more.ensures, c.loop-i.invariant.1.1.1.1)

pub returns : goal.returns
returns g c =
    let e : c.loop-i.i ≡ c.args.n = omega arith in
    month_ended c.args.contents.now c.loop-i.i c.loop-i.at c.read_more-more.result c.requires.contents_value (e ∙ c.requires.n_value)
    c.loop-i.invariant.1.1.1.0 c.loop-i.invariant.1.1.0 c.then_some.ensures
