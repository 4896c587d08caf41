-- `take_month` meets its contract: contents that do not fit are no bundle.
use mathlib.Core.Path.{sym, ◌∙◌}
use native.Mathlib.Omega.{arith}
use Rattle.totals.proofs.Bundles.{contents_iff}
use Rattle.report.proofs.Reading.{month_none}
use Rattle.report.proofs.take_month.Goals as goal

pub overflow_sub-contents : goal.overflow_sub-contents
overflow_sub-contents g c =
    let k = (contents_iff c.args.contents.now).0 (sym c.contents_fit.ensures ∙ c.if-contents_fit.true) in
    omega (arith, k.counted)

pub take_entries-requires : goal.take_entries-requires
take_entries-requires g c =
    let fit = sym c.contents_fit.ensures ∙ c.if-contents_fit.true in
    let k = (contents_iff c.args.contents.now).0 fit in
    record {
      entry_room_in_bounds = c.requires;
      contents_value = fit;
      n_value = omega (arith, k.whole);
    }

pub returns : goal.returns
returns g c =
    month_none (sym c.contents_fit.ensures ∙ c.if-contents_fit.false)
