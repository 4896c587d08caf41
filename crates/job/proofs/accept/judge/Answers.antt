-- `accept::judge` meets its contract: each number where its own test refuses and those before it let through.
use mathlib.Core.Bool.{true}
use mathlib.Core.Logic.{◌≢◌}
use mathlib.Core.Path.{◌≡◌, sym, ap, ◌∙◌}
use native.Mathlib.Omega.{arith}
use Rattle.std.proofs.lemmas.Result.{err_from_is_err_and}
use Rattle.rules.specs.Fault.{Fault, only}
use Rattle.rules.specs.Bytes.{said, contents, counts, labels, whole, records_fault}
use Rattle.rules.specs.Answers.{refusal_fault}
use Rattle.rules.proofs.Faults.{records_good_iff}
use Rattle.rules.proofs.Figures.{refusal_some}
use Rattle.rules.proofs.Numbers.{RecordsGood, numbers, refusal_0, records_said}
use Rattle.job.specs.Layout.{Laid, in_ranges}
use Rattle.job.specs.declared.layout.Layout.{Layout}
use Rattle.job.proofs.Laying.{counts_said}
use Rattle.job.proofs.Readings.{refuses, refuses_plainly, accepts}
use Rattle.job.proofs.accept.judge.Goals as goal

pub returns-then-job-lt16 : goal.returns-then-job-lt16
returns-then-job-lt16 c =
    let a = c.args in
    sym (refuses_plainly a.forgive a.job.now 0 (omega arith) ((numbers a.forgive a.job.now).is_1.1 c.if-job-lt16.true))

pub returns-then-not-contents_fit : goal.returns-then-not-contents_fit
returns-then-not-contents_fit c =
    let a = c.args in
    sym (refuses_plainly a.forgive a.job.now 1 (omega arith) ((numbers a.forgive a.job.now).is_2.1 (
      c.if-job-lt16.false,
      sym c.contents_fit.ensures ∙ c.if-not-contents_fit.true,
    )))

pub layout_of-l-requires : goal.layout_of-l-requires
layout_of-l-requires c =
    let ordered : contents c.args.job.now ≡ true =
    sym c.contents_fit.ensures ∙ c.if-not-contents_fit.false in
    record {
      in_bounds = c.if-job-lt16.false;
      job_value = ordered;
    }

pub returns-then-not-counts_fit : goal.returns-then-not-counts_fit
returns-then-not-counts_fit c =
    let ordered : contents c.args.job.now ≡ true =
    sym c.contents_fit.ensures ∙ c.if-not-contents_fit.false in
    let laid : Laid c.args.job.now c.layout_of-l.result =
    record { long = c.if-job-lt16.false; in_order = ordered; is_layout = c.layout_of-l.ensures } in
    let b = c.args.job.now in
    let h = laid in
    let fails = sym (counts_said b) ∙ (rw h.is_layout at (sym c.counts_fit.ensures ∙ c.if-not-counts_fit.true)) in
    sym (refuses_plainly c.args.forgive b 2 (omega arith) ((numbers c.args.forgive b).is_3.1 (h.long, (h.in_order, fails))))

pub labels_fit-requires : goal.labels_fit-requires
labels_fit-requires c =
    let ordered : contents c.args.job.now ≡ true =
    sym c.contents_fit.ensures ∙ c.if-not-contents_fit.false in
    let laid : Laid c.args.job.now c.layout_of-l.result =
    record { long = c.if-job-lt16.false; in_order = ordered; is_layout = c.layout_of-l.ensures } in
    laid

pub returns-then-not-labels_fit : goal.returns-then-not-labels_fit
returns-then-not-labels_fit c =
    let ordered : contents c.args.job.now ≡ true =
    sym c.contents_fit.ensures ∙ c.if-not-contents_fit.false in
    let laid : Laid c.args.job.now c.layout_of-l.result =
    record { long = c.if-job-lt16.false; in_order = ordered; is_layout = c.layout_of-l.ensures } in
    let ranged : in_ranges c.layout_of-l.result ≡ true =
    sym c.counts_fit.ensures ∙ c.if-not-counts_fit.false in
    let counted : counts c.args.job.now ≡ true =
    sym (counts_said c.args.job.now) ∙ (rw c.layout_of-l.ensures at (ranged)) in
    let b = c.args.job.now in
    let h = laid in
    sym (refuses_plainly c.args.forgive b 3 (omega arith) ((numbers c.args.forgive b).is_4.1 (
      h.long,
      (h.in_order, (counted, sym c.labels_fit.ensures ∙ c.if-not-labels_fit.true)),
    )))

pub moves_whole-requires : goal.moves_whole-requires
moves_whole-requires c =
    let ordered : contents c.args.job.now ≡ true =
    sym c.contents_fit.ensures ∙ c.if-not-contents_fit.false in
    let laid : Laid c.args.job.now c.layout_of-l.result =
    record { long = c.if-job-lt16.false; in_order = ordered; is_layout = c.layout_of-l.ensures } in
    laid

pub returns-then-not-moves_whole : goal.returns-then-not-moves_whole
returns-then-not-moves_whole c =
    let ordered : contents c.args.job.now ≡ true =
    sym c.contents_fit.ensures ∙ c.if-not-contents_fit.false in
    let laid : Laid c.args.job.now c.layout_of-l.result =
    record { long = c.if-job-lt16.false; in_order = ordered; is_layout = c.layout_of-l.ensures } in
    let ranged : in_ranges c.layout_of-l.result ≡ true =
    sym c.counts_fit.ensures ∙ c.if-not-counts_fit.false in
    let counted : counts c.args.job.now ≡ true =
    sym (counts_said c.args.job.now) ∙ (rw c.layout_of-l.ensures at (ranged)) in
    let labelled : labels c.args.job.now ≡ true =
    sym c.labels_fit.ensures ∙ c.if-not-labels_fit.false in
    let b = c.args.job.now in
    let h = laid in
    sym (refuses_plainly c.args.forgive b 4 (omega arith) ((numbers c.args.forgive b).is_5.1 (
      h.long,
      (h.in_order, (counted, (labelled, sym c.moves_whole.ensures ∙ c.if-not-moves_whole.true))),
    )))

pub goal_fits-requires : goal.goal_fits-requires
goal_fits-requires c =
    let ordered : contents c.args.job.now ≡ true =
    sym c.contents_fit.ensures ∙ c.if-not-contents_fit.false in
    let laid : Laid c.args.job.now c.layout_of-l.result =
    record { long = c.if-job-lt16.false; in_order = ordered; is_layout = c.layout_of-l.ensures } in
    let ranged : in_ranges c.layout_of-l.result ≡ true =
    sym c.counts_fit.ensures ∙ c.if-not-counts_fit.false in
    record {
      laid = laid;
      l_value = ranged;
    }

-- below: the records are judged, good or not
pub returns-in_err-judge_records : goal.returns-in_err-judge_records
returns-in_err-judge_records c =
    let ordered : contents c.args.job.now ≡ true =
    sym c.contents_fit.ensures ∙ c.if-not-contents_fit.false in
    let laid : Laid c.args.job.now c.layout_of-l.result =
    record { long = c.if-job-lt16.false; in_order = ordered; is_layout = c.layout_of-l.ensures } in
    let ranged : in_ranges c.layout_of-l.result ≡ true =
    sym c.counts_fit.ensures ∙ c.if-not-counts_fit.false in
    let counted : counts c.args.job.now ≡ true =
    sym (counts_said c.args.job.now) ∙ (rw c.layout_of-l.ensures at (ranged)) in
    let labelled : labels c.args.job.now ≡ true =
    sym c.labels_fit.ensures ∙ c.if-not-labels_fit.false in
    let wholly : whole c.args.job.now ≡ true =
    sym c.moves_whole.ensures ∙ c.if-not-moves_whole.false in
    let b = c.args.job.now in
    let h = laid in
    let p = err_from_is_err_and c.from_residual.result c.from_residual.ensures.1 in
    let why = c.in_err-judge_records.field-0.0 in
    let f : refusal_fault why ≡ records_fault c.args.forgive (said b) (said b).records =
    c.in_err-judge_records.ensures ∙ ap (λ (l : Layout). records_fault c.args.forgive (said c.args.job.now) l.records) (laid).is_layout in
    let some : (refusal_fault why).number ≢ 0 = λ z. omega (arith, (refusal_some why).1) in
    let bad : (records_fault c.args.forgive (said b) (said b).records).number ≢ 0 = λ z. some (ap (λ (x : Fault). x.number) f ∙ z) in
    rw (p.1, p.2)
    (sym (refuses c.args.forgive b (refusal_fault why) some (records_said c.args.forgive b h.long h.in_order (counted) (labelled) (wholly) bad ∙ sym f)))

pub returns-then-not-goal_fits : goal.returns-then-not-goal_fits
returns-then-not-goal_fits c =
    let ordered : contents c.args.job.now ≡ true =
    sym c.contents_fit.ensures ∙ c.if-not-contents_fit.false in
    let laid : Laid c.args.job.now c.layout_of-l.result =
    record { long = c.if-job-lt16.false; in_order = ordered; is_layout = c.layout_of-l.ensures } in
    let ranged : in_ranges c.layout_of-l.result ≡ true =
    sym c.counts_fit.ensures ∙ c.if-not-counts_fit.false in
    let counted : counts c.args.job.now ≡ true =
    sym (counts_said c.args.job.now) ∙ (rw c.layout_of-l.ensures at (ranged)) in
    let labelled : labels c.args.job.now ≡ true =
    sym c.labels_fit.ensures ∙ c.if-not-labels_fit.false in
    let wholly : whole c.args.job.now ≡ true =
    sym c.moves_whole.ensures ∙ c.if-not-moves_whole.false in
    let judged : let b = c.args.job.now in only 0 ≡ records_fault c.args.forgive (said b) (said b).records =
    c.in_ok-judge_records.ensures ∙ ap (λ (l : Layout). records_fault c.args.forgive (said c.args.job.now) l.records) (laid).is_layout in
    let recorded : RecordsGood c.args.forgive c.args.job.now =
    (records_good_iff c.args.forgive (said c.args.job.now)).0 (ap (λ (f : Fault). f.number) (sym judged)) in
    let b = c.args.job.now in
    let h = laid in
    sym (refuses_plainly c.args.forgive b 5 (omega arith) ((numbers c.args.forgive b).is_6.1 (
      h.long,
      (
        h.in_order,
        (counted, (labelled, (wholly, (recorded, sym c.goal_fits.ensures ∙ c.if-not-goal_fits.true)))),
      ),
    )))

pub returns : goal.returns
returns c =
    let ordered : contents c.args.job.now ≡ true =
    sym c.contents_fit.ensures ∙ c.if-not-contents_fit.false in
    let laid : Laid c.args.job.now c.layout_of-l.result =
    record { long = c.if-job-lt16.false; in_order = ordered; is_layout = c.layout_of-l.ensures } in
    let ranged : in_ranges c.layout_of-l.result ≡ true =
    sym c.counts_fit.ensures ∙ c.if-not-counts_fit.false in
    let counted : counts c.args.job.now ≡ true =
    sym (counts_said c.args.job.now) ∙ (rw c.layout_of-l.ensures at (ranged)) in
    let labelled : labels c.args.job.now ≡ true =
    sym c.labels_fit.ensures ∙ c.if-not-labels_fit.false in
    let wholly : whole c.args.job.now ≡ true =
    sym c.moves_whole.ensures ∙ c.if-not-moves_whole.false in
    let judged : let b = c.args.job.now in only 0 ≡ records_fault c.args.forgive (said b) (said b).records =
    c.in_ok-judge_records.ensures ∙ ap (λ (l : Layout). records_fault c.args.forgive (said c.args.job.now) l.records) (laid).is_layout in
    let recorded : RecordsGood c.args.forgive c.args.job.now =
    (records_good_iff c.args.forgive (said c.args.job.now)).0 (ap (λ (f : Fault). f.number) (sym judged)) in
    let b = c.args.job.now in
    let h = laid in
    rw h.is_layout
    (sym (accepts c.args.forgive b ((refusal_0 c.args.forgive b).1 (
      h.long,
      (
        h.in_order,
        (counted, (labelled, (wholly, (recorded, sym c.goal_fits.ensures ∙ c.if-not-goal_fits.false)))),
      ),
    ))))
