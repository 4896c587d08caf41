-- `tool::salvage` meets its contract: what reading refuses is refused; then room or none, and both outputs.
use mathlib.Core.Bool.{true}
use mathlib.Core.Logic.{⊎_elim}
use mathlib.Core.Path.{◌≡◌, subst, ◌∙◌}
use Prim.Native.Nat.{◌*◌, ◌≤◌}
use native.Mathlib.Omega.{arith}
use lib.ListN.{length}
use Rattle.std.proofs.lemmas.Result.{err_from_is_err_and}
use Rattle.job.specs.Layout.{FitBut}
use Rattle.job.proofs.Readings.{read_fit_but, read_refused_but, read_refused_some_but}
use Rattle.rules.specs.Fault.{Fault}
use Rattle.rules.proofs.Kept.{records_few}
use Rattle.salvage.specs.Salvage.{removed, Salvaging, refused}
use Rattle.salvage.specs.Passes.{Sized}
use Rattle.salvage.proofs.Pairing.{records_said, wide_said, tallied_few}
use Rattle.salvage.proofs.Writing.{sized, listed_count, job_no_room, pairs_no_room, both_written}
use Rattle.salvage.proofs.tool.salvage.Goals as goal

pub returns-in_err-l : goal.returns-in_err-l
returns-in_err-l c =
    let b = c.args.job.now in
    let d = c.args.out.now in
    let p = c.args.pairs.now in
    let r = err_from_is_err_and c.from_residual.result c.from_residual.ensures.1 in
    let why = c.in_err-l.field-0.0 in
    let e = c.in_err-l.ensures in
    rw (r.1, r.2)
    (subst (λ (f : Fault). Salvaging b d p f 0 0 d p) (read_refused_but true b why e) (refused (read_refused_some_but true b why e)))

pub count_all-t-requires : goal.count_all-t-requires
count_all-t-requires c = read_fit_but true _ _ c.in_ok-l.ensures

pub overflow_mul-kept : goal.overflow_mul-kept
overflow_mul-kept c =
    let f : FitBut true c.args.job.now c.in_ok-l.l = read_fit_but true _ _ c.in_ok-l.ensures in
    let sizes : Sized c.args.job.now c.in_ok-l.l (c.record_size.result * c.count_all-t.result.kept) =
    sized f c.count_all-t.result c.count_all-t.ensures c.record_size.result (c.record_size.ensures ∙ wide_said f) in
    omega (arith, sizes)

pub overflow_mul-listed : goal.overflow_mul-listed
overflow_mul-listed c =
    let f : FitBut true c.args.job.now c.in_ok-l.l = read_fit_but true _ _ c.in_ok-l.ensures in
    let few : c.count_all-t.result.listed ≤ 8192 =
    omega (
      arith,
      tallied_few c.args.job.now c.in_ok-l.l.records c.count_all-t.result c.count_all-t.ensures,
      records_said f,
      records_few f.keeps,
    ) in
    omega (arith, few)

pub overflow_add-long : goal.overflow_add-long
overflow_add-long c =
    let f : FitBut true c.args.job.now c.in_ok-l.l = read_fit_but true _ _ c.in_ok-l.ensures in
    let sizes : Sized c.args.job.now c.in_ok-l.l (c.record_size.result * c.count_all-t.result.kept) =
    sized f c.count_all-t.result c.count_all-t.ensures c.record_size.result (c.record_size.ensures ∙ wide_said f) in
    omega (arith, sizes)

pub overflow_sub-long : goal.overflow_sub-long
overflow_sub-long c =
    let f : FitBut true c.args.job.now c.in_ok-l.l = read_fit_but true _ _ c.in_ok-l.ensures in
    let sizes : Sized c.args.job.now c.in_ok-l.l (c.record_size.result * c.count_all-t.result.kept) =
    sized f c.count_all-t.result c.count_all-t.ensures c.record_size.result (c.record_size.ensures ∙ wide_said f) in
    omega (arith, sizes)

pub overflow_add-long-2 : goal.overflow_add-long-2
overflow_add-long-2 c =
    let f : FitBut true c.args.job.now c.in_ok-l.l = read_fit_but true _ _ c.in_ok-l.ensures in
    let sizes : Sized c.args.job.now c.in_ok-l.l (c.record_size.result * c.count_all-t.result.kept) =
    sized f c.count_all-t.result c.count_all-t.ensures c.record_size.result (c.record_size.ensures ∙ wide_said f) in
    omega (arith, sizes)

pub returns-then-out-long : goal.returns-then-out-long
returns-then-out-long c =
    let f : FitBut true c.args.job.now c.in_ok-l.l = read_fit_but true _ _ c.in_ok-l.ensures in
    let sizes : Sized c.args.job.now c.in_ok-l.l (c.record_size.result * c.count_all-t.result.kept) =
    sized f c.count_all-t.result c.count_all-t.ensures c.record_size.result (c.record_size.ensures ∙ wide_said f) in
    let listing : 3 * c.count_all-t.result.listed ≡ length (removed c.args.job.now) =
    listed_count f c.count_all-t.result c.count_all-t.ensures in
    ⊎_elim
    (λ h. job_no_room f c.args.out.now c.args.pairs.now (omega (arith, sizes, h)))
    (λ h. pairs_no_room f c.args.out.now c.args.pairs.now (omega (arith, listing, h.1)))
    c.then-out-long.either

pub write_both-requires : goal.write_both-requires
write_both-requires c =
    let f : FitBut true c.args.job.now c.in_ok-l.l = read_fit_but true _ _ c.in_ok-l.ensures in
    let sizes : Sized c.args.job.now c.in_ok-l.l (c.record_size.result * c.count_all-t.result.kept) =
    sized f c.count_all-t.result c.count_all-t.ensures c.record_size.result (c.record_size.ensures ∙ wide_said f) in
    let listing : 3 * c.count_all-t.result.listed ≡ length (removed c.args.job.now) =
    listed_count f c.count_all-t.result c.count_all-t.ensures in
    record {
      fit_but = f;
      sized = sizes;
      job_in_bounds = omega (arith, sizes, c.if-out-long.false);
      job_in_bounds_2 = omega (arith, listing, c.if-pairs-listed.false);
    }

pub returns : goal.returns
returns c =
    let f : FitBut true c.args.job.now c.in_ok-l.l = read_fit_but true _ _ c.in_ok-l.ensures in
    let sizes : Sized c.args.job.now c.in_ok-l.l (c.record_size.result * c.count_all-t.result.kept) =
    sized f c.count_all-t.result c.count_all-t.ensures c.record_size.result (c.record_size.ensures ∙ wide_said f) in
    let listing : 3 * c.count_all-t.result.listed ≡ length (removed c.args.job.now) =
    listed_count f c.count_all-t.result c.count_all-t.ensures in
    both_written f c.args.out.now c.args.pairs.now _ _ _ _ (omega (arith, sizes)) (omega (arith, listing))
    (omega (arith, c.if-out-long.false)) (omega (arith, c.if-pairs-listed.false)) c.write_both.ensures.out_after c.write_both.ensures.pairs_after
