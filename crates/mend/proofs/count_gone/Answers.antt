-- `count_gone` meets its contract: the job is read, since it keeps the rules but for outcomes, and what is missing is whole records.
use mathlib.Core.Bool.{true}
use mathlib.Core.Path.{◌≡◌, sym, ap, ap₂, ◌∙◌}
use Prim.Native.Nat.{ℕ, ◌-◌, ◌/◌, ◌≤◌}
use native.Mathlib.Omega.{arith}
use lib.ListN.{length}
use Rattle.rules.specs.Bytes.{form, is_tall}
use Rattle.rules.specs.Form.{Form}
use Rattle.rules.proofs.Forms.{record_some}
use Rattle.rules.proofs.Kept.{kept_but, records_few}
use Rattle.job.specs.declared.layout.Layout.{Layout}
use Rattle.job.specs.Forms.{in_rules}
use Rattle.job.specs.Reading.{reading_figures}
use Rattle.job.proofs.Named.{named_back}
use Rattle.job.proofs.Readings.{read_fit_but, read_refused_some_but}
use Rattle.salvage.specs.Salvage.{salvaged}
use Rattle.salvage.proofs.Bodies.{salvaged_length, many_bytes}
use Rattle.mend.proofs.Mending.{gone_is}
use Rattle.mend.proofs.count_gone.Goals as goal

pub overflow_sub-result : goal.overflow_sub-result
overflow_sub-result c =
    let shorter : let a = c.args in a.left ≤ length a.job.now =
    let k = c.requires.keeps_but in
    omega (arith, c.requires.left_value, salvaged_length k, many_bytes k, k.goal_at, k.ends) in
    omega (arith, shorter)

pub nonzero_div-result : goal.nonzero_div-result
nonzero_div-result c =
    let width_is : c.record_size.result ≡ (form c.args.job.now).record_size =
    let b = c.args.job.now in
    c.record_size.ensures
    ∙ ap (λ (l : Layout). (in_rules l.form).record_size) (read_fit_but true b _ (ap reading_figures (sym c.in-Ok.is) ∙ c.read_forgiving.ensures)).is_layout
    ∙ ap (λ (f : Form). f.record_size) (named_back (is_tall b)) in
    let b = c.args.job.now in omega (arith, width_is, record_some (is_tall b))

pub overflow_cast-result : goal.overflow_cast-result
overflow_cast-result c =
    let width_is : c.record_size.result ≡ (form c.args.job.now).record_size =
    let b = c.args.job.now in
    c.record_size.ensures
    ∙ ap (λ (l : Layout). (in_rules l.form).record_size) (read_fit_but true b _ (ap reading_figures (sym c.in-Ok.is) ∙ c.read_forgiving.ensures)).is_layout
    ∙ ap (λ (f : Form). f.record_size) (named_back (is_tall b)) in
    let gone : let a = c.args in (length a.job.now - a.left) / c.record_size.result ≡ (length a.job.now - length (salvaged a.job.now)) / (form a.job.now).record_size =
    ap₂ (λ (x w : ℕ). (length c.args.job.now - x) / w) c.requires.left_value (width_is) in
    let k = c.requires.keeps_but in
    omega (arith, gone, gone_is k, records_few k)

pub returns-in-Err : goal.returns-in-Err
returns-in-Err c =
    let b = c.args.job.now in
    absurd (read_refused_some_but true b c.in-Err.field-0 (ap reading_figures (sym c.in-Err.is) ∙ c.read_forgiving.ensures) ((kept_but true b).1 c.requires.keeps_but))

pub returns-in-Ok : goal.returns-in-Ok
returns-in-Ok c =
    let width_is : c.record_size.result ≡ (form c.args.job.now).record_size =
    let b = c.args.job.now in
    c.record_size.ensures
    ∙ ap (λ (l : Layout). (in_rules l.form).record_size) (read_fit_but true b _ (ap reading_figures (sym c.in-Ok.is) ∙ c.read_forgiving.ensures)).is_layout
    ∙ ap (λ (f : Form). f.record_size) (named_back (is_tall b)) in
    let gone : let a = c.args in (length a.job.now - a.left) / c.record_size.result ≡ (length a.job.now - length (salvaged a.job.now)) / (form a.job.now).record_size =
    ap₂ (λ (x w : ℕ). (length c.args.job.now - x) / w) c.requires.left_value (width_is) in
    gone ∙ gone_is c.requires.keeps_but
