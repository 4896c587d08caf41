-- `accept::layout_of` meets its contract.
use mathlib.Core.Path.{◌≡◌, ap, ◌∙◌}
use Prim.Native.Nat.{ℕ}
use native.Mathlib.Omega.{arith}
use lib.Dec.{eqb}
use Rattle.rules.specs.Bytes.{is_tall}
use Rattle.rules.proofs.Forms.{record_some}
use Rattle.job.specs.Forms.{named_form}
use Rattle.job.proofs.Named.{named_back}
use Rattle.job.proofs.Laying.{counts_inside, layout_is}
use Rattle.job.proofs.accept.layout_of.Goals as goal

pub counts_at-c-requires : goal.counts_at-c-requires
counts_at-c-requires c =
    let b = c.args.job.now in
    let form_is : c.of_counts-form.result ≡ named_form (is_tall b) =
    c.of_counts-form.ensures ∙ ap (λ (n : ℕ). named_form (eqb n 8)) c.number_at.ensures in
    rw (form_is, named_back (is_tall b)) (counts_inside b c.requires.job_value)

pub nonzero_div-result : goal.nonzero_div-result
nonzero_div-result c =
    let b = c.args.job.now in
    let form_is : c.of_counts-form.result ≡ named_form (is_tall b) =
    c.of_counts-form.ensures ∙ ap (λ (n : ℕ). named_form (eqb n 8)) c.number_at.ensures in
    let size = rw (form_is, named_back (is_tall b)) at c.record_size.ensures in
    omega (arith, size, record_some (is_tall b))

pub returns : goal.returns
returns c =
    let b = c.args.job.now in
    let form_is : c.of_counts-form.result ≡ named_form (is_tall b) =
    c.of_counts-form.ensures ∙ ap (λ (n : ℕ). named_form (eqb n 8)) c.number_at.ensures in
    rw (
      layout_is b c.requires.job_value,
      c.counts_at-c.ensures,
      c.number_at-moves_at.ensures,
      c.number_at-goal_at.ensures,
      c.record_size.ensures,
      c.number_at-2.ensures,
      form_is,
      named_back (is_tall b),
    )
