-- `accept::judge_records` meets its contract: nothing is wrong with the records passed, and `last` is the one before the next, joined.
use mathlib.Core.Path.{◌≡◌, sym, ap, ◌∙◌}
use Prim.Native.Nat.{ℕ, ◌<◌}
use native.Mathlib.Omega.{arith}
use lib.ListN.{get_or}
use Rattle.std.proofs.lemmas.Result.{err_from_is_err_and}
use Rattle.rules.specs.Fault.{Fault, only}
use Rattle.rules.specs.Bytes.{said, record_fault}
use Rattle.rules.specs.Answers.{refusal_fault}
use Rattle.rules.proofs.Faults.{records_more, records_stop, records_none}
use Rattle.rules.proofs.Figures.{refusal_some}
use Rattle.job.specs.Joined.{joined}
use Rattle.job.proofs.Laying.{record_of, fault_is, previous_is}
use Rattle.job.proofs.accept.judge_records.Goals as goal

pub returns-in_err-judge_record : goal.returns-in_err-judge_record
returns-in_err-judge_record c =
    let b = c.args.job.now in
    let byte : (i : ℕ) → get_or b i 0 < 256 = λ i. omega (arith, c.type_inv.job i) in
    let p = err_from_is_err_and c.from_residual.result c.from_residual.ensures.1 in
    let why = c.in_err-judge_record.field-0.0 in
    let e : refusal_fault why ≡ record_fault c.args.forgive (said b) c.loop-k.k =
    c.in_err-judge_record.ensures
    ∙ rw (c.nth_record-m.ensures, c.loop-k.invariant.before) (fault_is c.args.forgive b c.args.l byte c.requires.laid.is_layout c.loop-k.k) in
    rw (p.1, p.2)
    (e ∙ sym (records_stop c.args.forgive (said b) c.args.l.records c.loop-k.k (omega arith) c.loop-k.invariant.none
    (λ z. omega (arith, (refusal_some why).1, ap (λ (f : Fault). f.number) e))))

pub loop-k-preserved : goal.loop-k-preserved
loop-k-preserved c =
    let b = c.args.job.now in
    let byte : (i : ℕ) → get_or b i 0 < 256 = λ i. omega (arith, c.type_inv.job i) in
    let e : only 0 ≡ record_fault c.args.forgive (said b) c.loop-k.k =
    c.in_ok-judge_record.ensures
    ∙ rw (c.nth_record-m.ensures, c.loop-k.invariant.before) (fault_is c.args.forgive b c.args.l byte c.requires.laid.is_layout c.loop-k.k) in
    record {
      none = records_more c.args.forgive (said b) c.loop-k.k c.loop-k.invariant.none (sym (ap (λ (f : Fault). f.number) e));
      before = c.join-last.ensures ∙ ap joined {y = record_of b c.args.l c.loop-k.k} c.nth_record-m.ensures ∙ previous_is b c.args.l c.requires.laid.is_layout c.loop-k.k;
    }

pub returns : goal.returns
returns c =
    let e : c.loop-k.k ≡ c.args.l.records = omega arith in
    sym (records_none c.args.forgive (said c.args.job.now) c.args.l.records (rw e at c.loop-k.invariant.none))
