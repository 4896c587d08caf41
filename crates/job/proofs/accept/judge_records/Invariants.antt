-- `accept::judge_records` meets its contract: nothing is wrong with the records passed, and `last` is the one before the next, joined.
use mathlib.Core.Path.{◌≡◌}
use Rattle.rules.specs.Bytes.{said, records_fault}
use Rattle.job.proofs.Laying.{previous}
use Rattle.job.proofs.accept.judge_records.Given as goal

abbrev pub invariant-loop-k : goal.invariant-loop-k
invariant-loop-k l =
    record {
      none : (records_fault l.forgive (said l.job) l.k).number ≡ 0;
      before : l.last ≡ previous (said l.job).move l.k;
    }
