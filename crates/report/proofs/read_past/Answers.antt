-- `read_past` meets its contract: what has come grows with each turn, and where none is asked for there is no turn.
use mathlib.Core.Path.{refl}
use native.Mathlib.Omega.{arith}
use borrow.Author.Rules.{rules}
use Rattle.report.proofs.read_past.Goals as goal

pub loop-past-init : goal.loop-past-init
loop-past-init g c = (search rules, (search rules, (search rules, λ z. refl)))

pub returns-then-came-n : goal.returns-then-came-n
returns-then-came-n g c =
    record {
      upper_bound = search rules;
      job_unchanged = λ z. absurd (omega arith);
    }

pub loop-past-preserved : goal.loop-past-preserved
loop-past-preserved g c = (search rules, (search rules, (search rules, λ z. absurd (omega arith))))

pub returns : goal.returns
returns g c =
    record {
      upper_bound = search rules;
      job_unchanged = c.loop-past.invariant.1.1.1;
    }
