-- The totals as a record, and the step that adds the class of one job.
use Rattle.std.specs.Prelude.{ℕ, ◌+◌, cond, ltb, get_or, set, replicate, Option, Some, None}
use Rattle.totals.specs.Classes.{line, winning_number, pending_number}
use Rattle.totals.specs.declared.class.Class.{Class}
use Rattle.totals.specs.declared.tally.Largest.{Largest}
use Rattle.totals.specs.declared.tally.Totals.{Totals}

-- how many jobs line k counts
abbrev pub count : Totals → ℕ → ℕ
count t k = get_or t.counts k 0

abbrev pub no_totals : Totals
no_totals = record { jobs = 0; counts = replicate 11 0; winning_sum = 0; pending_sum = 0; largest = None }

-- the larger of the largest so far and the number n of job j; of two that are the same, the first
abbrev pub larger_number : Option Largest → ℕ → ℕ → Option Largest
larger_number None j n = Some (record { number = n; job = j })
larger_number (Some l) j n = cond (ltb l.number n) (Some (record { number = n; job = j })) (Some l)

abbrev pub larger : Option Largest → ℕ → Class → Option Largest
larger l j (Class.Winning n) = larger_number l j n
larger l j (Class.Pending n) = l
larger l j Class.Losing = l
larger l j (Class.Refused n) = l

-- the totals with one job more
abbrev pub added : Totals → Class → Totals
added t c =
    record {
      jobs = t.jobs + 1;
      counts = set t.counts (line c) (count t (line c) + 1);
      winning_sum = t.winning_sum + winning_number c;
      pending_sum = t.pending_sum + pending_number c;
      largest = larger t.largest t.jobs c;
    }
