-- `make` meets its contract: the words so far make a job that lies inside the buffer, or are at fault.
use Rattle.std.proofs.Common.{◌≤◌, length}
use Rattle.std.specs.Prelude.{IfSome}
use Rattle.job_edges.proofs.made.make.Given as goal

abbrev pub invariant-loop-byte : goal.invariant-loop-byte
invariant-loop-byte l = IfSome l.s.length (λ n. n ≤ length l.job)
