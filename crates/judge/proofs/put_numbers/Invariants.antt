-- `put_numbers` meets its contract: after i bytes what `Scanned` says.
use Rattle.judge.specs.Lines.{inside, value}
use Rattle.judge.proofs.Scanning.{Scanned}
use Rattle.judge.proofs.put_numbers.Given as goal

abbrev pub invariant-loop-c : goal.invariant-loop-c
invariant-loop-c l = Scanned l.text l.initial.line l.c-index l.line (inside l.number) (value l.number)
