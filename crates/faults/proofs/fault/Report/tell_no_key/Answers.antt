-- `Report::tell_no_key` meets its contract: the word names no goal state where one is near.
use Rattle.text.specs.Lines.{bytes}
use Rattle.faults.proofs.fault.Report.tell_no_key.Goals as goal

pub returns-then-is_some-clause-told : goal.returns-then-is_some-clause-told
returns-then-is_some-clause-told c = λ e. record { kind = bytes "goal state"; told = c.tell_unknown.ensures.told e }
