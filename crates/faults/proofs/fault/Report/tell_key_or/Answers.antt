-- `Report::tell_key_or` meets its contract: the word names no key, or no goal state.
use Rattle.text.specs.Lines.{bytes}
use Rattle.faults.proofs.fault.Report.tell_key_or.Goals as goal

pub returns-then-is_some-clause-told : goal.returns-then-is_some-clause-told
returns-then-is_some-clause-told c = λ e. record { kind = bytes "key"; told = c.tell_unknown.ensures.told e }

pub returns-else-is_some-clause-told : goal.returns-else-is_some-clause-told
returns-else-is_some-clause-told c = λ e. record { kind = bytes "goal state"; told = c.tell_unknown-else-is_some.ensures.told e }
