-- `round::look` meets its contract: it looks for the phase that it is given.
use Rattle.std.proofs.Common.{rules}
use Rattle.trembling.proofs.round.look.Goals as goal

pub returns-in-Winning : goal.returns-in-Winning
returns-in-Winning c = rw c.in-Winning.is search rules

pub returns-in-Pending : goal.returns-in-Pending
returns-in-Pending c = rw c.in-Pending.is search rules
