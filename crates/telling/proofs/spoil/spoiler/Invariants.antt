-- `spoil::spoiler` meets its contract: no record beside those of the state and action spoils it, and of these it is looked for from above.
use Rattle.rules.specs.Bytes.{said}
use Rattle.rules.specs.Answers.{value_number}
use Rattle.telling.specs.Spoilt.{spoils}
use Rattle.telling.proofs.Seeking.{Sought}
use Rattle.telling.proofs.spoil.spoiler.Given as goal

abbrev pub invariant-loop-k : goal.invariant-loop-k
invariant-loop-k l = Sought (said l.job).records (spoils (said l.job) l.plan l.s l.q l.a (value_number l.v)) l.k
