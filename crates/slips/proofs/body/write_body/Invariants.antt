-- `write_body` meets its contract. The bytes passed are the body's.
use Rattle.slips.specs.Writing.{clauses_from}
use Rattle.slips.specs.Filling.{body_byte, Filled}
use Rattle.slips.proofs.body.write_body.Given as goal

abbrev pub invariant-loop-y : goal.invariant-loop-y
invariant-loop-y l = Filled l.y (body_byte (clauses_from l.s 0 l.n) l.p) l.initial.out l.out
