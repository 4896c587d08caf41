-- The measure: the bytes left.
use Rattle.std.proofs.Common.{◌-◌, length}
use Rattle.judging.proofs.read.+read_formula.Given as goal

abbrev pub decreases-read_formula : goal.decreases-read_formula
decreases-read_formula l = length l.f.now - l.at
