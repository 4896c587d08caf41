-- The figures of the struct for C that the check of a plan answers.
use Rattle.rules.specs.Fault.{with_record}
use Rattle.checking.specs.Checking as checking
use Rattle.cabinet.specs.declared.checks.CheckedFigures.{CheckedFigures}

abbrev pub figures_checked : CheckedFigures → checking.CheckedFigures
figures_checked f = record { fault = with_record f.refusal f.«record»; state = f.state; goal = f.goal }
