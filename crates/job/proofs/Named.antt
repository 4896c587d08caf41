-- A form by its name is the form of the rules.
use mathlib.Core.Bool.{Bool, true, false}
use mathlib.Core.Path.{◌≡◌, refl}
use Rattle.rules.specs.Form.{form_of}
use Rattle.job.specs.Forms.{in_rules, named_form}

pub named_back : (t : Bool) → in_rules (named_form t) ≡ form_of t
named_back true = refl
named_back false = refl
