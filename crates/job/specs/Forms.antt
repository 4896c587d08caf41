-- The two forms of a job as the code names them, and what the rules say of each.
use Rattle.std.specs.Prelude.{Bool, true, false}
use Rattle.rules.specs.Form as rules
use Rattle.job.specs.declared.form.Form.{Form}

-- the sizes, limits and readings of a form
abbrev pub in_rules : Form → rules.Form
in_rules Form.Old = rules.old
in_rules Form.Tall = rules.tall

-- the form, by whether it is the tall one
abbrev pub named_form : Bool → Form
named_form true = Form.Tall
named_form false = Form.Old
