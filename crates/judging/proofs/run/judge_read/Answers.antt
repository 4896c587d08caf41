-- `judge_read` meets its contract: each way through it gives the answer that is due.
use mathlib.Core.Path.{sym, ◌∙◌}
use Rattle.judging.proofs.Answers.{refuse_deep, refuse_label, ready, answered}
use Rattle.judging.proofs.run.judge_read.Goals as goal

pub returns-then-depth-gt3 : goal.returns-then-depth-gt3
returns-then-depth-gt3 c = refuse_deep c.requires c.if-depth-gt3.true

pub returns-then-not-labels_fit : goal.returns-then-not-labels_fit
returns-then-not-labels_fit c =
    refuse_label c.requires c.if-depth-gt3.false
    (sym c.labels_fit.ensures ∙ c.if-not-labels_fit.true)

pub judge-requires : goal.judge-requires
judge-requires c = ready c.requires

pub returns : goal.returns
returns c =
    answered c.requires c.if-depth-gt3.false
    (sym c.labels_fit.ensures ∙ c.if-not-labels_fit.false) _ c.judge.ensures
