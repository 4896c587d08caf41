-- `tell_lines` meets its contract: the line of what was found.
use Rattle.std.proofs.Common.{refl, sym, ◌∙◌}
use Rattle.judge.proofs.Telling.{told_first, told_second, told_judged}
use Rattle.judge.proofs.tell_lines.Goals as goal

pub returns-then-not-is_list : goal.returns-then-not-is_list
returns-then-not-is_list c = told_first (sym c.is_list.ensures ∙ c.if-not-is_list.true) c.put_word.ensures

pub returns-then-not-is_list-2 : goal.returns-then-not-is_list-2
returns-then-not-is_list-2 c =
    told_second (sym c.is_list.ensures ∙ c.if-not-is_list.false) (sym c.is_list-2.ensures ∙ c.if-not-is_list-2.true)
    c.put_word-then-not-is_list-2.ensures

pub returns : goal.returns
returns c =
    told_judged c.judge_run-answer.result (sym c.is_list.ensures ∙ c.if-not-is_list.false)
    (sym c.is_list-2.ensures ∙ c.if-not-is_list-2.false) c.put_numbers-n.ensures.put_text refl
    c.put_numbers-m.ensures.put_text refl c.judge_run-answer.ensures c.put_figures.ensures
