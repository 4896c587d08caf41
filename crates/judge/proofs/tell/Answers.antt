-- `tell` meets its contract: the lines are found and told.
use Rattle.std.proofs.Common.{◌∙◌}
use Rattle.judge.proofs.Scanning.{part_rest}
use Rattle.judge.proofs.Telling.{told_long, told_more, told_two}
use Rattle.judge.proofs.tell.Goals as goal

pub returns-then-input-ge-INPUT_ROOM : goal.returns-then-input-ge-INPUT_ROOM
returns-then-input-ge-INPUT_ROOM c = told_long _ c.if-input-ge-INPUT_ROOM.true c.put_word.ensures

pub returns-then-more-rest : goal.returns-then-more-rest
returns-then-more-rest c =
    told_more _ c.if-input-ge-INPUT_ROOM.false _ _ _ _ c.line_end-end.ensures.value
    (part_rest c.args.input.now c.line_after-at.result ∙ c.line_after-at.ensures.text_value)
    c.line_end-stop.ensures.value c.line_after-more.ensures.text_value c.if-more-rest.true
    c.put_word-then-more-rest.ensures

pub returns : goal.returns
returns c =
    told_two _ c.if-input-ge-INPUT_ROOM.false _ _ _ _ c.line_end-end.ensures.value
    (part_rest c.args.input.now c.line_after-at.result ∙ c.line_after-at.ensures.text_value)
    c.line_end-stop.ensures.value c.line_after-more.ensures.text_value c.if-more-rest.false
    c.tell_lines.ensures
