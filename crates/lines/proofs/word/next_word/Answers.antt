-- `word::next_word` meets its contract.
use Rattle.lines.proofs.Wording.{after_blanks, no_blanks}
use Rattle.lines.proofs.word.next_word.Goals as goal

pub word_at-requires : goal.word_at-requires
word_at-requires c =
    record {
      start_in_bounds = c.class_end-start.ensures.1;
      text_value = no_blanks _ _ _ c.class_end-start.ensures.0;
    }

pub returns : goal.returns
returns c = after_blanks _ _ _ c.class_end-start.ensures.0 c.word_at.ensures
