-- `turn::turn` meets its contract.
use Rattle.words.specs.Turned.{faulty}
use Rattle.words.proofs.Turning.{same_answer, told_long}
use borrow.Author.Rules.{rules}
use Rattle.words.proofs.turn.turn.Goals as goal

pub returns-in-Ok : goal.returns-in-Ok
returns-in-Ok c =
    record {
      answers = same_answer c.in-Ok.is c.turn_text.ensures;
      told = tt;
    }

pub returns-in-Err : goal.returns-in-Err
returns-in-Err c =
    record {
      answers = faulty;
      told = told_long (search rules) c.tell.ensures;
    }
