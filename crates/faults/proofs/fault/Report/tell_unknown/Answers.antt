-- `Report::tell_unknown` meets its contract: where there is room, the texts of the line's parts up to the word, and then what may stand for it.
use Rattle.text.proofs.Putting.{puts_then}
use Rattle.faults.proofs.fault.Report.tell_unknown.Goals as goal

pub returns-clause-told : goal.returns-clause-told
returns-clause-told c =
    λ e. record {
      rest = _;
      put = puts_then
          (puts_then c.put_number.ensures.number
          (puts_then c.put_word.ensures (puts_then c.put_word-2.ensures (puts_then c.put_word-3.ensures c.put_quoted.ensures.word))))
          (puts_then c.put_near.ensures.near.put c.put.ensures);
    }
