-- `put_number` meets its contract: the digits that `io::decimal` writes are the decimal text.
use Rattle.text.proofs.Digits.{decimal_digits}
use Rattle.text.proofs.Line.put_number.Goals as goal

pub returns : goal.returns
returns c =
    rw (c.decimal-k.ensures.digits, decimal_digits _ _ c.decimal-k.ensures.len, c.from.ensures) at c.put_word.ensures
