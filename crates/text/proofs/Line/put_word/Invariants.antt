-- `put_word` meets its contract: after i turns the word's first i bytes are put.
use lib.ListN.{take}
use Rattle.text.specs.Puts.{Puts}
use Rattle.text.proofs.Line.put_word.Given as goal

abbrev pub invariant-loop-byte : goal.invariant-loop-byte
invariant-loop-byte l = Puts l.initial.self (take l.byte-index l.word) l.self
