-- `Names::find` meets its contract: none of the k names passed is spelt like the word.
use Rattle.std.proofs.Common.{◌≡◌, ◌+◌, drop}
use Rattle.lines.specs.Tables.{names_of}
use Rattle.lines.specs.Names.{index_of}
use Rattle.lines.proofs.names.Names.find.Given as goal

abbrev pub invariant-loop-k : goal.invariant-loop-k
invariant-loop-k l = index_of (names_of l.self) l.word ≡ l.k + index_of (drop l.k (names_of l.self)) l.word
