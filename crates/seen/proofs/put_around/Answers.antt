-- `put_around` meets its contract.
use Rattle.seen.proofs.Growing.{grown_puts, grown_then}
use Rattle.seen.proofs.put_around.Goals as goal

pub returns : goal.returns
returns c = grown_then (grown_puts c.put_word.ensures) (grown_then (grown_puts c.put_word-2.ensures) (grown_puts c.put_word-3.ensures))
