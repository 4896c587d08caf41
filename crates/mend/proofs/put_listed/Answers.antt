-- `put_listed` meets its contract: the state is in two bytes, and the action in one.
use Rattle.mend.proofs.put_listed.Goals as goal

pub returns : goal.returns
returns c =
    rw (c.from.ensures, c.from-2.ensures, c.word_at-state.ensures) at c.put_pair.ensures
