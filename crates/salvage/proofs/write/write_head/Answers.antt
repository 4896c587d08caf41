-- `write::write_head` meets its contract: four entries of the contents, and Counts and Labels after them.
use Rattle.salvage.proofs.Writing.{head_written}
use Rattle.salvage.proofs.write.write_head.Goals as goal

pub returns : goal.returns
returns c =
    head_written c.requires.fit_but c.requires.sized c.args.out.now _ _ _ _ _ c.put_entry.ensures c.put_entry-2.ensures
    c.put_entry-3.ensures c.put_entry-4.ensures c.copy.ensures
