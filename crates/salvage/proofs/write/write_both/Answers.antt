-- `write::write_both` meets its contract: the head, the records that stay with the list of pairs, and Goal.
use Rattle.salvage.proofs.Writing.{job_written}
use Rattle.salvage.proofs.write.write_both.Goals as goal

pub returns : goal.returns
returns c =
    record {
      out_after = job_written c.requires.fit_but c.requires.sized c.args.out.now _ _ _ c.write_head.ensures c.write_records.ensures.out_after
          c.copy.ensures;
      pairs_after = c.write_records.ensures.pairs_after;
    }
