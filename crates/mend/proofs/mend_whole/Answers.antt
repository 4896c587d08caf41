-- `mend_whole` meets its contract: the buffer has room for every text.
use Rattle.std.proofs.Common.{arith, length, rules, ◌≤◌}
use Rattle.text.specs.PutText.{PutText}
use Rattle.mend.proofs.Mending.{mended_whole}
use Rattle.mend.proofs.mend_whole.Goals as goal

pub returns : goal.returns
returns c =
    let room : 245782 ≤ length c.args.text.now = omega arith in
    let r = c.mend-job.ensures in
    let put : PutText c.args.text.now 0 r.text _ _ = search (rules, r) in
    let w = mended_whole r put room in
    record {
      prefix_len = w.0;
      prefix_len_2 = w.1;
      mends = w.2;
    }
