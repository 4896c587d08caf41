-- `list_whole` meets its contract: the buffer has room for every text.
use Rattle.std.proofs.Common.{arith, length, rules, ◌≤◌}
use Rattle.text.specs.PutText.{PutText}
use Rattle.listing.proofs.Lengths.{printed_whole}
use Rattle.listing.proofs.list_whole.Goals as goal

pub returns : goal.returns
returns c =
    let room : 393237 ≤ length c.args.out.now = omega arith in
    let t = c.list.ensures in
    let put : PutText c.args.out.now 0 t.text _ _ = search (rules, t) in
    let z = printed_whole t put room in
    record {
      prefix_len = z.0;
      prints = z.1;
    }
