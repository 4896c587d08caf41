-- `tell` meets its contract: the buffer has room for every text.
use Rattle.std.proofs.Common.{arith, length, rules, ◌≤◌}
use Rattle.text.specs.PutText.{PutText}
use Rattle.report.specs.Read.{told}
use Rattle.report.proofs.Telling.{told_front}
use Rattle.report.proofs.tell.Goals as goal

pub returns-clause-out_after : goal.returns-clause-out_after
returns-clause-out_after c =
    let room : 64 ≤ length c.args.out.now = omega arith in
    let put : PutText c.args.out.now 0 (told c.args.month) _ _ = search rules in
    (told_front c.args.month c.requires room put).1
