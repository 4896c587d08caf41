-- `tell_whole` meets its contract: the buffer has room for every line.
use Rattle.std.proofs.Common.{arith, length, rules, ◌≤◌}
use Rattle.text.specs.PutText.{PutText}
use Rattle.judge.proofs.Telling.{told_whole}
use Rattle.judge.proofs.tell_whole.Goals as goal

pub returns-clause-tells : goal.returns-clause-tells
returns-clause-tells c =
    let t = c.tell.ensures in
    let room : 64 ≤ length c.args.out.now = omega arith in
    let put : PutText c.args.out.now 0 t.text _ _ = search (rules, t) in
    (told_whole t.text t.tells put room).1
