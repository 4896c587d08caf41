-- `tell_whole` meets its contract: the buffer has room for every line.
use Rattle.std.proofs.Common.{arith, get_or, length, rules, ℕ, ◌<◌, ◌≤◌}
use Rattle.text.specs.PutText.{PutText}
use Rattle.compare.proofs.Telling.{told_whole}
use Rattle.compare.proofs.tell_whole.Goals as goal

pub returns : goal.returns
returns c =
    let room : 64 ≤ length c.args.out.now = omega arith in
    let byte : (i : ℕ) → get_or c.args.plan.now i 0 < 256 = λ i. omega (arith, c.type_inv.plan i) in
    let t = c.tell.ensures in
    let put : PutText c.args.out.now 0 t.text _ _ = search (rules, t) in
    let z = told_whole t put byte room in
    record {
      prefix_len = z.0;
      tells = z.1;
    }
