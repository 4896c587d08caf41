-- `write::put_listed` meets its contract.
use borrow.Author.Tests.{not-true, not-false}
use mathlib.Core.Bool.{Bool, ◌&&◌}
use mathlib.Core.Path.{sym, ◌∙◌, ap, ap₂}
use Rattle.rules.specs.Bytes.{said}
use Rattle.salvage.specs.Mended.{lists}
use Rattle.salvage.specs.Salvage.{pair_bytes}
use Rattle.salvage.proofs.Pairing.{lists_found}
use Rattle.salvage.proofs.Putting.{put_skip}
use Rattle.salvage.proofs.write.put_listed.Goals.{then-not-u-via-then-not-u, then-not-u-via-else-not-u+then-not-u-2}
use Rattle.salvage.proofs.write.put_listed.Goals as goal

pub returns-then-not-u : goal.returns-then-not-u
returns-then-not-u c =
    let b = c.args.job.now in
    let found = sym (lists_found b c.args.k c.args.u c.requires.turned) in
    put_skip (lists (said b)) (pair_bytes b) c.args.k c.args.out.now c.args.at
    (elim c.then-not-u.branch [
      | then-not-u-via-then-not-u w ↦ found ∙ ap (λ (x : Bool). x && c.args.u.first) (not-true c.args.u.bad w.if-not-u.true)
      | then-not-u-via-else-not-u+then-not-u-2 w ↦ found ∙ ap₂ (λ (x y : Bool). x && y) (not-false c.args.u.bad w.if-not-u.false) (not-true c.args.u.first w.if-not-u-2.true)
    ])
