-- `put::put_pair` meets its contract.
use mathlib.Core.List.{[], ◌∷◌}
use mathlib.Core.Path.{◌∙◌}
use Prim.Native.Nat.{◌+◌}
use native.Mathlib.Omega.{arith}
use Rattle.rules.specs.Retold.{two, patched}
use Rattle.salvage.proofs.Putting.{put_1, put_on, patched_long}
use Rattle.salvage.proofs.put.put_pair.Goals as goal

pub returns : goal.returns
returns c =
    let a = c.args in
    let d = patched a.out.now a.at (two a.m.state []) in
    rw c.put_word_at.ensures
    (put_1 d (a.at + 2) a.m.action (omega (arith, c.requires, patched_long a.out.now (two a.m.state []) a.at (omega (arith, c.requires))))
    ∙ put_on a.out.now (two a.m.state []) (a.m.action ∷ []) a.at (omega (arith, c.requires)))
