-- `pairs::is_first` meets its contract: the record before tells.
use mathlib.Core.Path.{sym}
use native.Mathlib.Omega.{arith}
use Rattle.rules.specs.Bytes.{said}
use Rattle.salvage.proofs.Pairing.{told_first, records_said}
use Rattle.salvage.proofs.pairs.is_first.Goals as goal

pub returns : goal.returns
returns c =
    let h = c.requires.k_lt_records in
    told_first (said c.args.job.now) c.requires.fit_but.keeps.ascending c.args.k _ _ _ c.if-k-eq0.false (omega (arith, records_said c.requires.fit_but))
    c.forgiven_move_at-last.ensures c.forgiven_move_at-m.ensures (sym c.same_pair.ensures)
