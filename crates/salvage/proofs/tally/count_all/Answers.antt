-- `tally::count_all` meets its contract.
use native.Mathlib.Omega.{arith}
use Rattle.rules.proofs.Kept.{records_few}
use Rattle.salvage.proofs.Pairing.{carried_none, carried_on, records_said, tallied_none, tallied_more, tallied_few}
use Rattle.salvage.proofs.tally.count_all.Goals as goal

pub loop-k-init : goal.loop-k-init
loop-k-init c = let b = c.args.job.now in (carried_none b, tallied_none b)

pub added-t-requires : goal.added-t-requires
added-t-requires c =
    let h = tallied_few c.args.job.now c.loop-k.k c.loop-k.t c.loop-k.invariant.1 in
    let n = records_said c.requires in
    let m = records_few c.requires.keeps in
    record { kept_bound = omega arith; listed_bound = omega arith }

pub loop-k-preserved : goal.loop-k-preserved
loop-k-preserved c =
    let b = c.args.job.now in (
      carried_on b c.loop-k.k _ c.look-u.ensures.bad_is,
      tallied_more b c.loop-k.k c.loop-k.t _ _ c.loop-k.invariant.1 c.look-u.ensures c.added-t.ensures,
    )
