-- `write::write_records` meets its contract: what is gathered of the records passed is put into both outputs, and the rest stays.
use mathlib.Core.Path.{refl}
use native.Mathlib.Omega.{arith}
use Rattle.rules.specs.Bytes.{said}
use Rattle.salvage.specs.Mended.{stays, lists}
use Rattle.salvage.specs.Salvage.{record_bytes, pair_bytes}
use Rattle.salvage.proofs.Pairing.{carried_none, carried_on, records_said}
use Rattle.salvage.proofs.Putting.{filled_none, filled_more, filled_room}
use Rattle.salvage.proofs.write.write_records.Goals as goal

pub loop-k-init : goal.loop-k-init
loop-k-init c =
    let b = c.args.job.now in (
      refl,
      refl,
      carried_none b,
      filled_none (stays (said b)) (record_bytes b) c.args.out.now c.args.l.moves_at,
      filled_none (lists (said b)) (pair_bytes b) c.args.pairs.now 0,
    )

pub put_record-at-requires-clause-k_in_bounds : goal.put_record-at-requires-clause-k_in_bounds
put_record-at-requires-clause-k_in_bounds c =
    let b = c.args.job.now in
    filled_room (stays (said b)) (record_bytes b) c.args.out.now c.args.l.moves_at (said b).records c.loop-k.k c.loop-k.out c.loop-k.at
    c.requires.job_in_bounds c.loop-k.invariant.0 (omega (arith, c.loop-k-test.true, records_said c.requires.fit_but)) c.loop-k.invariant.3

pub put_listed-next-requires-clause-k_in_bounds : goal.put_listed-next-requires-clause-k_in_bounds
put_listed-next-requires-clause-k_in_bounds c =
    let b = c.args.job.now in
    filled_room (lists (said b)) (pair_bytes b) c.args.pairs.now 0 (said b).records c.loop-k.k c.loop-k.pairs c.loop-k.next
    (let g = c.requires.job_in_bounds_2 in omega arith) c.loop-k.invariant.1 (omega (arith, c.loop-k-test.true, records_said c.requires.fit_but))
    c.loop-k.invariant.4

pub loop-k-preserved : goal.loop-k-preserved
loop-k-preserved c =
    let b = c.args.job.now in (
      omega (arith, c.put_record-at.auto.out, c.loop-k.invariant.0),
      omega (arith, c.put_listed-next.auto.out, c.loop-k.invariant.1),
      carried_on b c.loop-k.k _ c.look-u.ensures.bad_is,
      filled_more (stays (said b)) (record_bytes b) c.args.out.now c.args.l.moves_at c.loop-k.k c.loop-k.out c.loop-k.at _ _
          (let h = c.requires.job_in_bounds in omega arith) c.loop-k.invariant.3 c.put_record-at.ensures,
      filled_more (lists (said b)) (pair_bytes b) c.args.pairs.now 0 c.loop-k.k c.loop-k.pairs c.loop-k.next _ _ (omega arith)
          c.loop-k.invariant.4 c.put_listed-next.ensures,
    )
