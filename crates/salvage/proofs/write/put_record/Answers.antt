-- `write::put_record` meets its contract: nothing is put of a record that is removed, and one that stays is copied.
use borrow.Author.Rules.{rules}
use mathlib.Core.Bool.{true, not}
use mathlib.Core.Path.{◌≡◌, sym, ◌∙◌, ap}
use Prim.Native.Nat.{◌+◌, ◌*◌, ◌≤◌}
use native.Mathlib.Omega.{arith}
use lib.ListN.{length}
use Rattle.rules.specs.Bytes.{said}
use Rattle.rules.proofs.Kept.{length_most}
use Rattle.job.proofs.Offsets.{move_inside}
use Rattle.salvage.specs.Mended.{stays}
use Rattle.salvage.specs.Salvage.{record_bytes}
use Rattle.salvage.proofs.Bodies.{record_length}
use Rattle.salvage.proofs.Pairing.{records_said, wide_said, bytes_are, stays_found}
use Rattle.salvage.proofs.Putting.{put_skip, put_here, room_here}
use Rattle.salvage.proofs.write.put_record.Goals as goal

pub returns-then-u : goal.returns-then-u
returns-then-u c =
    let b = c.args.job.now in
    put_skip (stays (said b)) (record_bytes b) c.args.k c.args.out.now c.args.at
    (sym (stays_found b c.args.k c.args.u c.requires.turned) ∙ ap not c.if-u.true)

pub overflow_mul-width : goal.overflow_mul-width
overflow_mul-width c =
    let inside : let a = c.args in a.l.moves_at + c.record_size-width.result * a.k + c.record_size-width.result ≤ length a.job.now =
    rw c.record_size-width.ensures (move_inside c.requires.fit_but c.requires.k_lt_records) in
    omega (arith, inside, length_most c.requires.fit_but.keeps)

pub overflow_add-l : goal.overflow_add-l
overflow_add-l c =
    let inside : let a = c.args in a.l.moves_at + c.record_size-width.result * a.k + c.record_size-width.result ≤ length a.job.now =
    rw c.record_size-width.ensures (move_inside c.requires.fit_but c.requires.k_lt_records) in
    omega (arith, inside, length_most c.requires.fit_but.keeps)

pub overflow_add-result : goal.overflow_add-result
overflow_add-result c =
    let kept : let a = c.args in stays (said a.job.now) a.k ≡ true =
    sym (stays_found c.args.job.now c.args.k c.args.u c.requires.turned) ∙ ap not c.if-u.false in
    let long : let a = c.args in length (record_bytes a.job.now a.k) ≡ c.record_size-width.result =
    let h = c.requires.k_lt_records in
    record_length c.requires.fit_but.keeps c.args.k (omega (arith, records_said c.requires.fit_but))
    ∙ sym (c.record_size-width.ensures ∙ wide_said c.requires.fit_but) in
    let b = c.args.job.now in
    let room =
    room_here (stays (said b)) (record_bytes b) c.record_size-width.result c.args.k c.args.at (length c.args.out.now)
    (kept) (long) c.requires.k_in_bounds in
    search rules

pub returns : goal.returns
returns c =
    let kept : let a = c.args in stays (said a.job.now) a.k ≡ true =
    sym (stays_found c.args.job.now c.args.k c.args.u c.requires.turned) ∙ ap not c.if-u.false in
    let long : let a = c.args in length (record_bytes a.job.now a.k) ≡ c.record_size-width.result =
    let h = c.requires.k_lt_records in
    record_length c.requires.fit_but.keeps c.args.k (omega (arith, records_said c.requires.fit_but))
    ∙ sym (c.record_size-width.ensures ∙ wide_said c.requires.fit_but) in
    let b = c.args.job.now in
    put_here (stays (said b)) (record_bytes b) c.record_size-width.result c.args.k c.args.out.now c.args.at _ _ (kept)
    (long) c.copy.ensures (bytes_are c.requires.fit_but c.record_size-width.result c.args.k c.record_size-width.ensures)
